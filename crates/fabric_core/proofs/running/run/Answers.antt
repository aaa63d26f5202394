use Rattle.std.proofs.Common.{◌≡◌, ◌∙◌, ap, sym, subst, Some, slice_get, take, Bool, List, refl, arith}
use Rattle.ledger_model.specs.Execution.{ReadsAlone}
use Rattle.ledger_model.specs.Chain.{Envelope, Placed}
use Rattle.ledger_model.specs.State.{state}
use Rattle.endorsement_policy.specs.Endorsed.{is_endorsed}
use Rattle.simulator.specs.Execution.{exec_of}
use Rattle.ledger_setting.specs.Limits.{limits_of}
use Rattle.fabric_core.specs.System.{Rules, World, Reply, fresh_orderer, IsStep, AreSteps}
use Rattle.fabric_core.specs.Inside.{rules_of}
use Rattle.fabric_core.specs.System.{opening}
use Rattle.fabric_core.proofs.Lists.{get_here}
use Rattle.wire.specs.Ids.{id_of}
use Rattle.fabric_core.proofs.Conflicts.{older_run}
use Rattle.fabric_core.proofs.Fitting.{fits_if}
use Rattle.fabric_core.proofs.Genuine.{DoCarry}
use Rattle.fabric_core.proofs.Runs.{ok_of, err_of, run_more, run_all, run_part, honest_of}
use Rattle.fabric_core.proofs.running.run.Goals as goal
use Rattle.fabric_core.proofs.running.run.Goals.{else-loop-event-test, then-loop-event-test+then-is_err}

pub loop-event-preserved : goal.loop-event-preserved
loop-event-preserved c =
    let inv = c.loop-event.invariant in
    let old = c.loop-event.ran in
    let new = c.advance.new.self in
    let i = c.loop-event.event-index in
    let events = c.args.events.now in
    let e = c.event-item.result in
    let exec = exec_of in
    let r = rules_of (exec c.args.genesis.now.book.value) c.args.genesis.now.rules.value c.args.genesis.now.signers.value c.args.genesis.now.queue in
    let genesis = c.args.genesis.now in
    let start = opening genesis.rules.value.edition genesis.peers.items genesis.seats (limits_of genesis) genesis.reorder in
    let h = ok_of _ c.advance.result (sym c.is_err.ensures.value ∙ c.if-is_err.false) c.advance.ensures.step in
    let here : slice_get events i ≡ Some e = get_here events i e (omega (arith, c.loop-event-test.true)) ∙ ap Some (sym c.event-item.is) in
    let same : rules_of (exec old.system.book) old.system.rules old.system.seeds old.system.capacity ≡ r =
    λ j. rules_of (exec (inv.book j)) (inv.rules j) (inv.seeds j) (inv.capacity j) in
    let told : IsStep r old.system.world e h.0 new.system.world =
    subst (λ (s : Rules). IsStep s old.system.world e h.0 new.system.world) same h.1 in
    let more = run_more r start old.system.world new.system.world events i e h.0 old.replies.items new.replies.items here inv.steps told h.2 in
    record {
      refused = c.advance.ensures.refused ∙ inv.refused;
      steps = more;
      book = c.advance.ensures.keeps.0 ∙ inv.book;
      rules = c.advance.ensures.keeps.1 ∙ inv.rules;
      seeds = c.advance.ensures.keeps.2 ∙ inv.seeds;
      capacity = c.advance.ensures.keeps.3 ∙ inv.capacity;
    }

pub returns-clause-run : goal.returns-clause-run
returns-clause-run c =
    let r = rules_of (exec_of c.args.genesis.now.book.value) c.args.genesis.now.rules.value c.args.genesis.now.signers.value c.args.genesis.now.queue in
    let inv = c.loop-event.invariant in
    let genesis = c.args.genesis.now in
    let events = c.args.events.now in
    let ran = c.loop-event-test.ran in
    let i = c.loop-event.event-index in
    let limits = limits_of genesis in
    let start = opening genesis.rules.value.edition genesis.peers.items genesis.seats limits genesis.reorder in
    let law = c.ordering_laws.ensures.step in
    let unread = fresh_orderer genesis.rules.value.edition limits genesis.reorder in
    let began = c.ordering_laws.ensures.opening unread (omega (arith, genesis.count_in_range.0)) (refl, refl) in
    let steps : (more : List Reply) (w : World) → more ≡ c.loop-event.ran.replies.items → w ≡ c.loop-event.ran.system.world →
    AreSteps r start (take i events) more w =
    λ more w a b. subst (λ (x : World). AreSteps r start (take i events) more x) (sym b)
    (subst (λ (rs : List Reply). AreSteps r start (take i events) rs c.loop-event.ran.system.world) (sym a) inv.steps)
    in
    elim c.loop-event-test.branch [
      | else-loop-event-test w ↦
          run_all r genesis.peers.items genesis.seats limits genesis.reorder events ran.replies.items ran.system.world ran.refused i law began
          (steps ran.replies.items ran.system.world (ap (λ x. x.replies.items) w.ran-is) (ap (λ x. x.system.world) w.ran-is))
          (ap (λ x. x.refused) w.ran-is ∙ inv.refused) w.loop-event-test.false
      | then-loop-event-test+then-is_err w ↦
          let err = sym w.is_err.ensures.value ∙ w.if-is_err.true in
          run_part r genesis.peers.items genesis.seats limits genesis.reorder events ran.replies.items ran.system.world ran.refused i law began
          (steps ran.replies.items ran.system.world (ap (λ x. x.replies.items) w.ran-is ∙ err_of _ w.advance.result err w.advance.ensures.replies)
          (ap (λ x. x.system.world) w.ran-is ∙ ap (λ x. x.world) (err_of _ w.advance.result err w.advance.ensures.system)))
          (ap (λ x. x.refused) w.ran-is) (omega (arith, w.loop-event-test.true))
    ]

pub returns-clause-honest : goal.returns-clause-honest
returns-clause-honest c peer chain is =
    let genesis = c.args.genesis.now in
    let ran = c.loop-event-test.ran in
    let alone : ReadsAlone (exec_of genesis.book.value) =
    subst (λ b. ReadsAlone (exec_of b)) c.deref.ensures (record { truthful = c.reads_alone.ensures.truthful; only = c.reads_alone.ensures.only })
    in
    let carries : DoCarry genesis.rules.value = subst DoCarry c.deref-2.ensures c.an_endorsed_envelope_carries_a_right_tag.ensures
    in
    honest_of (exec_of genesis.book.value) alone genesis.rules.value carries genesis.signers.value genesis.queue genesis.peers.items genesis.seats
    (limits_of genesis) genesis.reorder c.args.events.now ran.replies.items ran.system.world ran.refused (returns-clause-run c) peer chain is

pub returns-clause-conflicts : goal.returns-clause-conflicts
returns-clause-conflicts c on peer chain is =
    let genesis = c.args.genesis.now in
    let ran = c.loop-event-test.ran in
    let r = rules_of (exec_of genesis.book.value) genesis.rules.value genesis.signers.value genesis.queue in
    let endorsed : List Placed → Envelope → Bool = λ before. is_endorsed genesis.rules.value (state before) in
    older_run genesis.rules.value.edition id_of endorsed r genesis.peers.items genesis.seats (limits_of genesis) genesis.reorder c.args.events.now
    ran.replies.items ran.system.world ran.refused refl (returns-clause-run c) on peer chain is

pub returns-clause-fits : goal.returns-clause-fits
returns-clause-fits c peer chain next is there =
    let genesis = c.args.genesis.now in
    let w = c.loop-event-test.ran.system.world in
    let r = rules_of (exec_of genesis.book.value) genesis.rules.value genesis.signers.value genesis.queue in
    fits_if r w (slice_get w.peers peer) chain next c.blocks-blocks.ensures.linked c.blocks-blocks.ensures.count is there
