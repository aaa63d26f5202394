use Rattle.std.proofs.Common.{◌≡◌, ◌*◌, ◌<◌, ◌^◌, ◌∙◌, ℕ, List, [], length, sym, ap, subst, arith}
use Rattle.std.specs.Arc.{arc_value}
use mathlib.Core.List.{IsPrefix}
use Rattle.fab_types.specs.declared.envelope.Envelope.{Envelope}
use Rattle.intake.specs.declared.rule.View.{View}
use Rattle.intake.specs.Seats.{knows}
use Rattle.chaincode_book.specs.Books.{Book}
use Rattle.ledger_model.specs.Chain.{Chain, history}
use Rattle.ledger_model.specs.Serial.{AllHandedOut}
use Rattle.simulator.specs.Execution.{exec_of}
use Rattle.snapshot_cell.specs.Seats.{told_list}
use Rattle.peer_node.specs.Writers.{rules_of}
use Rattle.endorsement_policy.specs.Endorsed.{Listed}
use Rattle.ledger_model.specs.Judged.{judged_chain}
use Rattle.ledger_setting.specs.Rule.{table_of}
use Rattle.ledger_setting.specs.declared.verdict.Audit.TheVariants.{Agrees}
use Rattle.fabric_core.specs.Audit.{AuditSays, valid_count}
use Rattle.seat_threads.specs.Desks.{envelopes_got}
use Rattle.seat_threads.specs.Rounds.{rounds_in}
use Rattle.seat_threads.specs.Work.{Home, AllPromise, HasRetired}
use Rattle.seat_threads.proofs.Chaining.{whole_chain}
use Rattle.seat_threads.proofs.Telling.{all_counted, same_home, told, refused_by_counts, if_ok, if_err, both_ok}
use Rattle.seat_threads.proofs.running.at_work.Goals as goal

pub retire-seen-requires-clause-each : goal.retire-seen-requires-clause-each
retire-seen-requires-clause-each g c =
    let task = c.requires.workers.0 in
    let threads = c.start_all-started.new.self.threads.items in
    let promised = c.start_all-started.ensures.each task _ c.requires.workers.1 c.requires.workers.2 in (
      task,
      omega (arith, c.requires.workers.1, c.ranges.rounds.fits),
      subst (λ (h : Home). AllPromise task h threads) (sym (same_home c.take_until_ended.new.desk c.args.desk.now c.take_until_ended.ensures.same)) promised,
    )

-- the peer is the one that the seats are of
pub learn-requires : goal.learn-requires
learn-requires g c =
    c.told.ensures.0 ∙ (c.tick.ensures.same.4 ∙ (c.take_rest.ensures.same.4 ∙ (c.retire-seen.ensures.same.4 ∙ sym c.retire-seen.ensures.seen)))

pub returns-clause-counted : goal.returns-clause-counted
returns-clause-counted g c =
    let task = c.requires.workers.0 in
    let seats = length c.args.workers.now.items in
    let counts = c.retire-seen.result.0 in
    let threads = c.start_all-started.new.self.threads.items in
    let promised = subst (λ (h : Home). AllPromise task h threads) (sym (same_home c.take_until_ended.new.desk c.args.desk.now c.take_until_ended.ensures.same))
    (c.start_all-started.ensures.each task _ c.requires.workers.1 c.requires.workers.2) in
    let all : rounds_in counts ≡ length threads * task.rounds =
    all_counted task _ (length threads) counts _ _ (c.retire-seen.ensures.retired task promised) in
    let each : rounds_in counts ≡ seats * c.args.rounds =
    all ∙ (ap (λ (k : ℕ). k * task.rounds) c.in_ok-started.ensures.all ∙ ap (λ (k : ℕ). seats * k) (sym c.requires.workers.1)) in
    if_ok _ _ c.reported.result (λ r h. omega (arith, ap rounds_in h, each)) c.reported.ensures.counted

pub returns-clause-tells : goal.returns-clause-tells
returns-clause-tells g c =
    let seats = length c.args.workers.now.items in
    let counts = c.retire-seen.result.0 in
    let seen = told_list c.retire-seen.result.1 in
    let whole = told_list c.learn.new.self in
    let threads = c.start_all-started.new.self.threads.items in
    let desk = c.tick.new.self in
    let blocks = desk.orderer.chain in
    let v = knows c.take_rest.new.self.receiver in
    let first = c.take_until_ended.ensures in
    let retire = c.retire-seen.ensures in
    let rest = c.take_rest.ensures in
    let tick = c.tick.ensures in
    let reported = c.reported.ensures in
    let old = first.known.0 ∙ ap (λ (k : View). k.known) c.requires.receiver in
    let senders = rest.known.1 ∙ (retire.senders ∙ (first.known.1 ∙ ap (λ (k : View). k.senders) c.requires.receiver)) in
    let rules = tick.same.1 ∙ (rest.same.1 ∙ (retire.same.1 ∙ first.same.1)) in
    let limits = tick.same.2 ∙ (rest.same.2 ∙ (retire.same.2 ∙ first.same.2)) in
    let reorder = tick.same.3 ∙ (rest.same.3 ∙ (retire.same.3 ∙ first.same.3)) in
    let edition = tick.same.5 ∙ (rest.same.5 ∙ (retire.same.5 ∙ first.same.5)) in
    if_ok _ _ c.reported.result
    (λ r h task same book by_genesis listed ordered_by workers.
    let promised = subst (λ (k : Home). AllPromise task k threads) (sym (same_home c.take_until_ended.new.desk c.args.desk.now first.same))
    (c.start_all-started.ensures.each task _ same workers) in
    let retired = retire.retired task promised in
    let known = subst (λ (l : List (ℕ × List Envelope)). HasRetired task seen (length threads) counts (knows c.take_until_ended.new.desk.receiver).known l)
    (sym rest.known.0) retired in
    let fresh = subst (λ (l : List (ℕ × List Envelope)). HasRetired task seen (length threads) counts l v.known) old known in
    let all = subst (λ (k : ℕ). HasRetired task seen k counts [] v.known) c.in_ok-started.ensures.all fresh in
    let short : task.rounds < 2 ^ 32 = omega (arith, same, c.ranges.rounds.fits) in
    let chain = h.1.1.1.0 in
    let by = ap arc_value rules ∙ sym listed in
    let by_rules = subst (λ (l : Listed). AuditSays (exec_of (arc_value c.args.genesis.now.book)) (judged_chain (table_of l) blocks) r.audit) by chain.2 in
    let audited = subst (λ (b : Book). AuditSays (exec_of b) (judged_chain (table_of task.endorsing.listed) blocks) r.audit) (sym book) by_rules in
    let published = whole_chain (arc_value (rules_of c.args.desk.now.writer)) desk (ap arc_value rules) tick.step h.1.0 in
    let begun = subst (λ (l : Chain). IsPrefix l whole) (c.told.ensures.1 ∙ published) c.learn.ensures.others in
    let begins = subst (λ (l : Listed). IsPrefix (judged_chain (table_of l) blocks) whole) (sym listed) begun in
    let committed = judged_chain (table_of task.endorsing.listed) blocks in
    let honest = subst
    (λ (b : Book). AllHandedOut (exec_of b) committed (history committed) → r.audit ≡ Agrees (valid_count (history committed)))
    (sym book) (h.1.1.1.1 committed (ap (λ (l : Listed). judged_chain (table_of l) blocks) by_genesis)
    (by ∙ by_genesis)) in
    told task seen whole seats counts v desk _ _ r c.requires.count short all c.learn.ensures.mine begins senders rest.none
    (tick.cut (envelopes_got v.got) rest.work.2 h.1.0) (edition ∙ ordered_by) reorder limits h.0 h.1.1.0 (chain.0, chain.1, audited) honest)
    (both_ok _ _ c.reported.result reported.counted
    (both_ok _ _ c.reported.result reported.starved
    (both_ok _ _ c.reported.result reported.missing (both_ok _ _ c.reported.result reported.chain reported.honest))))

pub returns-clause-refused : goal.returns-clause-refused
returns-clause-refused g c =
    let seats = length c.args.workers.now.items in
    let counts = c.retire-seen.result.0 in
    let seen = told_list c.retire-seen.result.1 in
    let threads = c.start_all-started.new.self.threads.items in
    if_err _ _ c.reported.result
    (λ r why task same workers.
    let promised = subst (λ (h : Home). AllPromise task h threads) (sym (same_home c.take_until_ended.new.desk c.args.desk.now c.take_until_ended.ensures.same))
    (c.start_all-started.ensures.each task _ same workers) in
    let retired = subst (λ (k : ℕ). HasRetired task seen k counts (knows c.take_until_ended.new.desk.receiver).known (knows c.retire-seen.new.desk.receiver).known)
    c.in_ok-started.ensures.all (c.retire-seen.ensures.retired task promised) in
    refused_by_counts task seen seats counts _ _ r retired why)
    c.reported.ensures.refused
