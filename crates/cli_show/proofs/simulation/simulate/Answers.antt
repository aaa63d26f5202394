use Rattle.std.proofs.Common.{Some, inl, subst, ◌∙◌, refl}
use Rattle.std.proofs.lemmas.Result.{err_from_is_err_and}
use Rattle.ledger_model.specs.Chain.{Chain}
use Rattle.kept_state.specs.Keeping.{chain_of}
use Rattle.cli_lines.proofs.Answering.{answers_by, begins_by}
use Rattle.cli_lines.specs.Told.{Answers, Begins, IsTextOf}
use Rattle.cli_lines.proofs.Printing.{nothing_same}
use Rattle.cli_lines.proofs.Silence.{no_less, tells_by}
use Rattle.cli_show.specs.Answers.{UnlessFault, block_fault}
use Rattle.cli_show.specs.Simulations.{Simulates, SimulatesOn}
use Rattle.cli_show.proofs.simulation.simulate.Goals as goal

pub returns-in_err-replayed-in-Some : goal.returns-in_err-replayed-in-Some
returns-in_err-replayed-in-Some g c =
    let p = err_from_is_err_and c.from_residual.result c.from_residual.ensures.1 in
    rw (p.1, p.2) (record {
      tells = tells_by c.args.out.now c.args.out.now _ (no_less c.args.out.now) c.in_err-replayed-in-Some.ensures.silent;
      answers = inl c.in_err-replayed-in-Some.ensures.lost;
      begins = λ broken. inl (nothing_same c.args.out.now);
      kept = c.in_err-replayed-in-Some.ensures.kept;
    })

pub returns-in-None-clause-answers : goal.returns-in-None-clause-answers
returns-in-None-clause-answers g c =
    let p = c.args.simulated.now.proposal.now in
    let last = c.print_call in
    rw c.in-None.is (subst (λ (chain : Chain). Answers (SimulatesOn c.args.genesis.now p chain) c.args.out.now last.new.out last.result)
    c.empty-empty.ensures.chain
    last.ensures.answers)

pub returns-in_ok-replayed-in-Some-clause-answers : goal.returns-in_ok-replayed-in-Some-clause-answers
returns-in_ok-replayed-in-Some-clause-answers g c =
    let genesis = c.args.genesis.now in
    let p = c.args.simulated.now.proposal.now in
    let r = c.in_ok-replayed-in-Some.replayed in
    let last = c.print_call_after in
    rw c.in-Some.is (answers_by (UnlessFault (block_fault r.refused r.end) (SimulatesOn genesis p (chain_of r.chain)))
    (Simulates genesis p (Some (g.F.Files.bytes c.args.files.now c.in-Some.name.now))) c.args.out.now last.new.out last.result
    (λ text h. (r, c.in_ok-replayed-in-Some.ensures.replayed, h)) last.ensures.answers)

pub returns-in-None-clause-begins : goal.returns-in-None-clause-begins
returns-in-None-clause-begins g c =
    let p = c.args.simulated.now.proposal.now in
    let last = c.print_call in
    rw c.in-None.is (subst (λ (chain : Chain). Begins (IsTextOf (SimulatesOn c.args.genesis.now p chain)) c.args.out.now last.new.out last.result)
    c.empty-empty.ensures.chain last.ensures.begins)

pub returns-in_ok-replayed-in-Some-clause-begins : goal.returns-in_ok-replayed-in-Some-clause-begins
returns-in_ok-replayed-in-Some-clause-begins g c =
    let genesis = c.args.genesis.now in
    let p = c.args.simulated.now.proposal.now in
    let r = c.in_ok-replayed-in-Some.replayed in
    let last = c.print_call_after in
    rw c.in-Some.is (begins_by (IsTextOf (UnlessFault (block_fault r.refused r.end) (SimulatesOn genesis p (chain_of r.chain))))
    (IsTextOf (Simulates genesis p (Some (g.F.Files.bytes c.args.files.now c.in-Some.name.now)))) c.args.out.now last.new.out last.result
    (λ text h. (h.0, (r, c.in_ok-replayed-in-Some.ensures.replayed, h.1))) last.ensures.begins)

pub returns-in_ok-replayed-in-Some-clause-kept : goal.returns-in_ok-replayed-in-Some-clause-kept
returns-in_ok-replayed-in-Some-clause-kept g c = c.explain_chain.ensures.kept ∙ c.in_ok-replayed-in-Some.ensures.kept

pub returns-in-None-clause-kept : goal.returns-in-None-clause-kept
returns-in-None-clause-kept g c = refl

pub returns-in-None-clause-tells : goal.returns-in-None-clause-tells
returns-in-None-clause-tells g c = c.print_call.ensures.tells

pub returns-in_ok-replayed-in-Some-clause-tells : goal.returns-in_ok-replayed-in-Some-clause-tells
returns-in_ok-replayed-in-Some-clause-tells g c = c.print_call_after.ensures.tells

pub print_call_after-requires : goal.print_call_after-requires
print_call_after-requires g c = record { kept = c.in_ok-replayed-in-Some.ensures.replayed.2.kept }
