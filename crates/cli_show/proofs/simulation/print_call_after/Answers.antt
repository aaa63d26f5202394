use Rattle.std.proofs.Common.{inl, Option, Some, Err, refl, sym, ◌∙◌, subst}
use Rattle.kept_state.specs.Keeping.{chain_of}
use Rattle.cli_lines.specs.Told.{Answers, Begins, IsTextOf}
use Rattle.cli_lines.specs.declared.failure.Failure.{Failure}
use Rattle.cli_lines.proofs.Printing.{nothing_same}
use Rattle.cli_show.specs.Answers.{UnlessFault}
use Rattle.cli_show.specs.Simulations.{SimulatesOn}
use Rattle.cli_show.proofs.Answering.{untold}
use Rattle.cli_show.proofs.simulation.print_call_after.Goals as goal

pub returns-in-Some-clause-answers : goal.returns-in-Some-clause-answers
returns-in-Some-clause-answers g c =
    let r = c.args.replayed.now in
    let does = SimulatesOn c.args.genesis.now c.args.proposal.now (chain_of r.chain) in
    let is = sym c.in-Some.is ∙ c.chain_fault.ensures in
    subst (λ (o : Option Failure). Answers (UnlessFault o does) c.args.out.now c.args.out.now (Err c.in-Some.failure)) is
    (untold (UnlessFault (Some c.in-Some.failure) does) c.args.out.now (Err c.in-Some.failure) (refl, refl))

pub returns-in-None-clause-answers : goal.returns-in-None-clause-answers
returns-in-None-clause-answers g c =
    let r = c.args.replayed.now in
    let does = SimulatesOn c.args.genesis.now c.args.proposal.now (chain_of r.chain) in
    let is = sym c.in-None.is ∙ c.chain_fault.ensures in
    subst (λ (o : Option Failure). Answers (UnlessFault o does) c.args.out.now c.print_call.new.out c.print_call.result) is
    c.print_call.ensures.answers

pub returns-in-Some-clause-begins : goal.returns-in-Some-clause-begins
returns-in-Some-clause-begins g c = λ broken. inl (nothing_same c.args.out.now)

pub returns-in-None-clause-begins : goal.returns-in-None-clause-begins
returns-in-None-clause-begins g c =
    let r = c.args.replayed.now in
    let does = SimulatesOn c.args.genesis.now c.args.proposal.now (chain_of r.chain) in
    let is = sym c.in-None.is ∙ c.chain_fault.ensures in
    subst (λ (o : Option Failure). Begins (IsTextOf (UnlessFault o does)) c.args.out.now c.print_call.new.out c.print_call.result) is
    c.print_call.ensures.begins
