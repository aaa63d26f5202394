use Rattle.std.proofs.Common.{subst}
use Rattle.ledger_model.specs.Views.{values_of}
use Rattle.simulator.specs.Execution.{IsNotAtHand, IsNotNext, IsUnknown, exec_of}
use Rattle.simulator.specs.Answers.{Answers, IsToldWhere, payload_in}
use Rattle.simulator.specs.declared.refusal.SimRefusal.TheVariants.{UnknownChaincode, NotInstalled, BadMembership}
use Rattle.simulator.proofs.simulation.simulate.Goals as goal

pub returns-clause-answer : goal.returns-clause-answer
returns-clause-answer c =
    subst (λ m. Answers (payload_in (exec_of c.args.book.now) c.args.proposal.now m) c.simulate_in.result) c.map.ensures c.simulate_in.ensures.answer

pub returns-clause-unknown : goal.returns-clause-unknown
returns-clause-unknown c =
    subst (λ m. IsToldWhere UnknownChaincode (IsUnknown c.args.book.now (values_of m) c.args.proposal.now) c.simulate_in.result) c.map.ensures
    c.simulate_in.ensures.unknown

pub returns-clause-not_installed : goal.returns-clause-not_installed
returns-clause-not_installed c =
    subst (λ m. IsToldWhere NotInstalled (IsNotAtHand c.args.book.now (values_of m) c.args.proposal.now) c.simulate_in.result) c.map.ensures
    c.simulate_in.ensures.not_installed

pub returns-clause-bad_membership : goal.returns-clause-bad_membership
returns-clause-bad_membership c =
    subst (λ m. IsToldWhere BadMembership (IsNotNext c.args.book.now (values_of m) c.args.proposal.now) c.simulate_in.result) c.map.ensures
    c.simulate_in.ensures.bad_membership
