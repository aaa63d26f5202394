-- What a simulated call comes to.
use Rattle.std.proofs.Common.{◌≡◌, Result, Ok, Err, IfErr, OnOk, inl, inr, refl}
use Rattle.fab_types.specs.Payloads.{Payload}
use Rattle.fab_types.specs.declared.proposal.Proposal.{Proposal}
use Rattle.ledger_model.specs.Chain.{Chain}
use Rattle.simulator.specs.Answers.{payload_or_refusal}
use Rattle.simulator.specs.Answers as simulator
use Rattle.simulator.specs.Execution.{exec_of}
use Rattle.simulator.specs.declared.refusal.SimRefusal.{SimRefusal}
use Rattle.simulator.specs.declared.refusal.SimRefusal.TheVariants as refusal
use Rattle.ledger_setting.specs.declared.genesis.Genesis.{Genesis}
use Rattle.cli_lines.specs.Lines.{payload_text}
use Rattle.cli_lines.specs.Texts.{simulation_failure}
use Rattle.cli_lines.specs.Told.{Answers, IsBrokenOff, Prints, Told}
use Rattle.cli_lines.specs.declared.failure.Failure.{Failure}
use Rattle.cli_show.specs.Simulations.{SimulatesOn}
use Rattle.cli_show.proofs.Answering.{untold}

broken : (failure : Failure) → failure ≡ simulation_failure refusal.Memory → IsBrokenOff failure
broken failure is = rw is tt

-- no transaction is printed of a call that is refused
pub call_refused : (g : Genesis) (p : Proposal) (chain : Chain) (r : SimRefusal) (failure : Failure) (t : Told) →
    simulator.Answers (payload_or_refusal (exec_of g.book.value) p chain) (Err r) → failure ≡ simulation_failure r →
    Answers (SimulatesOn g p chain) t t (Err failure)
call_refused g p chain refusal.Memory failure t wanted is = inl (broken failure is)
call_refused g p chain refusal.UnknownChaincode failure t wanted is =
    untold (SimulatesOn g p chain) t (Err failure) (refusal.UnknownChaincode, wanted, is, refl)
call_refused g p chain refusal.NotInstalled failure t wanted is = untold (SimulatesOn g p chain) t (Err failure) (refusal.NotInstalled, wanted, is, refl)
call_refused g p chain refusal.BadPolicy failure t wanted is = untold (SimulatesOn g p chain) t (Err failure) (refusal.BadPolicy, wanted, is, refl)
call_refused g p chain refusal.BadMembership failure t wanted is = untold (SimulatesOn g p chain) t (Err failure) (refusal.BadMembership, wanted, is, refl)
call_refused g p chain (refusal.Trapped kind used) failure t wanted is =
    untold (SimulatesOn g p chain) t (Err failure) (refusal.Trapped kind used, wanted, is, refl)
call_refused g p chain refusal.Spent failure t wanted is = untold (SimulatesOn g p chain) t (Err failure) (refusal.Spent, wanted, is, refl)
call_refused g p chain (refusal.Status n) failure t wanted is = untold (SimulatesOn g p chain) t (Err failure) (refusal.Status n, wanted, is, refl)
call_refused g p chain refusal.Stale failure t wanted is = untold (SimulatesOn g p chain) t (Err failure) (refusal.Stale, wanted, is, refl)

pub call_told : (g : Genesis) (p : Proposal) (chain : Chain) (payload : Payload) (t u : Told) (r : Result (Unit {0}) Failure) →
    simulator.Answers (payload_or_refusal (exec_of g.book.value) p chain) (Ok payload) → IfErr r IsBrokenOff → OnOk r (Prints t u (payload_text payload)) →
    Answers (SimulatesOn g p chain) t u r
call_told g p chain payload t u (Ok x) wanted lost printed = inr (payload_text payload, (payload, wanted, refl), printed)
call_told g p chain payload t u (Err f) wanted lost printed = inl lost
