-- What a seat hands out, or why it does not, where a simulation gave a payload.
use Rattle.std.proofs.Common.{◌≡◌, Result, Ok, Err, IfOk, IfErr, refl, sym, subst, inl, inr}
use Rattle.std.specs.Prelude.{IsOk}
use mathlib.Core.List.{IsPrefix}
use Rattle.fab_types.specs.declared.proposal.Proposal.{Proposal}
use Rattle.fab_types.specs.Payloads.{Payload}
use Rattle.fab_types.specs.declared.envelope.Endorsement.{Endorsement}
use Rattle.ledger_model.specs.Chain.{Chain}
use Rattle.simulator.specs.declared.refusal.SimRefusal.{SimRefusal}
use Rattle.simulator.specs.declared.refusal.SimRefusal.TheVariants.{UnknownChaincode, NotInstalled, BadPolicy, BadMembership, Trapped, Spent, Status, Stale, Memory}
use Rattle.snapshot_cell.specs.declared.refusal.TakeRefusal.{TakeRefusal}
use Rattle.snapshot_cell.specs.declared.refusal.TakeRefusal.TheVariants as take
use Rattle.endorser.specs.Endorsing.{Endorsing}
use Rattle.peer_node.specs.declared.refusal.FinishRefusal.{FinishRefusal}
use Rattle.peer_node.specs.declared.refusal.FinishRefusal.TheVariants.{Simulation, NotEntered}
use Rattle.peer_node.specs.Refusals.{of_take}
use Rattle.peer_node.specs.Seats.{FinishesBy, IsEndorsed, IsNotEndorsed, simulated_on}

-- a refusal that is handed on for each proposal whose simulation gave this payload
abbrev pub Finishes : (before after : Chain) → Payload → FinishRefusal → Type 0
Finishes before after payload r =
    (e : Endorsing) (p : Proposal) (first : Chain) → simulated_on e p first ≡ Ok payload → FinishesBy e p first before after (Err r)

is_done : (payload : Payload) (r : Result Payload SimRefusal) → r ≡ Ok payload → IsOk r
is_done payload r is = subst (λ (r : Result Payload SimRefusal). IsOk r) (sym is) refl

refused_take : (before after : Chain) (payload : Payload) (t : TakeRefusal) → after ≡ before → Finishes before after payload (of_take t)
refused_take before after payload take.NotEntered same = λ e p first done. (is_done payload (simulated_on e p first) done, same)
refused_take before after payload take.Memory same = λ e p first done. inl same

-- no snapshot was taken
pub not_taken : (before after : Chain) (payload : Payload) (t : TakeRefusal) (r : Result Endorsement FinishRefusal) → r ≡ Err (of_take t) → after ≡ before →
    IfErr r (Finishes before after payload)
not_taken before after payload t r is same =
    subst (λ (r : Result Endorsement FinishRefusal). IfErr r (Finishes before after payload)) (sym is) (refused_take before after payload t same)

refused_on : (before after : Chain) (payload : Payload) (r : FinishRefusal) → IsPrefix before after → IsNotEndorsed after payload r →
    Finishes before after payload r
refused_on before after payload (Simulation Stale) begins why = λ e p first done. (payload, done, begins, why)
refused_on before after payload (Simulation Memory) begins why = λ e p first done. inr (is_done payload (simulated_on e p first) done, begins)
refused_on before after payload (Simulation UnknownChaincode) begins why = absurd why
refused_on before after payload (Simulation NotInstalled) begins why = absurd why
refused_on before after payload (Simulation BadPolicy) begins why = absurd why
refused_on before after payload (Simulation BadMembership) begins why = absurd why
refused_on before after payload (Simulation (Trapped kind used)) begins why = absurd why
refused_on before after payload (Simulation Spent) begins why = absurd why
refused_on before after payload (Simulation (Status n)) begins why = absurd why
refused_on before after payload NotEntered begins why = absurd why

-- by what an endorsement on the snapshot that was taken came to
pub not_endorsed : (before after shown : Chain) (payload : Payload) (r : Result Endorsement FinishRefusal) → IsPrefix before shown → after ≡ shown →
    IfErr r (IsNotEndorsed shown payload) → IfErr r (Finishes before after payload)
not_endorsed before after shown payload (Ok tag) begins same why = tt
not_endorsed before after shown payload (Err r) begins same why =
    subst (λ (c : Chain). Finishes before c payload r) (sym same) (refused_on before shown payload r begins why)

pub endorsed : (e : Endorsing) (before after shown : Chain) (payload : Payload) (r : Result Endorsement FinishRefusal) → IsPrefix before shown → after ≡ shown
    → IfOk r (λ tag. IsEndorsed e shown payload tag) → IfOk r (λ tag. IsPrefix before after × IsEndorsed e after payload tag)
endorsed e before after shown payload (Ok tag) begins same done =
    subst (λ (c : Chain). IsPrefix before c × IsEndorsed e c payload tag) (sym same) (begins, done)
endorsed e before after shown payload (Err r) begins same done = tt
