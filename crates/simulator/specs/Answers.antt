-- What a caller is given of an execution: a payload or a record where it is done, else the refusal that is its ending.
use Rattle.std.specs.Prelude.{◌≡◌, ◌==◌, ℕ, Bool, List, [], ◌∷◌, Result, Ok, Err, map, unwrap_or}
use Rattle.std.specs.List.{find}
use Rattle.fab_types.specs.declared.items.WriteItem.{WriteItem}
use Rattle.fab_types.specs.declared.proposal.Proposal.{Proposal}
use Rattle.fab_types.specs.Payloads.{Payload}
use Rattle.ledger_model.specs.Chain.{Bytes, Chain, history}
use Rattle.ledger_model.specs.Views.{Plain, Versioned, values_of}
use Rattle.ledger_model.specs.State.{state}
use Rattle.ledger_model.specs.Execution.{Ending, Unknown, NotInstalled, BadPolicy, BadMembership, Trapped, Spent, Status, Done, Seen, Outcome, Exec, payload_of}
use Rattle.ledger_model.specs.Serial.{seen_key, seen_keys, read_key, range_keys}
use Rattle.wasm_ast.specs.declared.trap.Trap.{Trap}
use Rattle.wasm_ast.specs.declared.trap.Trap.TheVariants as trap
use Rattle.wasm_ast.specs.Traps.{trap_number}
use Rattle.host_api.specs.Parts.{parts_of}
use Rattle.host_api.specs.declared.recorder.Parts.{Parts}
pub use Rattle.simulator.specs.declared.refusal.SimRefusal.{SimRefusal}
use Rattle.simulator.specs.declared.refusal.SimRefusal.TheVariants as refusal

abbrev pub traps : List Trap
traps =
    trap.Unreachable ∷ trap.DivideByZero ∷ trap.IntegerOverflow ∷ trap.OutOfBounds ∷ trap.UndefinedElement ∷ trap.UninitializedElement ∷ trap.IndirectCallType ∷
    trap.CallDepth ∷ []

-- the trap of a number, 1 to 8
abbrev pub trap_of : ℕ → Trap
trap_of n = unwrap_or (find (λ t. trap_number t == n) traps) trap.Unreachable

abbrev pub done_or_refusal : {X : Type 0} → Ending → X → Result X SimRefusal
done_or_refusal Done x = Ok x
done_or_refusal Unknown x = Err refusal.UnknownChaincode
done_or_refusal NotInstalled x = Err refusal.NotInstalled
done_or_refusal BadPolicy x = Err refusal.BadPolicy
done_or_refusal BadMembership x = Err refusal.BadMembership
done_or_refusal (Trapped kind used) x = Err (refusal.Trapped (trap_of kind) used)
done_or_refusal Spent x = Err refusal.Spent
done_or_refusal (Status n) x = Err (refusal.Status n)

-- a call answers what it is to answer, but for want of memory
abbrev pub Answers : {X : Type 0} → Result X SimRefusal → Result X SimRefusal → Type 0
Answers wanted (Err refusal.Memory) = Unit {0}
Answers wanted result = wanted ≡ result

-- the refusal is told only where P holds, and where P holds nothing else is told but want of memory
pub record IsToldWhere {X : Type 0} (refusal : SimRefusal) (P : Type 0) (result : Result X SimRefusal) : Type 0 where
  pub only : result ≡ Err refusal → P
  pub told : P → Answers (Err refusal) result

-- of an execution on a state: the payload has the versions of that state
abbrev pub payload_in : Exec → Proposal → Versioned → Result Payload SimRefusal
payload_in exec p m =
    let o = exec p (values_of m) in
    done_or_refusal o.ending (payload_of p m o.seen)

-- the same on the state after a chain
abbrev pub payload_or_refusal : Exec → Proposal → Chain → Result Payload SimRefusal
payload_or_refusal exec p chain = payload_in exec p (state (history chain))

-- of an execution on a state: the parts of a payload, with the versions of that state
abbrev pub parts_or_refusal : (Plain → Outcome) → Versioned → Result Parts SimRefusal
parts_or_refusal run m =
    let o = run (values_of m) in
    done_or_refusal o.ending (parts_of m o.seen)

-- what a rerun tells: the keys read and whether each was there, the ranges with the keys of their entries, the result and the writes
pub record Rerun : Type 0 where
  pub reads : List (Bytes × Bool)
  pub ranges : List (Bytes × Bytes × ℕ × List Bytes)
  pub result : Bytes
  pub writes : List WriteItem

abbrev pub rerun_of : Seen → Rerun
rerun_of s = record { reads = map seen_key s.reads; ranges = map seen_keys s.ranges; result = s.result; writes = s.writes }

-- of an execution on a plain state
abbrev pub rerun_or_refusal : Outcome → Result Rerun SimRefusal
rerun_or_refusal o = done_or_refusal o.ending (rerun_of o.seen)

-- the same of what was recorded on a plain state, whose versions say nothing
abbrev pub told_by : Parts → Rerun
told_by p = record { reads = map read_key p.reads; ranges = map range_keys p.ranges; result = p.result; writes = p.writes }

abbrev pub told_in : Result Parts SimRefusal → Result Rerun SimRefusal
told_in (Ok p) = Ok (told_by p)
told_in (Err e) = Err e
