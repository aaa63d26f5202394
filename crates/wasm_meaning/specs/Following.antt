-- Two hosts that answer alike along an execution.
use Rattle.std.specs.Prelude.{◌≡◌, ℕ, List}
use Rattle.wasm_ast.specs.declared.host_call.HostCall.{HostCall}
use Rattle.wasm_meaning.specs.Values.{Answer, Next, Branch, Returns, Trapped, Spent, Stuck, Answering}

-- a fact of the records at the end; where an execution gets stuck there are none
abbrev pub Ends : {R : Type 0} → (R → Type 0) → Answer R → Type 0
Ends P (Next f s l w) = P w.records
Ends P (Branch k f s l w) = P w.records
Ends P (Returns f s l w) = P w.records
Ends P (Trapped why f w) = P w.records
Ends P (Spent w) = P w.records
Ends P Stuck = ⊥

-- where P holds after a call it held before it, and the two hosts answer that call alike
abbrev pub Follows : {R : Type 0} → (h g : Answering R) → (R → Type 0) → Type 0
Follows {R} h g P = (which : HostCall) (args memory : List ℕ) (r : R) → P (h which args memory r).records →
    P r × (h which args memory r ≡ g which args memory r)
