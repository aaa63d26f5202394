-- The execution of a chaincode's module, and that it depends only on what it read.
use Rattle.std.specs.Prelude.{◌≡◌, ℕ, ◌-◌, [], ◌∷◌, ◌==◌, if◌then◌else◌}
use Rattle.wasm_ast.specs.declared.module.Module.{Module}
use Rattle.wasm_ast.specs.Traps.{trap_number}
use Rattle.wasm_meaning.specs.Values.{Answer, Next, Branch, Returns, Trapped, Spent, Stuck}
use Rattle.wasm_meaning.specs.Program.{invocation}
use Rattle.ledger_model.specs.Views.{Plain}
use Rattle.ledger_model.specs.Execution as ledger
use Rattle.host_api.specs.Given.{Given}
use Rattle.host_api.specs.Recorded.{Recorded, nothing_recorded, seen_on}
use Rattle.host_api.specs.HostStep.{host_step}

abbrev pub outcome_with : ledger.Ending → Plain → Recorded → ledger.Outcome
outcome_with ending m s = record { ending = ending; seen = seen_on m s }

-- status 0 is success
abbrev pub ending_of : (status : ℕ) → ledger.Ending
ending_of status = if (status == 0) then ledger.Done else ledger.Status status

-- How an execution that was given this fuel ended on a plain state, and what it saw there. That of a valid module ends with one
-- word, a trap or its fuel spent; the other cases stand for nothing.
abbrev pub outcome_of : (fuel : ℕ) → Plain → Answer Recorded → ledger.Outcome
outcome_of fuel m (Next left (v ∷ []) l w) = outcome_with (ending_of v.word) m w.records
outcome_of fuel m (Trapped why left w) = outcome_with (ledger.Trapped (trap_number why) (fuel - left)) m w.records
outcome_of fuel m (Spent w) = outcome_with ledger.Spent m w.records
outcome_of fuel m (Next left [] l w) = outcome_with ledger.Unknown m nothing_recorded
outcome_of fuel m (Next left (v ∷ u ∷ s) l w) = outcome_with ledger.Unknown m nothing_recorded
outcome_of fuel m (Branch k left s l w) = outcome_with ledger.Unknown m nothing_recorded
outcome_of fuel m (Returns left s l w) = outcome_with ledger.Unknown m nothing_recorded
outcome_of fuel m Stuck = outcome_with ledger.Unknown m nothing_recorded

-- `invoke` on a fresh instance, with a host that has recorded nothing
abbrev pub execution : Module → (fuel : ℕ) → (given : Given) → Plain → Answer Recorded
execution wasm fuel given m = invocation wasm (host_step m given) nothing_recorded fuel

abbrev pub outcome : Module → (fuel : ℕ) → (given : Given) → Plain → ledger.Outcome
outcome wasm fuel given m = outcome_of fuel m (execution wasm fuel given m)

-- what it saw is so, and on each state where that is so it comes to the same
pub record ReadsAlone (wasm : Module) (fuel : ℕ) (given : Given) : Type 0 where
  pub truthful : (m : Plain) → ledger.Answers m (outcome wasm fuel given m).seen
  pub only : (m n : Plain) → ledger.Answers n (outcome wasm fuel given m).seen → outcome wasm fuel given n ≡ outcome wasm fuel given m
