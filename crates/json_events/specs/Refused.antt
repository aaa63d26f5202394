-- What a refusal says.
use Rattle.std.specs.Prelude.{◌≡◌}
use Rattle.json_events.specs.declared.action.BadLine.{BadLine}
use Rattle.json_events.specs.declared.action.BadLine.TheVariants.{Memory}

-- but for want of memory, no value is such
abbrev pub NoneIs : {A : Type 0} → (A → Type 0) → BadLine → Type 0
NoneIs {A} Is r = ¬ (r ≡ Memory) → (x : A) → ¬ Is x
