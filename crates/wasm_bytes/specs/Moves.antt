-- What a reader of a cursor does.
use Rattle.std.specs.Prelude.{◌≡◌, ℕ, List, ◌++◌, Option, Some, None, Result, Ok, Err}
use Rattle.wasm_bytes.specs.Place.{Place}
use Rattle.wasm_bytes.specs.Faults.{InFront}

-- It gives the item that the bytes spell, seen by view, and stands after it. Where no item stands, it stays.
abbrev pub Takes : {X Y E : Type 0} → (X → Y) → (Y → List ℕ → Type 0) → Result X E → Place → Place → Type 0
Takes view Spells (Ok x) old new = (text : List ℕ) × Spells (view x) text × (old.rest ≡ text ++ new.rest) × (new.end ≡ old.end)
Takes view Spells (Err e) old new = (¬ InFront Spells old.rest) × (new ≡ old)

-- The same by a reading function: it gives what reading gives, and stands after it. Where reading gives nothing, it stays.
abbrev pub Moves : {X Y E : Type 0} → (X → Y) → Result X E → Place → Place → Option (Y × List ℕ) → Type 0
Moves view (Ok x) old new read = (read ≡ Some (view x, new.rest)) × (new.end ≡ old.end)
Moves view (Err e) old new read = (read ≡ None) × (new ≡ old)
