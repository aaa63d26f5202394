-- What a step of the decoder gives: what its reading function gives, unless memory runs out.
use Rattle.std.specs.Prelude.{◌≡◌, ℕ, List, Option, Some, None, Result, Ok, Err}
use Rattle.wasm_bytes.specs.Place.{Place}
use Rattle.wasm_decode.specs.declared.fault.DecodeFault.{DecodeFault}
use Rattle.wasm_decode.specs.declared.fault.DecodeFault.TheVariants.{Memory, Malformed}

-- A fault in the bytes comes only where P holds.
abbrev pub Fails : DecodeFault → Type 0 → Type 0
Fails Memory P = Unit {0}
Fails (Malformed kind offset) P = P

-- The result, seen by view, is what reading gives, and the cursor stands after it.
abbrev pub Parses : {X Y : Type 0} → (X → Y) → Result X DecodeFault → Place → Option (Y × List ℕ) → Type 0
Parses view (Ok x) new read = read ≡ Some (view x, new.rest)
Parses view (Err e) new read = Fails e (read ≡ None)

-- The same where nothing comes after it.
abbrev pub Makes : {X Y : Type 0} → (X → Y) → Result X DecodeFault → Option Y → Type 0
Makes view (Ok x) read = read ≡ Some (view x)
Makes view (Err e) read = Fails e (read ≡ None)
