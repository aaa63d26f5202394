-- What is made of a value that is read.
use Rattle.std.proofs.Common.{◌≡◌, ℕ, List, Option, Some, Result, Ok, Err, refl}
use Rattle.grammar.specs.Reading.{◌>>=◌}
use Rattle.wasm_bytes.specs.Place.{Place}
use Rattle.wasm_decode.specs.declared.fault.DecodeFault.{DecodeFault}
use Rattle.wasm_decode.specs.declared.fault.DecodeFault.TheVariants.{Memory, Malformed}
use Rattle.wasm_decode.specs.Parses.{Parses}

pub made : {X Y Z : Type 0} (make : Y → Z) (view : X → Y) (r : Result X DecodeFault) (new : Place) (o : Option (Y × List ℕ)) → Parses view r new o →
    Parses (λ x. make (view x)) r new (o >>= λ y. Some (make y.0, y.1))
made make view (Ok x) new o h = rw h refl
made make view (Err Memory) new o h = tt
made make view (Err (Malformed kind offset)) new o h = rw h refl
