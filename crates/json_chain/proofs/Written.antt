-- A value that was made of what a transaction did to a key.
use Rattle.std.proofs.Common.{◌≡◌, Option, Some, None, option_map, refl}
use Rattle.serde_json.specs.Data.{Data}

-- where there is a value, something was done
pub of_some : {A : Type 0} (json : A → Data) (w : Option A) (d : Data) → Some d ≡ option_map json w → (x : A) × (w ≡ Some x) × (d ≡ json x)
of_some json None d is = absurd cc
of_some json (Some x) d is = (x, refl, cc is)
