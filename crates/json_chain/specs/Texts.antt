-- Bytes and versions as JSON.
use Rattle.std.specs.Prelude.{ℕ, List, [], ◌∷◌, ◌++◌, Option, Some, None, decimal, map}
use Rattle.hex.specs.Hex.{encode_lower}
use Rattle.fab_types.specs.Version.{Version}
use Rattle.serde_json.specs.Data.{Data, null, string, array}
use Rattle.serde_json.specs.View.{items_of}

-- a list of values of one kind
abbrev pub list_json : {A : Type 0} → (A → Data) → List A → Data
list_json json xs = array (items_of (map json xs))

-- what two lists come to, item by item
abbrev pub pairs_json : {A B : Type 0} → (A → B → Data) → List A → List B → List Data
pairs_json json [] ys = []
pairs_json json (x ∷ xs) [] = []
pairs_json json (x ∷ xs) (y ∷ ys) = json x y ∷ pairs_json json xs ys

-- bytes in lower-case hex
abbrev pub hex_json : List ℕ → Data
hex_json bytes = string (encode_lower bytes)

-- null where a key is deleted
abbrev pub value_json : Option (List ℕ) → Data
value_json None = null
value_json (Some value) = hex_json value

-- "4.0": a block's number and a place in it
abbrev pub version_json : Version → Data
version_json v = string (decimal v.block ++ 46 ∷ decimal v.place)
