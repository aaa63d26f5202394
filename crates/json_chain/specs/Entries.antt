-- Entries of a state, and writes to a key, as JSON.
use Rattle.std.specs.Prelude.{ℕ, List, Option, map, codes}
use Rattle.fab_types.specs.Version.{Version}
use Rattle.serde_json.specs.Data.{Data, number, unsigned, object, member, no_members}
use Rattle.json_chain.specs.Texts.{hex_json, value_json, version_json}

-- a key with its value and version
abbrev pub entry_json : (key value : List ℕ) → Version → Data
entry_json key value version =
    object (member (codes "key") (hex_json key) (member (codes "value") (hex_json value) (member (codes "version") (version_json version) no_members)))

-- the entries of a state
abbrev pub entries_json : List (List ℕ × (List ℕ × Version)) → List Data
entries_json es = map (λ e. entry_json e.0 e.1.0 e.1.1) es

-- what the transaction of this id wrote to a key, at its place in the chain
abbrev pub placed_write_json : List ℕ → (block place : ℕ) → List ℕ → Option (List ℕ) → Data
placed_write_json id block place key value =
    object (member (codes "block") (number (unsigned block)) (member (codes "id") (hex_json id) (member (codes "key") (hex_json key)
    (member (codes "place") (number (unsigned place)) (member (codes "value") (value_json value) no_members)))))
