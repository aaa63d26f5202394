-- What transactions wrote to a key, and the line of a write.
use Rattle.std.specs.Prelude.{ℕ, List, Option, Some, None, String, map, option_map, option_to_list, string_bytes}
use Rattle.std.specs.List.{flat_map}
use Rattle.std.specs.declared.alloc.Global.{Global}
use Rattle.fab_types.specs.declared.envelope.Envelope.{Envelope}
use Rattle.fab_types.specs.declared.flag.Flag.{Flag}
use Rattle.ledger_model.specs.Chain.{Placed, Version}
use Rattle.ledger_model.specs.State.{write_of}
use Rattle.wire.specs.Ids.{id_of}
use Rattle.serde_json.specs.Data.{Data}
use Rattle.json_chain.specs.Entries.{placed_write_json}
use Rattle.json_chain.specs.JsonText.{IsJsonText}

abbrev pub placed_at : Envelope → Flag → (block place : ℕ) → Placed
placed_at e flag block place = record { version = record { block = block; place = place }; envelope = e; flag = flag }

-- a transaction that did this to a key, at its place
abbrev pub did_json : Placed → List ℕ → Version × Option (List ℕ) → Data
did_json t key w = placed_write_json (id_of t.envelope.payload.proposal) w.0.block w.0.place key w.1

-- what a transaction did to a key, if it did anything
abbrev pub write_json : List ℕ → Placed → List Data
write_json key t = map (did_json t key) (option_to_list (write_of t key))

-- what transactions did to a key, in their order
abbrev pub writes_json : List ℕ → List Placed → List Data
writes_json key ts = flat_map (write_json key) ts

-- a line is there where data are, and is their text
abbrev pub IsLineOf : Option Data → Option (String Global) → Type 0
IsLineOf None None = Unit {0}
IsLineOf None (Some s) = ⊥
IsLineOf (Some d) None = ⊥
IsLineOf (Some d) (Some s) = IsJsonText d (string_bytes s)

-- what the transaction did to the key, if it did anything
abbrev pub IsWriteLine : Envelope → Flag → List ℕ → (block place : ℕ) → Option (String Global) → Type 0
IsWriteLine e flag key block place line =
    IsLineOf (option_map (λ w. placed_write_json (id_of e.payload.proposal) w.0.block w.0.place key w.1) (write_of (placed_at e flag block place) key)) line
