-- What is printed of a state.
use Rattle.std.specs.Prelude.{◌++◌, ℕ, List, codes}
use Rattle.std.specs.FinMap.{entries}
use Rattle.std.specs.List.{flat_map}
use Rattle.ledger_model.specs.Chain.{Bytes, Chain, Version, history}
use Rattle.ledger_model.specs.State.{state}
use Rattle.cli_lines.specs.Lines.{hex_text, version_text}

-- a key of a state, with its version and its value
abbrev pub entry_text : Bytes × (Bytes × Version) → List ℕ
entry_text e =
    codes "state " ++ (hex_text e.0 ++ (codes " " ++ (version_text e.1.1 ++ (codes " " ++ (hex_text e.1.0 ++ codes "\n")))))

abbrev pub state_text : Chain → List ℕ
state_text chain = flat_map entry_text (entries (state (history chain)))
