-- Lines of JSON, and what printing them does to the bytes that a writer holds.
use Rattle.std.specs.Prelude.{◌≡◌, ◌++◌, ℕ, List, [], ◌∷◌, Option, None}
use Rattle.std.specs.List.{flat_map}
use Rattle.std.specs.Io.KnownBytes.{Appends}
use Rattle.serde_json.specs.Data.{Data}
use Rattle.fab_types.specs.declared.membership.Membership.{Membership}
use Rattle.ledger_model.specs.Chain.{Bytes, Chain}
use Rattle.endorsement_policy.specs.Endorsed.{Listed}
use Rattle.ledger_setting.specs.declared.genesis.Genesis.{Genesis}
pub use Rattle.json_chain.specs.Entries.{entries_json}
use Rattle.json_chain.specs.Genesis.{genesis_json}
use Rattle.json_chain.specs.JsonText.{IsJsonText}
use Rattle.json_chain.specs.Standing.{blocks_json, membership_behind}
pub use Rattle.json_chain.specs.Writes.{write_json, writes_json}
use Rattle.cli_lines.specs.Texts.{line}
use Rattle.cli_lines.specs.Told.{PrintsPart, Told}
use Rattle.cli_show.specs.Spans.{within}

-- texts, each of which is that of the value at its place
abbrev pub AreTextsOf : List Data → List Bytes → Type 0
AreTextsOf [] [] = Unit {0}
AreTextsOf [] (text ∷ texts) = ⊥
AreTextsOf (d ∷ ds) [] = ⊥
AreTextsOf (d ∷ ds) (text ∷ texts) = IsJsonText d text × AreTextsOf ds texts

-- a text of lines, each of which is the text of the value at its place
abbrev pub AreLines : List Data → Bytes → Type 0
AreLines ds text = (texts : List Bytes) × AreTextsOf ds texts × (text ≡ flat_map line texts)

-- a text of some first ones of these lines
abbrev pub AreFirstLines : List Data → Bytes → Type 0
AreFirstLines ds text = (first : List Data) × (rest : List Data) × (ds ≡ first ++ rest) × AreLines first text

-- a beginning of some first ones of these lines was printed, and nothing else
abbrev pub PrintsFirst : List Data → (before after : Told) → Type 0
PrintsFirst ds before after = (text : Bytes) × AreFirstLines ds text × PrintsPart before after text

-- Behind what was held, where that is known, there are lines now, each of which is the text of the value at its place.
abbrev pub HasLines : List Data → (before after : Option Bytes) → Type 0
HasLines ds before after = (texts : List Bytes) × AreTextsOf ds texts × Appends before after (flat_map line texts)

-- the genesis, and the blocks from one number to another, each by who stands before it
abbrev pub chain_json : Genesis → (from to : ℕ) → Chain → List Data
chain_json g from to chain = genesis_json g ∷ within from to (blocks_json g.rules.value None chain)

-- what is known of the blocks of a chain: the text of those from one number to another, and the membership behind them
abbrev pub IsShown : Listed → (from to : ℕ) → Option Membership → (text : Bytes) → Chain → Type 0
IsShown r from to membership text chain =
    AreLines (within from to (blocks_json r None chain)) text × (membership ≡ membership_behind None chain)
