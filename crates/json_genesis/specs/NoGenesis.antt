-- What a refusal says of a text.
use Rattle.std.specs.Prelude.{◌≡◌, ℕ, List, [], Some, None}
use Rattle.serde_json.specs.Data.{Data}
use Rattle.serde_json.specs.Read.{read}
use Rattle.sha2.specs.Sha256.{sha256}
use Rattle.chaincode_book.specs.declared.book.Held.{Held}
use Rattle.json_genesis.specs.declared.refusal.GenesisRefusal.{GenesisRefusal}
use Rattle.json_genesis.specs.declared.refusal.GenesisRefusal.TheVariants.{Memory, Json, Field, Range, Module, Policy, Names}
use Rattle.json_genesis.specs.Spelling.{AreModules, IsGenesisOf}

-- the text is JSON, and its data spell no such thing
abbrev pub IsOther : {A : Type 0} → (Data → A → Type 0) → List ℕ → Type 0
IsOther {A} Is text = (d : Data) × (read text ≡ Some d) × ((x : A) → ¬ Is d x)

-- 801 where the text is no JSON; for want of memory nothing is said
abbrev pub SpellsNone : {A : Type 0} → (Data → A → Type 0) → List ℕ → GenesisRefusal → Type 0
SpellsNone Is text Memory = Unit {0}
SpellsNone Is text Json = read text ≡ None
SpellsNone Is text Field = IsOther Is text
SpellsNone Is text Range = IsOther Is text
SpellsNone Is text Module = IsOther Is text
SpellsNone Is text Policy = IsOther Is text
SpellsNone Is text Names = IsOther Is text

-- the text spells no genesis, whose book has these modules at hand
abbrev pub NoGenesisHolding : List ℕ → List Held → GenesisRefusal → Type 0
NoGenesisHolding text held r = SpellsNone (IsGenesisOf (sha256 text) held) text r

abbrev pub NoGenesis : List ℕ → GenesisRefusal → Type 0
NoGenesis text r = NoGenesisHolding text [] r

abbrev pub NoModules : List ℕ → GenesisRefusal → Type 0
NoModules text r = SpellsNone AreModules text r
