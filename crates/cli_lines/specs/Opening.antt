-- Why the bytes of a file of JSON are refused.
use Rattle.std.specs.Prelude.{◌≡◌, ◌⊎◌, ℕ, List}
use Rattle.std.specs.Str.{IsUtf8}
use Rattle.json_genesis.specs.NoGenesis.{NoGenesisHolding, NoModules}
use Rattle.json_genesis.specs.declared.refusal.GenesisRefusal.{GenesisRefusal}
use Rattle.json_genesis.specs.declared.refusal.GenesisRefusal.TheVariants.{Json}
use Rattle.chaincode_book.specs.declared.book.Held.{Held}
use Rattle.cli_lines.specs.Told.{IsBrokenOff}
use Rattle.cli_lines.specs.declared.failure.Failure.{Failure}
use Rattle.cli_lines.specs.declared.failure.Failure.TheVariants as failure

-- these bytes are no text (801), or their text is refused so; or the task was broken off
abbrev pub IsRefusedText : (List ℕ → GenesisRefusal → Type 0) → List ℕ → Failure → Type 0
IsRefusedText No bytes f =
    IsBrokenOff f ⊎ ((r : GenesisRefusal) × (f ≡ failure.Genesis r) × (((r ≡ Json) × ¬ IsUtf8 bytes) ⊎ No bytes r))

-- they spell no genesis whose book has these modules at hand
abbrev pub IsNoGenesis : List ℕ → List Held → Failure → Type 0
IsNoGenesis bytes held f = IsRefusedText (λ text r. NoGenesisHolding text held r) bytes f

-- they spell no modules
abbrev pub AreNoModules : List ℕ → Failure → Type 0
AreNoModules bytes f = IsRefusedText NoModules bytes f
