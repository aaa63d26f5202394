-- What a system begins with, by the files that words name, and why they are refused.
use Rattle.std.specs.Prelude.{◌≡◌, ◌⊎◌, ℕ, List, [], Option, Some, None, Result, Ok, Err, option_map}
use Rattle.std.specs.declared.alloc.Global.{Global}
use Rattle.std.specs.declared.sync.Arc.{Arc}
use Rattle.sha2.specs.Sha256.{sha256}
use Rattle.chaincode_book.specs.declared.book.Held.{Held}
use Rattle.ledger_setting.specs.declared.genesis.Genesis.{Genesis}
use Rattle.json_genesis.specs.Spelling.{Spells, SpellsHolding, SpellsModules}
use Rattle.cli_lines.specs.Places.{FilesHeld}
use Rattle.cli_lines.specs.Told.{IsBrokenOff, IsHeld}
use Rattle.cli_lines.specs.Sealing.{HasSeeds, IsNoKeyFile}
use Rattle.cli_lines.specs.Opening.{AreNoModules, IsNoGenesis}
use Rattle.cli_lines.specs.declared.failure.Failure.{Failure}
use Rattle.peer_answers.specs.declared.log_genesis.LogGenesis.{LogGenesis}
use Rattle.cli_words.specs.declared.task.Beginning.{Beginning}

-- what is known of a file, where one is named
abbrev pub FileHeld : Type 0
FileHeld = Option (Option (List ℕ))

-- the modules at hand: those of the modules file, none where no such file is named
abbrev pub HasModules : FileHeld → List Held → Type 0
HasModules None at_hand = at_hand ≡ []
HasModules (Some held) at_hand = (bytes : List ℕ) × IsHeld held bytes × SpellsModules bytes at_hand

-- the genesis that bytes spell, with the modules at hand
abbrev pub SpellsWith : List ℕ → FileHeld → Genesis → Type 0
SpellsWith bytes modules g = (at_hand : List Held) × HasModules modules at_hand × SpellsHolding bytes at_hand g

-- the seeds at hand: those of the key file, and none where no such file is named
abbrev pub HasKeys : FileHeld → List (List ℕ) → Type 0
HasKeys None seeds = seeds ≡ []
HasKeys (Some held) seeds = HasSeeds held seeds

-- the same genesis but for the seeds at hand
pub record IsSameBut (g s : Genesis) : Type 0 where
  pub book : s.book ≡ g.book
  pub rules : s.rules ≡ g.rules
  pub peers : s.peers ≡ g.peers
  pub seats : s.seats ≡ g.seats
  pub queue : s.queue ≡ g.queue
  pub count : s.count ≡ g.count
  pub preferred : s.preferred ≡ g.preferred
  pub absolute : s.absolute ≡ g.absolute
  pub reorder : s.reorder ≡ g.reorder

-- the genesis that a genesis file spells, but with these seeds at hand, and the digest of that file
pub record IsOpened (held : Option (List ℕ)) (modules keys : FileHeld) (log : LogGenesis) : Type 0 where
  pub bytes : List ℕ
  pub holds : IsHeld held bytes
  pub genesis : Genesis
  pub spelled : SpellsWith bytes modules genesis
  pub seeds : HasKeys keys log.genesis.signers.value
  pub same : IsSameBut genesis log.genesis
  pub digest : log.digest ≡ sha256 bytes

-- seeds that were read are put into a genesis; or it is refused as they were
abbrev pub Signs : LogGenesis → Result (Arc (List (List ℕ)) Global) Failure → Result LogGenesis Failure → Type 0
Signs log (Ok seeds) (Ok r) = IsSameBut log.genesis r.genesis × (r.genesis.signers.value ≡ seeds.value) × (r.digest ≡ log.digest)
Signs log (Ok seeds) (Err f) = ⊥
Signs log (Err f) r = r ≡ Err f

-- the modules file is refused, where the genesis file is not
abbrev pub AreModulesRefused : List ℕ → FileHeld → Failure → Type 0
AreModulesRefused bytes None f = ⊥
AreModulesRefused bytes (Some held) f =
    ((g : Genesis) × Spells bytes g) × (IsBrokenOff f ⊎ ((of_modules : List ℕ) × IsHeld held of_modules × AreNoModules of_modules f))

-- the genesis file is refused, with the modules at hand, or where the modules file is refused too
abbrev pub IsGenesisRefused : List ℕ → FileHeld → Failure → Type 0
IsGenesisRefused bytes modules f = (at_hand : List Held) × (HasModules modules at_hand ⊎ (at_hand ≡ [])) × IsNoGenesis bytes at_hand f

abbrev pub SpellsNoneWith : List ℕ → FileHeld → Failure → Type 0
SpellsNoneWith bytes modules f = IsGenesisRefused bytes modules f ⊎ AreModulesRefused bytes modules f

-- the key file is refused, where the others are not
abbrev pub AreKeysRefused : Option (List ℕ) → (modules keys : FileHeld) → Failure → Type 0
AreKeysRefused held modules None f = ⊥
AreKeysRefused held modules (Some file) f =
    ((bytes : List ℕ) × IsHeld held bytes × (g : Genesis) × SpellsWith bytes modules g) × IsNoKeyFile file f

abbrev pub IsNotOpened : Option (List ℕ) → (modules keys : FileHeld) → Failure → Type 0
IsNotOpened held modules keys f =
    IsBrokenOff f ⊎ (((bytes : List ℕ) × IsHeld held bytes × SpellsNoneWith bytes modules f) ⊎ AreKeysRefused held modules keys f)

-- by the names of the files
abbrev pub Opens : FilesHeld → Beginning → LogGenesis → Type 0
Opens held b log = IsOpened (held b.genesis.now) (option_map (λ name. held name.now) b.modules) (option_map (λ name. held name.now) b.keys) log

abbrev pub NotOpens : FilesHeld → Beginning → Failure → Type 0
NotOpens held b f = IsNotOpened (held b.genesis.now) (option_map (λ name. held name.now) b.modules) (option_map (λ name. held name.now) b.keys) f
