-- A chain and the file that it is stored in.
use Rattle.std.specs.Prelude.{◌≡◌, ℕ, ◌<◌, ◌+◌, ◌⊎◌, List, length, Option, IfSome, Result, Ok, Err}
use Rattle.std.specs.List.{flat_map}
use Rattle.fab_types.specs.declared.block.Block.{Block}
use Rattle.endorsement_policy.specs.Endorsed.{Listed}
use Rattle.ledger_model.specs.Chain.{Chain}
use Rattle.ledger_setting.specs.Rule.{table_of}
use Rattle.ledger_model.specs.Judged.{BlockRule}
use Rattle.block_store.specs.Record.{record_bytes}
use Rattle.block_store.specs.Store.{Loads}
use Rattle.block_store.specs.declared.end.End.{End}
use Rattle.block_store.specs.declared.end.End.TheVariants as end
use Rattle.store_replay.specs.Lawful.{IsRecommitRefused}
use Rattle.log_committer.specs.Committing.{Receives, committed_chain, rules_of as committer_rules}
use Rattle.log_peer.specs.declared.refusal.StoreRefusal.{StoreRefusal}
use Rattle.log_peer.specs.declared.refusal.StoreRefusal.TheVariants.{Memory, File, Damaged, Stored, Received}
use Rattle.log_peer.specs.Opening.{IsChainOf}
use Rattle.log_peer.specs.declared.storing.StoredChain.{StoredChain}

-- a call of the file failed exactly where the answer says so
abbrev pub IsBlamed : {X : Type 0} → Result X StoreRefusal → (failures now : ℕ) → Type 0
IsBlamed (Ok x) failures now = now ≡ failures
IsBlamed (Err File) failures now = failures < now
IsBlamed (Err Memory) failures now = now ≡ failures
IsBlamed (Err (Damaged n)) failures now = now ≡ failures
IsBlamed (Err (Stored r)) failures now = now ≡ failures
IsBlamed (Err (Received r)) failures now = now ≡ failures

-- want of memory, or a failed call, of which nothing is said but that
abbrev pub IsOfMachine : StoreRefusal → Type 0
IsOfMachine Memory = Unit {0}
IsOfMachine File = Unit {0}
IsOfMachine (Damaged number) = ⊥
IsOfMachine (Stored refusal) = ⊥
IsOfMachine (Received refusal) = ⊥

-- how many bytes stand behind the whole records of a store, or why it is refused by its end
abbrev pub cut_of : End → (held : ℕ) → Result ℕ StoreRefusal
cut_of end.Clean held = Ok held
cut_of end.Torn held = Ok held
cut_of (end.Damaged number) held = Err (Damaged number)
cut_of end.DeviceFailed held = Err File

-- these bytes are whole records, and at most a beginning of another one behind them
abbrev pub AreRecordsOf : List ℕ → Chain → Type 0
AreRecordsOf bytes cs = Loads 1 bytes cs end.Clean ⊎ Loads 1 bytes cs end.Torn

-- a store, which has the known bytes where they are known, was opened: as the chain of all its records, and so many bytes behind them were cut off
pub record IsOpened (known : Option (List ℕ)) (chain : Chain) (cut : ℕ) : Type 0 where
  pub bytes : List ℕ
  pub held : IfSome known (λ held. bytes ≡ held)
  pub records : AreRecordsOf bytes chain
  pub cut_off : length bytes ≡ length (flat_map record_bytes chain) + cut

-- Why a store, which has the known bytes where they are known, is not opened: a record is damaged, or its records are not lawful. Of want of memory
-- and of a failed call nothing is said but that
abbrev pub IsOpenRefused : BlockRule → Option (List ℕ) → StoreRefusal → Type 0
IsOpenRefused rule known (Damaged number) =
    (bytes : List ℕ) × (cs : Chain) × IfSome known (λ held. bytes ≡ held) × Loads 1 bytes cs (end.Damaged number)
IsOpenRefused rule known (Stored refusal) =
    (bytes : List ℕ) × (cs : Chain) × IfSome known (λ held. bytes ≡ held) × AreRecordsOf bytes cs × IsRecommitRefused rule cs refusal
IsOpenRefused rule known refusal = IsOfMachine refusal

module _ {D : Type 0} where
  -- the blocks with their flags
  abbrev pub stored_chain : StoredChain D → Chain
  stored_chain c = committed_chain c.committer

  -- the rules by which it goes on
  abbrev pub rules_of : StoredChain D → Listed
  rules_of c = committer_rules c.committer

  -- its file
  abbrev pub file_of : StoredChain D → D
  file_of c = c.file.device

  -- the bytes that the file has by its calls, and those that it had when it was synced last
  abbrev pub file_bytes : StoredChain D → List ℕ
  file_bytes c = c.file.history.moved

  abbrev pub disk_bytes : StoredChain D → List ℕ
  disk_bytes c = c.file.history.synced

  -- the file has the records of the chain and nothing else, all of it is on the disk, and it is known where each record ends
  pub record IsStored (c : StoredChain D) : Type 0 where
    pub file : file_bytes c ≡ flat_map record_bytes (stored_chain c)
    pub disk : disk_bytes c ≡ file_bytes c
    pub chain : IsChainOf c.committer.chain c.places (stored_chain c)

  -- a refused block leaves all as it was; behind want of memory or a failed call nothing is said
  abbrev pub IsReceiveRefused : StoreRefusal → StoredChain D → Block → StoredChain D → Type 0
  IsReceiveRefused (Received refusal) old block new =
      Receives (table_of (rules_of old)) (stored_chain old) block (Err refusal) (stored_chain new) × IsStored new
  IsReceiveRefused refusal old block new = IsOfMachine refusal
