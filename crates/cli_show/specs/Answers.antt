-- What `state` answers of a store.
use Rattle.std.specs.Prelude.{◌≡◌, ℕ, List, [], ◌∷◌, Option, Some, None, Result, Ok, Err, take}
use Rattle.std.specs.FinMap.{entries}
use Rattle.serde_json.specs.Data.{Data}
use Rattle.block_store.specs.declared.end.End.{End}
use Rattle.block_store.specs.declared.end.End.TheVariants.{Clean, Torn, Damaged, DeviceFailed}
use Rattle.committer.specs.declared.refusal.CommitRefusal.{CommitRefusal}
use Rattle.ledger_model.specs.Chain.{Bytes, Chain, Version, history}
use Rattle.ledger_model.specs.State.{state}
use Rattle.world_state.specs.Writing.{as_state}
use Rattle.endorsement_policy.specs.Endorsed.{Listed}
use Rattle.json_chain.specs.Memberships.{standing_behind}
use Rattle.kept_state.specs.Keeping.{chain_of}
use Rattle.ledger_setting.specs.Rule.{table_of}
use Rattle.ledger_setting.specs.declared.genesis.Genesis.{Genesis}
use Rattle.store_replay.specs.Replay.{ReplaysFrom}
use Rattle.store_replay.specs.declared.replaying.Replayed.{Replayed}
use Rattle.cli_lines.specs.declared.failure.Failure.{Failure}
use Rattle.cli_lines.specs.declared.failure.Failure.TheVariants.{Flags, Commit, Store}
use Rattle.cli_show.specs.Lines.{AreFirstLines, AreLines, entries_json, writes_json}
use Rattle.cli_show.specs.declared.showing.Part.{Part}
use Rattle.cli_show.specs.declared.showing.Part.TheVariants as part

abbrev pub end_fault : End → Option Failure
end_fault Clean = None
end_fault Torn = Some (Store Torn)
end_fault (Damaged n) = Some (Store (Damaged n))
end_fault DeviceFailed = Some (Store DeviceFailed)

abbrev pub block_fault : Option CommitRefusal → End → Option Failure
block_fault (Some cause) end = Some (Commit cause)
block_fault None end = end_fault end

abbrev pub first_fault : Option ℕ → Option CommitRefusal → End → Option Failure
first_fault (Some block) refused end = Some (Flags block)
first_fault None refused end = block_fault refused end

-- why a store's state is not told, by what comes first in the store: the block of a number is stored with other flags than the
-- table's, the block behind the chain does not fit, the store does not end with a record
abbrev pub fault_of : Replayed → Option Failure
fault_of r = first_fault r.differs r.refused r.end

-- the entries of the state after the first so many blocks
abbrev pub state_json : ℕ → Chain → List Data
state_json at chain = entries_json (entries (state (history (take at chain))))

-- what stands after the first so many blocks
abbrev pub members_json : Listed → ℕ → Chain → Data
members_json r at chain = standing_behind r (take at chain)

-- what is asked for of the state after the first so many blocks
abbrev pub part_json : Listed → Part → ℕ → Chain → List Data
part_json r part.Entries at chain = state_json at chain
part_json r (part.Writes key) at chain = writes_json key.now (history (take at chain))
part_json r part.Members at chain = members_json r at chain ∷ []

-- what is known of the first so many blocks of a chain: the entries of the state after them, or the text of the writes in them
abbrev pub IsSought : Part → ℕ → (entries : List (Bytes × (Bytes × Version))) → (text : Bytes) → Chain → Type 0
IsSought part.Entries at es text chain = as_state es ≡ state (history (take at chain))
IsSought (part.Writes key) at es text chain = AreLines (writes_json key.now (history (take at chain))) text
IsSought part.Members at es text chain = as_state es ≡ state (history (take at chain))

-- what a task comes to, unless it has a fault: then that is all
abbrev pub UnlessFault : Option Failure → (Result (Unit {0}) Failure → Bytes → Type 0) → Result (Unit {0}) Failure → Bytes → Type 0
UnlessFault None Comes answer text = Comes answer text
UnlessFault (Some failure) Comes answer text = (answer ≡ Err failure) × (text ≡ [])

abbrev pub ShowsPart : Listed → Part → ℕ → Chain → Result (Unit {0}) Failure → Bytes → Type 0
ShowsPart r part at chain answer text = (answer ≡ Ok tt) × AreLines (part_json r part at chain) text

-- `state`: a part of the state after the block of a number of the store in a file, unless something is wrong with the store
abbrev pub States : Genesis → Part → ℕ → Option Bytes → Result (Unit {0}) Failure → Bytes → Type 0
States g part at held answer text =
    (r : Replayed) × ReplaysFrom (table_of g.rules.value) held r × UnlessFault (fault_of r) (ShowsPart g.rules.value part at (chain_of r.chain)) answer text

-- what `state` begins, of a store with which nothing is wrong: some first ones of its lines
abbrev pub StateBegins : Genesis → Part → ℕ → Option Bytes → Bytes → Type 0
StateBegins g part at held text =
    (r : Replayed) × ReplaysFrom (table_of g.rules.value) held r × (fault_of r ≡ None) × AreFirstLines (part_json g.rules.value part at (chain_of r.chain)) text
