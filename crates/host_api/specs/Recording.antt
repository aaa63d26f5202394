-- A recorder as contracts see it, and what a payload takes from it.
use Rattle.std.specs.Prelude.{◌≡◌, ℕ, ◌≤◌, true, List, Option, Some, None, map, length}
use Rattle.std.specs.List.{list_all}
use Rattle.fab_types.specs.Order.{is_shown}
use Rattle.fab_types.specs.Sets.{Range, IsReadSet, IsWriteSet}
use Rattle.fab_types.specs.declared.items.ReadItem.{ReadItem}
use Rattle.fab_types.specs.declared.items.RangeEntry.{RangeEntry}
use Rattle.fab_types.specs.declared.items.WriteItem.{WriteItem}
use Rattle.wasm_meaning.specs.Values.{Reply}
use Rattle.ledger_model.specs.Chain.{Bytes, Version}
use Rattle.ledger_model.specs.Views.{Versioned}
use Rattle.ledger_model.specs.Flags.{version_at, entries_at}
use Rattle.host_api.specs.declared.refusal.Refusal.TheVariants as refusal
use Rattle.host_api.specs.Given.{Given}
use Rattle.host_api.specs.Recorded.{Asked, Recorded}
use Rattle.host_api.specs.HostStep.{refuses, value_reply, replies, reply_range_bytes}

-- what a recorder was opened with
pub record Opened (V : Type 0) : Type 0 where
  pub view : V
  pub given : Given

pub record Recording (V : Type 0) : Type 0 where
  pub opened : Opened V
  pub records : Recorded

-- a key that was read, with its version in a state
abbrev pub read_of : Versioned → Bytes → ReadItem
read_of m key = record { key = key; version = version_at m key }

-- a range that was asked for, with its first keys and their versions in a state
abbrev pub range_of : Versioned → Asked → Range
range_of m a = record { start = a.start; end = a.end; limit = a.limit; entries = entries_at m a.start a.end a.limit }

abbrev pub asked_of : Range → Asked
asked_of g = record { start = g.start; end = g.end; limit = g.limit }

-- the questions behind these items
abbrev pub recorded_of : List ReadItem → List Range → Bytes → List WriteItem → Recorded
recorded_of reads ranges result writes =
    record { reads = map (λ r. r.key) reads; ranges = map asked_of ranges; result = result; writes = writes }

-- each item has what the state says of its question, and the sets are within their limits; 256 reads of keys that are shown leave room for
-- that of the definition, in front of them
pub record AreItems (m : Versioned) (reads : List ReadItem) (ranges : List Range) (writes : List WriteItem) : Type 0 where
  pub reads_are : reads ≡ map (λ r. read_of m r.key) reads
  pub ranges_are : ranges ≡ map (λ g. range_of m (asked_of g)) ranges
  pub read_count : length reads ≤ 256
  pub reads_shown : list_all (λ r. is_shown r.key) reads ≡ true
  pub read_set : IsReadSet reads
  pub range_count : length ranges ≤ 16
  pub write_set : IsWriteSet writes

-- what is told of a read: nothing where there was no room for its key, else the value
abbrev pub read_reply : Option (Option Bytes) → (target capacity : ℕ) → (memory : List ℕ) → Recorded → Reply Recorded
read_reply None target capacity memory s = refuses refusal.NoRoom memory s
read_reply (Some value) target capacity memory s = value_reply value target capacity memory s

-- the same of a range and its entries
abbrev pub range_reply : Option (List (Bytes × Bytes)) → (target capacity : ℕ) → (memory : List ℕ) → Recorded → Reply Recorded
range_reply None target capacity memory s = refuses refusal.NoRoom memory s
range_reply (Some es) target capacity memory s = replies (reply_range_bytes es) target capacity memory s

-- an entry without its version
abbrev pub key_and_value : Bytes × (Bytes × Version) → Bytes × Bytes
key_and_value e = (e.0, e.1.0)

-- an entry's key and version
abbrev pub version_entry : Bytes × (Bytes × Version) → RangeEntry
version_entry e = record { key = e.0; version = e.1.1 }
