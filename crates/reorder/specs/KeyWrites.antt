-- The keys that the transactions of a batch write, with their writers.
use Rattle.std.specs.Prelude.{◌≡◌, ℕ, ◌<◌, ◌≤◌, suc, Bool, true, false, ◌&&◌, ◌==◌, List, [], ◌∷◌, ◌++◌, map, length, slice_index, slice_index_or}
use Rattle.std.specs.List.{list_any}
use Rattle.std.specs.List.Sorted.{IsPartitionPoint}
use Rattle.std.specs.Ordering.{is_lt}
use Rattle.fab_types.specs.Order.{key_cmp}
use Rattle.fab_types.specs.declared.envelope.Envelope.{Envelope}
use Rattle.fab_types.specs.declared.items.WriteItem.{WriteItem}
use Rattle.reorder.specs.declared.writes.KeyWrite.{KeyWrite}

abbrev pub written_by : ℕ → List WriteItem → List (List ℕ × ℕ)
written_by writer writes = map (λ w. (w.key, writer)) writes

-- the writes of these transactions, the first of which has this index
abbrev pub written_from : ℕ → List Envelope → List (List ℕ × ℕ)
written_from i [] = []
written_from i (e ∷ es) = written_by i e.payload.writes ++ written_from (suc i) es

abbrev pub as_pair : KeyWrite → List ℕ × ℕ
as_pair w = (w.key.now, w.writer)

abbrev pub key_of : KeyWrite → List ℕ
key_of w = w.key.now

-- where the keys from a bound on begin
abbrev pub IsFirstFrom : List ℕ → List KeyWrite → ℕ → Type 0
IsFirstFrom bound index at =
    IsPartitionPoint (λ w. is_lt (key_cmp w.key.now bound) ≡ true) (λ w. is_lt (key_cmp w.key.now bound) ≡ false) index at

-- for each write of an index in key order, where those of its key begin
pub record AreStarts (index : List KeyWrite) (starts : List ℕ) : Type 0 where
  pub long : length starts ≡ length index
  pub upto : (i : ℕ) → i < length index → slice_index starts i ≤ i
  pub first : (i : ℕ) (d : KeyWrite) → i < length index → IsFirstFrom (slice_index_or index i d).key.now index (slice_index starts i)

-- whether a transaction writes one of the keys that pass a test
abbrev pub hits : (List ℕ → Bool) → List KeyWrite → ℕ → Bool
hits test index writer = list_any (λ w. test w.key.now && w.writer == writer) index
