-- The record that lies at a place.
use Rattle.std.proofs.Common.{◌≡◌, ◌≢◌, ◌≤◌, ◌<◌, ℕ, zero, suc, ◌+◌, ◌-◌, ◌^◌, List, [], ◌∷◌, ◌++◌, Option, Some, None, IfSome, option_map, slice_get, slice_index, length, take, drop, refl, sym, ap, subst, append_assoc, ◌∙◌, arith}
use Rattle.std.specs.List.{flat_map}
use Rattle.std.proofs.Math.Seq.{drop-append_seam, take-append_seam}
use Rattle.std.proofs.lemmas.List.{append-nil, length-append}
use Rattle.std.proofs.lemmas.Option.{slice_get-get_or}
use Rattle.fab_types.specs.Committed.{Committed}
use Rattle.block_store.specs.OneRecord.{IsRecordIn}
use Rattle.block_store.specs.Record.{IsRecord, record_bytes}
use Rattle.block_store.specs.Store.{AreRecords}
use Rattle.block_store.proofs.OneAnswer.{same_record}
use Rattle.store_devices.specs.Places.{begin_at, ends_from, ends_of, span_at}

-- where a record begins, of which the first begins here
abbrev begin_or : ℕ → List ℕ → ℕ → ℕ
begin_or begin ends zero = begin
begin_or begin ends (suc place) = slice_index ends place

begin_behind : (end : ℕ) (ends : List ℕ) (place : ℕ) → slice_index (end ∷ ends) place ≡ begin_or end ends place
begin_behind end ends zero = refl
begin_behind end ends (suc place) = refl

begin_is : (ends : List ℕ) (place : ℕ) → begin_at ends place ≡ begin_or 0 ends place
begin_is ends zero = refl
begin_is ends (suc place) = refl

-- the record at a place, between those before it and those behind it
record IsAt (begin : ℕ) (cs : List Committed) (place end number : ℕ) : Type 0 where
  committed : Committed
  before : List ℕ
  behind : List ℕ
  at : slice_get cs place ≡ Some committed
  is : IsRecord number committed
  bytes : flat_map record_bytes cs ≡ before ++ (record_bytes committed ++ behind)
  begins : begin_or begin (ends_from begin cs) place ≡ begin + length before
  ends : end ≡ begin + length before + length (record_bytes committed)

is_at : (begin n : ℕ) (cs : List Committed) (place end number : ℕ) → AreRecords n cs → slice_get (ends_from begin cs) place ≡ Some end → number ≡ place + n →
    IsAt begin cs place end number
is_at begin n [] place end number are there counted = cc
is_at begin n (c ∷ cs) zero end number are there counted = record {
  committed = c;
  before = [];
  behind = flat_map record_bytes cs;
  at = refl;
  is = subst (λ (m : ℕ). IsRecord m c) (let same : n ≡ number = omega (arith, counted) in same) are.0;
  bytes = refl;
  begins = omega arith;
  ends = let same : begin + length (record_bytes c) ≡ end = cc in omega (arith, same);
}
is_at begin n (c ∷ cs) (suc place) end number are there counted =
    let first = length (record_bytes c) in
    let rest = is_at (begin + first) (suc n) cs place end number are.1 there (omega (arith, counted)) in
    let size = length-append (record_bytes c) rest.before in
    let begins = rest.begins in
    let ends = rest.ends in
    record {
      committed = rest.committed;
      before = record_bytes c ++ rest.before;
      behind = rest.behind;
      at = rest.at;
      is = rest.is;
      bytes = ap (λ (bytes : List ℕ). record_bytes c ++ bytes) rest.bytes
          ∙ sym (append_assoc (record_bytes c) rest.before (record_bytes rest.committed ++ rest.behind));
      begins = begin_behind (begin + first) (ends_from (begin + first) cs) place ∙ omega (arith, begins, size);
      ends = omega (arith, ends, size);
    }

-- the record of a number, where these places have it
pub record LiesAt (cs : List Committed) (number begin end : ℕ) : Type 0 where
  pub committed : Committed
  pub at : slice_get cs (number - 1) ≡ Some committed
  pub is : IsRecord number committed
  pub ordered : begin ≤ end
  pub within : end ≤ length (flat_map record_bytes cs)
  pub bytes : take (end - begin) (drop begin (flat_map record_bytes cs)) ≡ record_bytes committed

spanned : (found : Option ℕ) (from begin end : ℕ) → option_map {U = ℕ × ℕ} (λ (to : ℕ). (from, to)) found ≡ Some (begin, end) →
    (found ≡ Some end) × (from ≡ begin)
spanned None from begin end is = cc
spanned (Some to) from begin end is =
    let spans : ℕ × ℕ = (from, to) in
    let span : ℕ × ℕ = (begin, end) in
    let same : spans ≡ span = cc in
    (ap (λ (s : ℕ × ℕ). Some s.1) same, ap (λ (s : ℕ × ℕ). s.0) same)

pub lies_at : (cs : List Committed) (ends : List ℕ) (number begin end : ℕ) → AreRecords 1 cs → ends ≡ ends_of cs →
    span_at ends number ≡ Some (begin, end) → LiesAt cs number begin end
lies_at cs ends zero begin end are all span = cc
lies_at cs ends (suc place) begin end are all span =
    let parts = spanned (slice_get ends place) (begin_at ends place) begin end span in
    let one = is_at 0 1 cs place end (suc place) are (ap (λ (es : List ℕ). slice_get es place) (sym all) ∙ parts.0) (omega arith) in
    let from : begin ≡ length one.before =
    sym parts.1 ∙ ap (λ (es : List ℕ). begin_at es place) all ∙ begin_is (ends_of cs) place ∙ one.begins ∙ omega arith in
    let to = one.ends in
    let size : end - begin ≡ length (record_bytes one.committed) = omega (arith, from, to) in
    let tail = record_bytes one.committed ++ one.behind in
    let whole = ap length one.bytes in
    record {
      committed = one.committed;
      at = ap (slice_get cs) (let same : suc place - 1 ≡ place = omega arith in same) ∙ one.at;
      is = one.is;
      ordered = omega (arith, from, to);
      within = omega (arith, to, whole, length-append one.before tail, length-append (record_bytes one.committed) one.behind);
      bytes =
          ap (λ (bytes : List ℕ). take (end - begin) (drop begin bytes)) one.bytes
          ∙ ap (λ (from : ℕ). take (end - begin) (drop from (one.before ++ tail))) from
          ∙ ap (take (end - begin)) (drop-append_seam one.before tail) ∙ ap (λ (size : ℕ). take size tail) size
          ∙ take-append_seam (record_bytes one.committed) one.behind;
    }

-- a number that has a place has a span
pub has_span : (ends : List ℕ) (number : ℕ) → 1 ≤ number → number ≤ length ends → span_at ends number ≢ None
has_span ends zero least most none = omega (arith, least)
has_span ends (suc place) least most none =
    let there = slice_get-get_or ends place 0 (omega (arith, most)) in
    let some : option_map {U = ℕ × ℕ} (λ (to : ℕ). (begin_at ends place, to)) (slice_get ends place) ≡ Some (begin_at ends place, slice_index ends place) =
    ap (option_map {U = ℕ × ℕ} (λ (to : ℕ). (begin_at ends place, to))) there in
    cc

-- what is read there is that record
pub read_there : (cs : List Committed) (number begin end : ℕ) (bytes : List ℕ) (found : Committed) → LiesAt cs number begin end →
    bytes ≡ take (end - begin) (drop begin (flat_map record_bytes cs)) → IsRecordIn number bytes (Some found) → slice_get cs (number - 1) ≡ Some found
read_there cs number begin end bytes found lies filled is =
    let there : bytes ≡ record_bytes lies.committed = filled ∙ lies.bytes in
    let same = same_record number bytes lies.committed found [] [] lies.is is.0 (there ∙ sym (append-nil (record_bytes lies.committed)))
    (sym is.1 ∙ sym (append-nil (record_bytes found))) in
    lies.at ∙ ap (λ (c : Committed). Some c) same.0

-- and it is one
pub is_there : (cs : List Committed) (number begin end : ℕ) (bytes : List ℕ) → LiesAt cs number begin end →
    bytes ≡ take (end - begin) (drop begin (flat_map record_bytes cs)) → IsRecordIn number bytes None → ⊥
is_there cs number begin end bytes lies filled none = none lies.committed lies.is (sym (filled ∙ lies.bytes))

-- a buffer that was filled from where the record begins
pub filled_there : (known : Option (List ℕ)) (cs : List Committed) (begin end size : ℕ) (buffer : List ℕ) → known ≡ Some (flat_map record_bytes cs) →
    size ≡ end - begin → IfSome known (λ held. buffer ≡ take size (drop begin held)) → buffer ≡ take (end - begin) (drop begin (flat_map record_bytes cs))
filled_there None cs begin end size buffer held sized filled = cc
filled_there (Some bytes) cs begin end size buffer held sized filled =
    let same : bytes ≡ flat_map record_bytes cs = cc in
    filled ∙ ap (λ (n : ℕ). take n (drop begin bytes)) sized ∙ ap (λ (bs : List ℕ). take (end - begin) (drop begin bs)) same

-- the file has all of its bytes
pub all_there : (P : Type 0) (known : Option (List ℕ)) (cs : List Committed) (number begin end size : ℕ) → LiesAt cs number begin end →
    known ≡ Some (flat_map record_bytes cs) → size ≡ end - begin → end < 2 ^ 64 →
    (begin + size < 2 ^ 64 → IfSome known (λ held. begin + size ≤ length held → P)) → P
all_there P None cs number begin end size lies held sized room reads = cc
all_there P (Some bytes) cs number begin end size lies held sized room reads =
    let ordered = lies.ordered in
    let within = lies.within in
    let same : bytes ≡ flat_map record_bytes cs = cc in
    let count = ap length same in
    reads (omega (arith, ordered, sized, room)) (omega (arith, ordered, within, sized, count))

-- a vector that was written from its beginning to its end
pub written : (n : ℕ) (buffer items : List ℕ) → n ≡ length buffer → take n (buffer ++ drop (length buffer) items) ≡ buffer
written n buffer items all = ap (λ (k : ℕ). take k (buffer ++ drop (length buffer) items)) all ∙ take-append_seam buffer (drop (length buffer) items)
