-- What a state has after the writes of one more transaction.
use Rattle.std.proofs.Common.{◌≡◌, Bool, true, false, cond, List, [], ◌∷◌, ◌++◌, Option, Some, None, refl, sym, ap, ◌∙◌, option_map}
use Rattle.std.proofs.Common.{is_some, length, ◌≤◌}
use Rattle.std.proofs.Math.Seq.{drop-length}
use Rattle.std.proofs.lemmas.List.{drop-append-le}
use Rattle.std.specs.Option.{option_or}
use Rattle.std.specs.Ordering.{eq_by_cmp}
use Rattle.std.specs.FinMap.{get, get-from_entries, insert, get-insert}
use Rattle.fab_types.specs.declared.items.WriteItem.{WriteItem}
use Rattle.ledger_model.specs.Chain.{Bytes, Version, Placed, is_valid}
use Rattle.ledger_model.specs.Views.{key_cmp, Versioned}
use Rattle.ledger_model.specs.State.{state, state_at, last_write, write_to, value_and_version}
use Rattle.ledger_model.specs.Flags.{since, version_at}
use Rattle.ledger_model.proofs.Keys.{keys_total}
use Rattle.ledger_model.proofs.State.{get-state, last_write-append}
use Rattle.mvcc_validate.specs.Merge.{is_written}
use Rattle.mvcc_validate.specs.Overlay.{AreWritten, Overlay, written_of, put_written, over, IsOver}

version_under : {X : Type 0} (o : Option (X × Version)) (f : X → Bytes) →
    option_map (λ e. e.1) (option_map {U = Bytes × Version} (λ e. (f e.0, e.1)) o) ≡ option_map (λ e. e.1) o
version_under None f = refl
version_under (Some e) f = refl

-- a key's version, of what is answered of the key
pub version_by : {X : Type 0} (m : Versioned) (key : Bytes) (o : Option (X × Version)) (f : X → Bytes) →
    option_map (λ e. (f e.0, e.1)) o ≡ get m key → version_at m key ≡ option_map (λ e. e.1) o
version_by m key o f h = ap (option_map (λ e. e.1)) (sym h) ∙ version_under o f

-- a key's version, of what a snapshot answers
pub version_shown : {X : Type 0} (ts : List Placed) (key : Bytes) (o : Option (X × Version)) (f : X → Bytes) →
    option_map (λ e. (f e.0, e.1)) o ≡ state_at ts key → version_at (state ts) key ≡ option_map (λ e. e.1) o
version_shown ts key o f h = ap (option_map (λ e. e.1)) (get-state ts key ∙ sym h) ∙ version_under o f

-- what a key was left with by writes with a version
abbrev left : Version → Option (Option Bytes) → Option (Option Version)
left v o = option_map (λ w. option_map (λ x. v) w) o

left_or : (b : Bool) (v : Version) (o : Option (Option Bytes)) (w : Option Bytes) (old : Option (Option Version)) →
    option_or (left v o) (cond b (Some (option_map (λ x. v) w)) old) ≡ option_or (left v (option_or o (cond b (Some w) None))) old
left_or true v None w old = refl
left_or false v None w old = refl
left_or b v (Some x) w old = refl

get-put_written : (m : Overlay) (ws : List WriteItem) (v : Version) (q : Bytes) → get (put_written m ws v) q ≡ option_or (left v (write_to ws q)) (get m q)
get-put_written m [] v q = refl
get-put_written m (w ∷ ws) v q =
    get-put_written (insert m w.key (option_map (λ x. v) w.value)) ws v q ∙
    ap (option_or (left v (write_to ws q))) (get-insert keys_total m w.key (option_map (λ x. v) w.value) q)
    ∙ left_or (eq_by_cmp key_cmp q w.key) v (write_to ws q) w.value (get m q)

-- the version of a key after one write more
after_write : (v : Version) (o : Option (Option Bytes)) (old : Option (Version × Option Bytes)) (w : Option (Option Version)) (base : Option Version) →
    option_map (λ e. e.1) (value_and_version old) ≡ over w base →
    option_map (λ e. e.1) (value_and_version (option_or (option_map (λ x. (v, x)) o) old)) ≡ over (option_or (left v o) w) base
after_write v None old w base h = h
after_write v (Some None) old w base h = refl
after_write v (Some (Some x)) old w base h = refl

version-state : (ts : List Placed) (q : Bytes) → version_at (state ts) q ≡ option_map (λ e. e.1) (value_and_version (last_write ts q))
version-state ts q = ap (option_map (λ e. e.1)) (get-state ts q)

-- one transaction more, VALID or not
pub over_valid : (written more : List (Bytes × Option Version)) (base : Versioned) (ts : List Placed) (t : Placed) → IsOver written base (state ts) →
    is_valid t.flag ≡ true → written_of more ≡ put_written (written_of written) t.envelope.payload.writes t.version → IsOver more base (state (ts ++ t ∷ []))
over_valid written more base ts t h valid made = record {
  version = λ q.
      version-state (ts ++ t ∷ []) q
      ∙ ap (λ o. option_map (λ e. e.1) (value_and_version o)) (last_write-append ts (t ∷ []) q)
      ∙ ap (λ b. option_map (λ e. e.1)
      (value_and_version (option_or (cond b (option_map (λ w. (t.version, w)) (write_to t.envelope.payload.writes q)) None) (last_write ts q)))) valid
      ∙ after_write t.version (write_to t.envelope.payload.writes q) (last_write ts q) (get (written_of written) q) (version_at base q)
      (sym (version-state ts q) ∙ h.version q)
      ∙ ap (λ o. over o (version_at base q)) (sym (ap (λ m. get m q) made ∙ get-put_written (written_of written) t.envelope.payload.writes t.version q));
}

pub over_invalid : (written : List (Bytes × Option Version)) (base : Versioned) (ts : List Placed) (t : Placed) → IsOver written base (state ts) →
    is_valid t.flag ≡ false → IsOver written base (state (ts ++ t ∷ []))
over_invalid written base ts t h invalid = record {
  version = λ q.
      version-state (ts ++ t ∷ []) q
      ∙ ap (λ o. option_map (λ e. e.1) (value_and_version o)) (last_write-append ts (t ∷ []) q)
      ∙ ap (λ b. option_map (λ e. e.1)
      (value_and_version (option_or (cond b (option_map (λ w. (t.version, w)) (write_to t.envelope.payload.writes q)) None) (last_write ts q)))) invalid
      ∙ sym (version-state ts q) ∙ h.version q;
}

-- ---- which keys were written since the chain before the block

-- the transactions since then, one more
since_push : (before earlier : List Placed) (t : Placed) → length before ≤ length earlier → since before (earlier ++ t ∷ []) ≡ since before earlier ++ t ∷ []
since_push before earlier t h = drop-append-le (length before) earlier (t ∷ []) h

is_written_get : (written : List (Bytes × Option Version)) (q : Bytes) → is_written written q ≡ is_some (get (written_of written) q)
is_written_get written q = ap is_some (sym (get-from_entries keys_total written q))

pub written_none : (written : List (Bytes × Option Version)) (before : List Placed) → written ≡ [] → AreWritten written (since before before)
written_none written before e q =
    ap (λ es. is_written es q) e ∙ ap (λ ts. is_some (last_write ts q)) (sym (drop-length before))

some_left : (v : Version) (o : Option (Option Bytes)) (old : Option (Version × Option Bytes)) (w : Option (Option Version)) → is_some w ≡ is_some old →
    is_some (option_or (left v o) w) ≡ is_some (option_or (option_map {U = Version × Option Bytes} (λ x. (v, x)) o) old)
some_left v None old w h = h
some_left v (Some x) old w h = refl

pub written_valid : (written more : List (Bytes × Option Version)) (before earlier : List Placed) (t : Placed) → length before ≤ length earlier →
    AreWritten written (since before earlier) → is_valid t.flag ≡ true →
    written_of more ≡ put_written (written_of written) t.envelope.payload.writes t.version → AreWritten more (since before (earlier ++ t ∷ []))
written_valid written more before earlier t long h valid made q =
    let ts = since before earlier in
    let o = write_to t.envelope.payload.writes q in
    is_written_get more q
    ∙ ap is_some (ap (λ m. get m q) made ∙ get-put_written (written_of written) t.envelope.payload.writes t.version q)
    ∙ some_left t.version o (last_write ts q) (get (written_of written) q) (sym (is_written_get written q) ∙ h q)
    ∙ ap (λ b. is_some (option_or (cond b (option_map {U = Version × Option Bytes} (λ x. (t.version, x)) o) None) (last_write ts q))) (sym valid)
    ∙ ap is_some (sym (last_write-append ts (t ∷ []) q))
    ∙ ap (λ us. is_some (last_write us q)) (sym (since_push before earlier t long))

pub written_invalid : (written : List (Bytes × Option Version)) (before earlier : List Placed) (t : Placed) → length before ≤ length earlier →
    AreWritten written (since before earlier) → is_valid t.flag ≡ false → AreWritten written (since before (earlier ++ t ∷ []))
written_invalid written before earlier t long h invalid q =
    let ts = since before earlier in
    let o = write_to t.envelope.payload.writes q in
    h q
    ∙ ap (λ b. is_some (option_or (cond b (option_map {U = Version × Option Bytes} (λ x. (t.version, x)) o) None) (last_write ts q))) (sym invalid)
    ∙ ap is_some (sym (last_write-append ts (t ∷ []) q))
    ∙ ap (λ us. is_some (last_write us q)) (sym (since_push before earlier t long))
