-- A reply that is made entry by entry.
use Rattle.std.proofs.Common.{◌≡◌, ◌+◌, ◌≤◌, ◌<◌, ℕ, zero, suc, List, [], ◌∷◌, ◌++◌, length, map, drop, refl, sym, ap, ◌∙◌, arith, get_or, Bor}
use Rattle.std.specs.List.{flat_map}
use Rattle.std.specs.Map.Iter.{deref_pair}
use Rattle.std.proofs.lemmas.Grind.{common_steps}
use Rattle.fab_types.specs.declared.items.RangeEntry.{RangeEntry}
use Rattle.wasm_meaning.specs.Memory.{with_bytes}
use Rattle.ledger_model.specs.Chain.{Bytes, Version}
use Rattle.host_api.specs.HostStep.{reply_entry_bytes}
use Rattle.host_api.specs.Recording.{key_and_value, version_entry}
use Rattle.host_api.proofs.Bytes.{written-append}

-- a reference to an entry
abbrev pub Lent : Type 0
Lent = Bor Bytes × Bor (Bytes × Version)

abbrev pub shown : List Lent → List (Bytes × Bytes)
shown es = map key_and_value (map deref_pair es)

-- the bytes of entries
abbrev pub bytes_of : List Lent → Bytes
bytes_of es = flat_map reply_entry_bytes (shown es)

abbrev pub keys_of : List Lent → List RangeEntry
keys_of es = map version_entry (map deref_pair es)

pub drop_next : {X : Type 0} (xs : List X) (i : ℕ) (x : X) → i < length xs → x ≡ get_or xs i x → drop i xs ≡ x ∷ drop (i + 1) xs
drop_next [] i x lt e = absurd (omega arith)
drop_next (y ∷ ys) zero x lt e = ap (λ z. z ∷ ys) (sym e)
drop_next (y ∷ ys) (suc i) x lt e =
    let n : suc i + 1 ≡ suc (i + 1) = omega arith in drop_next ys i x (omega arith) e ∙ ap (λ k. x ∷ drop k (y ∷ ys)) (sym n)

drop_whole : {X : Type 0} (xs : List X) → drop (length xs) xs ≡ []
drop_whole [] = refl
drop_whole (x ∷ xs) = drop_whole xs

pub drop_end : {X : Type 0} (xs : List X) (i : ℕ) → length xs ≤ i → i ≤ length xs → drop i xs ≡ []
drop_end xs i ge le = let e : i ≡ length xs = omega arith in ap (λ k. drop k xs) e ∙ drop_whole xs

pub append_one : {X : Type 0} (xs : List X) (x : X) (ys : List X) → (xs ++ x ∷ []) ++ ys ≡ xs ++ x ∷ ys
append_one [] x ys = refl
append_one (z ∷ xs) x ys = ap (λ l. z ∷ l) (append_one xs x ys)

pub append_none : {X : Type 0} (xs : List X) → xs ++ [] ≡ xs
append_none [] = refl
append_none (x ∷ xs) = ap (λ l. x ∷ l) (append_none xs)

pub length-shown : (es : List Lent) → length (shown es) ≡ length es
length-shown [] = refl
length-shown (e ∷ es) = ap suc (length-shown es)

pub length-entry : (key bytes : Bytes) → length (reply_entry_bytes (key, bytes)) ≡ 3 + length key + length bytes
length-entry key bytes = grind (arith, common_steps)

pub length-both : (xs ys : List ℕ) → length (xs ++ ys) ≡ length xs + length ys
length-both xs ys = grind (arith, common_steps)

module _ (es : List Lent) (i : ℕ) (e : Lent) (lt : i < length es) (is : e ≡ get_or es i e) where
  pub bytes_next : bytes_of (drop i es) ≡ reply_entry_bytes (e.0.now, e.1.now.0) ++ bytes_of (drop (i + 1) es)
  bytes_next = ap bytes_of (drop_next es i e lt is)

  pub keys_next : keys_of (drop i es) ≡ record { key = e.0.now; version = e.1.now.1 } ∷ keys_of (drop (i + 1) es)
  keys_next = ap keys_of (drop_next es i e lt is)

  pub length_next : length (bytes_of (drop i es)) ≡ 3 + length e.0.now + length e.1.now.0 + length (bytes_of (drop (i + 1) es))
  length_next =
      ap length bytes_next ∙ length-both (reply_entry_bytes (e.0.now, e.1.now.0)) (bytes_of (drop (i + 1) es)) ∙
      ap (λ n. n + length (bytes_of (drop (i + 1) es))) (length-entry e.0.now e.1.now.0)

  -- the bytes from the i-th entry on, once that entry is written
  pub written_entry : (m : List ℕ) (p : ℕ) →
      with_bytes (with_bytes m p (reply_entry_bytes (e.0.now, e.1.now.0))) (p + length (reply_entry_bytes (e.0.now, e.1.now.0))) (bytes_of (drop (i + 1) es)) ≡
      with_bytes m p (bytes_of (drop i es))
  written_entry m p =
      written-append m (reply_entry_bytes (e.0.now, e.1.now.0)) (bytes_of (drop (i + 1) es)) p ∙ ap (with_bytes m p) (sym bytes_next)
