-- Bytes that are written one by one and one after another.
use Rattle.std.proofs.Common.{length-set, ◌≡◌, ◌+◌, ℕ, List, [], ◌∷◌, ◌++◌, length, drop, refl, sym, ap, ◌∙◌, arith}
use Rattle.std.specs.Prelude.{slice_set}
use Rattle.std.proofs.lemmas.Grind.{common_steps}
use Rattle.wasm_meaning.specs.Memory.{with_bytes}

pub written_next : (m bytes : List ℕ) (p i b : ℕ) → drop i bytes ≡ b ∷ drop (i + 1) bytes →
    with_bytes (slice_set m (p + i) b) (p + (i + 1)) (drop (i + 1) bytes) ≡ with_bytes m (p + i) (drop i bytes)
written_next m bytes p i b e =
    let k : p + (i + 1) ≡ (p + i) + 1 = omega arith in
    ap (λ k. with_bytes (slice_set m (p + i) b) k (drop (i + 1) bytes)) k ∙ sym (ap (with_bytes m (p + i)) e)

pub written_all : (m bytes : List ℕ) (p i : ℕ) → i ≡ length bytes → with_bytes m p (drop i bytes) ≡ m
written_all m bytes p i e = ap (λ i. with_bytes m p (drop i bytes)) e ∙ ap (with_bytes m p) (drop_all bytes)
  where
    drop_all : (bs : List ℕ) → drop (length bs) bs ≡ []
    drop_all [] = refl
    drop_all (b ∷ bs) = grind (arith, common_steps)

-- bytes after bytes
pub written-append : (m xs ys : List ℕ) (p : ℕ) → with_bytes (with_bytes m p xs) (p + length xs) ys ≡ with_bytes m p (xs ++ ys)
written-append m [] ys p = let k : p + 0 ≡ p = omega arith in ap (λ k. with_bytes m k ys) k
written-append m (x ∷ xs) ys p =
    let k : p + length (x ∷ xs) ≡ p + 1 + length xs = omega arith in
    ap (λ k. with_bytes (with_bytes (slice_set m p x) (p + 1) xs) k ys) k ∙ written-append (slice_set m p x) xs ys (p + 1)

pub length-written : (m bytes : List ℕ) (p : ℕ) → length (with_bytes m p bytes) ≡ length m
length-written m [] p = refl
length-written m (b ∷ bytes) p = length-written (slice_set m p b) bytes (p + 1) ∙ length-set m p b

-- an entry that is written part by part: the key's length and bytes, the value's length in two bytes, its bytes
pub entry_written : (m n key bytes : List ℕ) (p a b : ℕ) → n ≡ with_bytes (slice_set m p (length key)) (p + 1) key →
    with_bytes (slice_set (slice_set n (p + 1 + length key) a) (p + 1 + length key + 1) b) (p + 1 + length key + 2) bytes ≡
    with_bytes m p (length key ∷ key ++ a ∷ b ∷ bytes)
entry_written m n key bytes p a b e =
    let k : p + 1 + length key + 2 ≡ p + 1 + length key + 1 + 1 = omega arith in
    ap (λ k. with_bytes (slice_set (slice_set n (p + 1 + length key) a) (p + 1 + length key + 1) b) k bytes) k
    ∙ ap (λ z. with_bytes (slice_set (slice_set z (p + 1 + length key) a) (p + 1 + length key + 1) b) (p + 1 + length key + 1 + 1) bytes) e
    ∙ written-append (slice_set m p (length key)) key (a ∷ b ∷ bytes) (p + 1)
