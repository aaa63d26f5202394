-- Bytes that are written from a place on.
use Rattle.std.proofs.Common.{◌≡◌, ◌≤◌, ◌<◌, ◌+◌, ℕ, suc, List, [], ◌∷◌, ◌++◌, length, take, drop, sym, ap, ◌∙◌, arith, append_assoc, add-zero}
use Rattle.std.specs.Prelude.{slice_set}
use Rattle.std.proofs.lemmas.List.{take-append-drop, take_more_set, drop-set-lt, length-set, drop-drop}
use Rattle.wasm_meaning.specs.Memory.{with_bytes}

-- one by one they take the place of those that were there
pub written-is : (m bytes : List ℕ) (p : ℕ) → p + length bytes ≤ length m → with_bytes m p bytes ≡ take p m ++ (bytes ++ drop (p + length bytes) m)
written-is m [] p h = sym (ap (λ k. take p m ++ drop k m) (add-zero p) ∙ take-append-drop p m)
written-is m (b ∷ bytes) p h =
    let at : p < length m = omega arith in
    let rest = written-is (slice_set m p b) bytes (p + 1) (omega (arith, length-set m p b)) in
    let front = take_more_set m p b at in
    let back = drop-set-lt (p + 1 + length bytes) m p b (omega arith) in
    let n : p + 1 + length bytes ≡ p + suc (length bytes) = omega arith in
    rest ∙ ap (λ xs. xs ++ (bytes ++ drop (p + 1 + length bytes) (slice_set m p b))) front
    ∙ append_assoc (take p m) (b ∷ []) _
    ∙ ap (λ xs. take p m ++ (b ∷ (bytes ++ xs))) (back ∙ ap (λ k. drop k m) n)

-- the same in the place of the next n bytes
pub written-part : (m bytes now : List ℕ) (p n : ℕ) → p + length bytes ≤ length m → n ≡ length bytes → now ≡ bytes →
    take p m ++ (now ++ drop n (drop p m)) ≡ with_bytes m p bytes
written-part m bytes now p n h en e =
    ap (λ xs. take p m ++ (xs ++ drop n (drop p m))) e
    ∙ ap (λ xs. take p m ++ (bytes ++ xs)) (drop-drop n p m ∙ ap (λ k. drop (p + k) m) en)
    ∙ sym (written-is m bytes p h)
