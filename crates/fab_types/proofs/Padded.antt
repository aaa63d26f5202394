-- Byte strings with zeros behind them, up to one length, compare as the strings do, but for their lengths.
use Rattle.std.proofs.Common.{◌≡◌, ℕ, zero, suc, ◌+◌, ◌-◌, ◌≤◌, min, List, [], ◌∷◌, ◌++◌, true, length, take, drop, replicate, refl, sym, ap, ◌∙◌}
use Rattle.std.proofs.Common.{arith}
use Rattle.std.specs.declared.cmp.Ordering.{Ordering}
use Rattle.std.specs.declared.cmp.Ordering.TheVariants.{Less, Equal, Greater}
use Rattle.std.specs.Ordering.{nat_cmp, ordering_then, is_ne}
use Rattle.std.specs.Cmp.{nat_cmp_is, tied_itself}
use Rattle.std.specs.Cmp.Lexicographic.{nat_list_cmp_total}
use Rattle.std.proofs.lemmas.List.{length-append, length-replicate, length-take, take-append-drop, take-take}
use Rattle.fab_types.specs.Order.{key_cmp}
use Rattle.fab_types.proofs.Words.{then_assoc, decided, past, at_end, both_longer}

-- zeros are before each other string of their length
zeros_first : (i : ℕ) (ys : List ℕ) → length ys ≡ i → ordering_then (key_cmp (replicate i 0) ys) Less ≡ Less
zeros_first zero [] h = refl
zeros_first zero (y ∷ ys) h = absurd (omega arith)
zeros_first (suc i) [] h = absurd (omega arith)
zeros_first (suc i) (zero ∷ ys) h = zeros_first i ys (omega arith)
zeros_first (suc i) (suc y ∷ ys) h =
    ap (λ o. ordering_then (ordering_then o (key_cmp (replicate i 0) ys)) Less) (sym (nat_cmp_is 0 (suc y) Less (omega arith)))

zeros_last : (i : ℕ) (xs : List ℕ) → length xs ≡ i → ordering_then (key_cmp xs (replicate i 0)) Greater ≡ Greater
zeros_last zero [] h = refl
zeros_last zero (x ∷ xs) h = absurd (omega arith)
zeros_last (suc i) [] h = absurd (omega arith)
zeros_last (suc i) (zero ∷ xs) h = zeros_last i xs (omega arith)
zeros_last (suc i) (suc x ∷ xs) h =
    ap (λ o. ordering_then (ordering_then o (key_cmp xs (replicate i 0))) Greater) (sym (nat_cmp_is (suc x) 0 Greater (omega arith)))

padded : (xs ys : List ℕ) (i j : ℕ) → length xs + i ≡ length ys + j →
    ordering_then (key_cmp (xs ++ replicate i 0) (ys ++ replicate j 0)) (nat_cmp (length xs) (length ys)) ≡ key_cmp xs ys
padded [] [] i j h =
    let same : i ≡ j = omega arith in
    ap (λ o. ordering_then o Equal) (ap (λ n. key_cmp (replicate i 0) (replicate n 0)) (sym same) ∙ tied_itself nat_list_cmp_total (replicate i 0))
padded [] (y ∷ ys) i j h =
    let rest = (y ∷ ys) ++ replicate j 0 in
    ap (ordering_then (key_cmp (replicate i 0) rest)) (sym (nat_cmp_is 0 (suc (length ys)) Less (omega arith)))
    ∙ zeros_first i rest (omega (arith, length-append (y ∷ ys) (replicate j 0), length-replicate {A = ℕ} j 0))
padded (x ∷ xs) [] i j h =
    let rest = (x ∷ xs) ++ replicate i 0 in
    ap (ordering_then (key_cmp rest (replicate j 0))) (sym (nat_cmp_is (suc (length xs)) 0 Greater (omega arith)))
    ∙ zeros_last j rest (omega (arith, length-append (x ∷ xs) (replicate i 0), length-replicate {A = ℕ} i 0))
padded (x ∷ xs) (y ∷ ys) i j h =
    let whole = key_cmp (xs ++ replicate i 0) (ys ++ replicate j 0) in
    then_assoc (nat_cmp x y) whole (nat_cmp (suc (length xs)) (suc (length ys)))
    ∙ ap (ordering_then (nat_cmp x y)) (ap (ordering_then whole) (sym (both_longer (length xs) (length ys))) ∙ padded xs ys i j (omega arith))

-- a list is its front and the zeros behind it
front_and_zeros : (m : ℕ) (a : List ℕ) → drop m a ≡ replicate (length a - m) 0 → a ≡ take m a ++ replicate (length a - m) 0
front_and_zeros m a h = sym (take-append-drop m a) ∙ ap (λ zs. take m a ++ zs) h

-- the strings are the fronts of lists of one length, which have zeros behind them
module _ (m n : ℕ) (a b : List ℕ) (f : m ≤ length a) (g : n ≤ length b) where
  len_m : length (take m a) ≡ m
  len_m = omega (arith, length-take m a)

  len_n : length (take n b) ≡ n
  len_n = omega (arith, length-take n b)

  fronts : length a ≡ length b → drop m a ≡ replicate (length a - m) 0 → drop n b ≡ replicate (length b - n) 0 →
      ordering_then (key_cmp a b) (nat_cmp m n) ≡ key_cmp (take m a) (take n b)
  fronts e h k =
      (λ i. ordering_then (key_cmp (front_and_zeros m a h i) (front_and_zeros n b k i)) (nat_cmp (sym len_m i) (sym len_n i)))
      ∙ padded (take m a) (take n b) (length a - m) (length b - n) (omega (arith, len_m, len_n))

  -- words that differ decide
  pub word_differs : length a ≡ length b → drop m a ≡ replicate (length a - m) 0 → drop n b ≡ replicate (length b - n) 0 →
      (found rest : Ordering) → is_ne found ≡ true → ordering_then found rest ≡ key_cmp a b → found ≡ key_cmp (take m a) (take n b)
  word_differs e h k found rest ne whole =
      decided found (ordering_then rest (nat_cmp m n)) _ ne
      (sym (then_assoc found rest (nat_cmp m n)) ∙ ap (λ o. ordering_then o (nat_cmp m n)) whole ∙ fronts e h k)

  -- where one of the strings has ended, the lengths decide
  pub one_ended : (at : ℕ) → min m n ≤ at → take at a ≡ take at b → nat_cmp m n ≡ key_cmp (take m a) (take n b)
  one_ended at e same =
      let p = min m n in
      let alike : take p (take m a) ≡ take p (take n b) =
      take-take p m a (omega arith) ∙ sym (take-take p at a e) ∙ ap (take p) same ∙ take-take p at b e ∙ sym (take-take p n b (omega arith)) in
      (λ i. nat_cmp (sym len_m i) (sym len_n i))
      ∙ sym (at_end p (take m a) (take n b) (omega (arith, len_m, len_n)))
      ∙ past p (take m a) (take n b) (omega (arith, len_m)) (omega (arith, len_n)) alike
