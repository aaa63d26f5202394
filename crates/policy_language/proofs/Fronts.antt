-- The longest front of bytes that pass a test.
use Rattle.std.proofs.Common.{◌≡◌, ℕ, suc, ◌+◌, take, drop, Bool, true, false, cond, List, [], ◌∷◌, ◌++◌, length, refl, arith}
use Rattle.std.proofs.lemmas.List.{take_at, drop_at}
use Rattle.std.specs.Prelude.{◌&&◌}
use Rattle.std.specs.List.{list_all, prefix_len}

one_more : (n : ℕ) → 1 + n ≡ suc n
one_more n = omega arith

module _ (p : ℕ → Bool) where
  pub front_passes : (bs : List ℕ) → list_all p (take (prefix_len p bs) bs) ≡ true
  front_passes [] = refl
  front_passes (b ∷ bs) = decided (p b) refl (front_passes bs)
    where
      decided : (t : Bool) → p b ≡ t → list_all p (take (prefix_len p bs) bs) ≡ true → list_all p (take (cond t (1 + prefix_len p bs) 0) (b ∷ bs)) ≡ true
      decided true e rest = rw (one_more (prefix_len p bs), e) rest
      decided false e rest = refl

  -- what passes, before what does not pass
  pub front_len : (xs : List ℕ) (y : ℕ) (zs : List ℕ) → list_all p xs ≡ true → p y ≡ false → prefix_len p (xs ++ y ∷ zs) ≡ length xs
  front_len [] y zs all stops = rw stops refl
  front_len (x ∷ xs) y zs all stops = decided (p x) refl all (λ rest. front_len xs y zs rest stops)
    where
      decided : (t : Bool) → p x ≡ t → (t && list_all p xs) ≡ true → (list_all p xs ≡ true → prefix_len p (xs ++ y ∷ zs) ≡ length xs) →
          cond t (1 + prefix_len p (xs ++ y ∷ zs)) 0 ≡ length (x ∷ xs)
      decided true e rest more = rw (more rest) (one_more (length xs))
      decided false e rest more = absurd cc

  pub front_taken : (xs : List ℕ) (y : ℕ) (zs : List ℕ) → list_all p xs ≡ true → p y ≡ false → take (prefix_len p (xs ++ y ∷ zs)) (xs ++ y ∷ zs) ≡ xs
  front_taken xs y zs all stops = rw (front_len xs y zs all stops) (take_at xs (y ∷ zs) (length xs) refl)

  pub front_left : (xs : List ℕ) (y : ℕ) (zs : List ℕ) → list_all p xs ≡ true → p y ≡ false → drop (prefix_len p (xs ++ y ∷ zs)) (xs ++ y ∷ zs) ≡ y ∷ zs
  front_left xs y zs all stops = rw (front_len xs y zs all stops) (drop_at xs (y ∷ zs) (length xs) refl)

  -- what passes, before what begins with nothing that passes
  pub front_ends : (xs zs : List ℕ) → list_all p xs ≡ true → prefix_len p zs ≡ 0 → prefix_len p (xs ++ zs) ≡ length xs
  front_ends [] zs all stops = stops
  front_ends (x ∷ xs) zs all stops = decided (p x) refl all (λ rest. front_ends xs zs rest stops)
    where
      decided : (t : Bool) → p x ≡ t → (t && list_all p xs) ≡ true → (list_all p xs ≡ true → prefix_len p (xs ++ zs) ≡ length xs) →
          cond t (1 + prefix_len p (xs ++ zs)) 0 ≡ length (x ∷ xs)
      decided true e rest more = rw (more rest) (one_more (length xs))
      decided false e rest more = absurd cc

  pub front_stops : (bs : List ℕ) → prefix_len p (drop (prefix_len p bs) bs) ≡ 0
  front_stops [] = refl
  front_stops (b ∷ bs) = decided (p b) refl (front_stops bs)
    where
      decided : (t : Bool) → p b ≡ t → prefix_len p (drop (prefix_len p bs) bs) ≡ 0 → prefix_len p (drop (cond t (1 + prefix_len p bs) 0) (b ∷ bs)) ≡ 0
      decided true e rest = rw (one_more (prefix_len p bs)) rest
      decided false e rest = rw e refl
