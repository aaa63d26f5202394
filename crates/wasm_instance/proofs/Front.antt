-- Bytes that are laid out, with zeros behind them.
use Rattle.std.proofs.Common.{◌≡◌, ◌≤◌, ◌<◌, ◌+◌, ◌-◌, ℕ, Bool, true, false, cond, List, [], ◌∷◌, ◌++◌, length, take, drop, replicate, min, inl, inr, refl, sym}
use Rattle.std.proofs.Common.{ap, ◌∙◌, arith, append_assoc, length-append, length-drop}
use Rattle.std.specs.Prelude.{slice_set}
use Rattle.std.proofs.lemmas.List.{append-nil, take_all, drop_all, take_at, drop_at, drop-drop, take-append-drop, take-append-le, drop-append-le}
use Rattle.std.proofs.lemmas.List.{length-replicate, drop-replicate, replicate-append-replicate, set-append_left, length-set}
use Rattle.std.proofs.lemmas.Bool.{cases_lt}
use Rattle.wasm_meaning.specs.Memory.{bytes_at, with_bytes}
use Rattle.wasm_meaning.proofs.Writing.{written-is}
use Rattle.wasm_instance.specs.Front.{padded}

pub length-padded : (n : ℕ) (xs : List ℕ) → length xs ≤ n → length (padded n xs) ≡ n
length-padded n xs h = omega (arith, length-append xs (replicate (n - length xs) 0), length-replicate {A = ℕ} (n - length xs) 0)

-- a list of that length already
pub padded_whole : (n : ℕ) (xs : List ℕ) → length xs ≡ n → padded n xs ≡ xs
padded_whole n xs e =
    let z : n - length xs ≡ 0 = omega (arith, e) in
    ap (λ k. xs ++ replicate k 0) z ∙ append-nil xs

-- zeros that are laid out were there before
pub padded_more : (n k : ℕ) (xs : List ℕ) → length xs + k ≤ n → padded n (xs ++ replicate k 0) ≡ padded n xs
padded_more n k xs h =
    let rest : n - length (xs ++ replicate k 0) ≡ n - length xs - k = omega (arith, length-append xs (replicate k 0), length-replicate {A = ℕ} k 0) in
    let all : k + (n - length xs - k) ≡ n - length xs = omega (arith, h) in
    ap (λ j. (xs ++ replicate k 0) ++ replicate j 0) rest
    ∙ append_assoc xs (replicate k 0) (replicate (n - length xs - k) 0)
    ∙ ap (λ zs. xs ++ zs) (replicate-append-replicate k (n - length xs - k) 0 ∙ ap (λ j. replicate j 0) all)

-- a longer memory
pub padded_grown : (n k : ℕ) (xs : List ℕ) → length xs ≤ n → padded (n + k) xs ≡ padded n xs ++ replicate k 0
padded_grown n k xs h =
    let all : n + k - length xs ≡ (n - length xs) + k = omega (arith, h) in
    ap (λ j. xs ++ replicate j 0) all
    ∙ ap (λ zs. xs ++ zs) (sym (replicate-append-replicate (n - length xs) k 0))
    ∙ sym (append_assoc xs (replicate (n - length xs) 0) (replicate k 0))

pub take-padded : (k n : ℕ) (xs : List ℕ) → length xs ≤ k → k ≤ n → take k (padded n xs) ≡ padded k xs
take-padded k n xs h le =
    let split : n ≡ k + (n - k) = omega (arith, le) in
    ap (λ m. take k (padded m xs)) split
    ∙ ap (λ ys. take k ys) (padded_grown k (n - k) xs h)
    ∙ take_at (padded k xs) (replicate (n - k) 0) k (length-padded k xs h)

sub-zero : (n : ℕ) → n - 0 ≡ n
sub-zero n = omega arith

pub drop-padded : (p n : ℕ) (xs : List ℕ) → length xs ≤ n → drop p (padded n xs) ≡ padded (n - p) (drop p xs)
drop-padded p n xs h =
    elim (cases_lt (length xs) p) as (λ _. drop p (padded n xs) ≡ padded (n - p) (drop p xs)) [
      | inl past ↦
          let none : drop p xs ≡ [] = drop_all p xs (omega (arith, past)) in
          let split : p ≡ length xs + (p - length xs) = omega (arith, past) in
          let zeros : n - length xs - (p - length xs) ≡ n - p = omega (arith, h, past) in
          ap (λ q. drop q (padded n xs)) split
          ∙ sym (drop-drop (p - length xs) (length xs) (padded n xs))
          ∙ ap (λ ys. drop (p - length xs) ys) (drop_at xs (replicate (n - length xs) 0) (length xs) refl)
          ∙ drop-replicate (p - length xs) (n - length xs) 0
          ∙ ap (λ k. replicate k 0) zeros
          ∙ sym (ap (λ ys. padded (n - p) ys) none ∙ ap (λ k. replicate {A = ℕ} k 0) (sub-zero (n - p)))
      | inr le ↦
          let zeros : n - length xs ≡ n - p - length (drop p xs) = omega (arith, h, le, length-drop p xs) in
          drop-append-le p xs (replicate (n - length xs) 0) le
          ∙ ap (λ k. drop p xs ++ replicate k 0) zeros
    ]

-- eight bytes of a memory, of which only what is laid out is copied
pub window : (p n : ℕ) (xs : List ℕ) → length xs ≤ n → length xs < p + 8 → take (min (n - p) 8) (padded 8 (drop p xs)) ≡ take 8 (drop p (padded n xs))
window p n xs h near =
    let len = length-drop p xs in
    let short : length (drop p xs) ≤ 8 = omega (arith, len, near) in
    let fits : length (drop p xs) ≤ n - p = omega (arith, len, h) in
    let left : take (min (n - p) 8) (padded 8 (drop p xs)) ≡ padded (min (n - p) 8) (drop p xs) =
    take-padded (min (n - p) 8) 8 (drop p xs) (omega (arith, short, fits)) (omega arith) in
    left ∙ sym (ap (λ ys. take 8 ys) (drop-padded p n xs h) ∙ cut (n - p) (drop p xs) short fits)
  where
    cut : (m : ℕ) (ys : List ℕ) → length ys ≤ 8 → length ys ≤ m → take 8 (padded m ys) ≡ padded (min m 8) ys
    cut m ys short fits =
        elim (cases_lt m 8) as (λ _. take 8 (padded m ys) ≡ padded (min m 8) ys) [
          | inl less ↦
              let e : min m 8 ≡ m = omega (arith, less) in
              take_all 8 (padded m ys) (omega (arith, less, length-padded m ys fits)) ∙ sym (ap (λ k. padded k ys) e)
          | inr more ↦
              let e : min m 8 ≡ 8 = omega (arith, more) in
              take-padded 8 m ys short more ∙ sym (ap (λ k. padded k ys) e)
        ]

-- bytes that are read within what is laid out
pub bytes_laid : (n p w : ℕ) (xs : List ℕ) → p + w ≤ length xs → bytes_at (padded n xs) p w ≡ bytes_at xs p w
bytes_laid n p w xs h =
    ap (λ ys. take w ys) (drop-append-le p xs (replicate (n - length xs) 0) (omega (arith, h)))
    ∙ take-append-le w (drop p xs) (replicate (n - length xs) 0) (omega (arith, h, length-drop p xs))

pub length-written : (m bytes : List ℕ) (p : ℕ) → length (with_bytes m p bytes) ≡ length m
length-written m [] p = refl
length-written m (b ∷ bytes) p = length-written (slice_set m p b) bytes (p + 1) ∙ length-set m p b

-- bytes that are written within the first of two lists
pub written-append : (xs ys bytes : List ℕ) (p : ℕ) → p + length bytes ≤ length xs → with_bytes (xs ++ ys) p bytes ≡ with_bytes xs p bytes ++ ys
written-append xs ys [] p h = refl
written-append xs ys (b ∷ bytes) p h =
    ap (λ zs. with_bytes zs (p + 1) bytes) (set-append_left xs ys p b (omega (arith, h)))
    ∙ written-append (slice_set xs p b) ys bytes (p + 1) (omega (arith, h, length-set xs p b))

pub written_laid : (n p : ℕ) (xs bytes : List ℕ) → p + length bytes ≤ length xs → with_bytes (padded n xs) p bytes ≡ padded n (with_bytes xs p bytes)
written_laid n p xs bytes h =
    written-append xs (replicate (n - length xs) 0) bytes p h
    ∙ ap (λ k. with_bytes xs p bytes ++ replicate (n - k) 0) (sym (length-written xs bytes p))

-- the same in the first bytes of a memory
pub written_front : (n p : ℕ) (xs bytes : List ℕ) → p + length bytes ≤ length (take n xs) → with_bytes (take n xs) p bytes ++ drop n xs ≡ with_bytes xs p bytes
written_front n p xs bytes h =
    sym (written-append (take n xs) (drop n xs) bytes p h) ∙ ap (λ ys. with_bytes ys p bytes) (take-append-drop n xs)

-- what is copied to the beginning of eight zeros
pub copied : (laid : List ℕ) → length laid ≤ 8 → with_bytes (replicate 8 0) 0 laid ≡ padded 8 laid
copied laid h =
    let rest : 8 - (0 + length laid) ≡ 8 - length laid = omega arith in
    written-is (replicate 8 0) laid 0 (omega (arith, h))
    ∙ ap (λ zs. laid ++ zs) (drop-replicate (0 + length laid) 8 0 ∙ ap (λ k. replicate k 0) rest)

-- after more is laid out, or where that was refused
pub padded_resized : (n k count : ℕ) (xs ys : List ℕ) (done : Bool) → count ≡ length xs → length xs ≤ k → k ≤ n →
    ys ≡ cond done (take k xs ++ replicate (k - count) 0) xs → padded n ys ≡ padded n xs
padded_resized n k count xs ys true len more fits e =
    ap (λ zs. padded n zs) (e ∙ ap (λ zs. zs ++ replicate (k - count) 0) (take_all k xs more))
    ∙ padded_more n (k - count) xs (omega (arith, len, more, fits))
padded_resized n k count xs ys false len more fits e = ap (λ zs. padded n zs) e
