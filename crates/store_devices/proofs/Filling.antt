-- A buffer that is filled piece by piece.
use Rattle.std.proofs.Common.{◌≡◌, ◌≤◌, ◌+◌, ℕ, List, ◌++◌, Option, Some, None, IfSome, length, take, drop, sym, ap, ap₂, ◌∙◌, arith}
use Rattle.std.proofs.Math.Seq.{take-add, take-append-add}
use Rattle.std.proofs.lemmas.List.{drop-drop, length-take, take-append-le}
use Rattle.store_devices.specs.StoreFile.{Gives}

-- a piece more is filled
pub filled_more : (known : Option (List ℕ)) (place at n from : ℕ) (old sub rest : List ℕ) →
    IfSome known (λ held. take at old ≡ take at (drop place held)) → Gives known from n sub → from ≡ place + at → n ≤ length sub → at ≤ length old →
    IfSome known (λ held. take (at + n) (take at old ++ (sub ++ rest)) ≡ take (at + n) (drop place held))
filled_more None place at n from old sub rest so_far gives on bound within = tt
filled_more (Some held) place at n from old sub rest so_far gives on bound within =
    let front = take at old in
    let size : length front ≡ at = omega (arith, within, length-take at old) in
    let split : take (at + n) (front ++ (sub ++ rest)) ≡ front ++ take n sub =
    ap (λ (k : ℕ). take (k + n) (front ++ (sub ++ rest))) (sym size) ∙ take-append-add front (sub ++ rest) n
    ∙ ap (λ (l : List ℕ). front ++ l) (take-append-le n sub rest bound) in
    let given : take n sub ≡ take n (drop at (drop place held)) =
    gives.0 ∙ ap (λ (k : ℕ). take n (drop k held)) on ∙ ap (take n) (sym (drop-drop at place held)) in
    split ∙ ap₂ (λ (x y : List ℕ). x ++ y) so_far given ∙ sym (take-add at n (drop place held))
