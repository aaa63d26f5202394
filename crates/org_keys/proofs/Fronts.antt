-- A front of two pieces: five bytes and 32.
use Rattle.std.proofs.Common.{◌≡◌, ◌≤◌, ℕ, List, [], ◌++◌, length, take, drop, ap, ◌∙◌, arith, length-append}
use Rattle.std.proofs.lemmas.List.{take_all, drop_all, append-nil, take-append-le, length-drop}

pub pieces : (xs ys zs : List ℕ) → length xs ≡ 5 → length zs ≡ 32 → take 5 (xs ++ zs) ++ (ys ++ drop 32 (drop 5 (xs ++ zs))) ≡ xs ++ ys
pieces xs ys zs h g =
    let first : take 5 (xs ++ zs) ≡ xs = take-append-le 5 xs zs (omega arith) ∙ take_all 5 xs (omega arith) in
    let short : length (drop 5 (xs ++ zs)) ≤ 32 = omega (arith, length-drop 5 (xs ++ zs), length-append xs zs) in
    let rest : drop 32 (drop 5 (xs ++ zs)) ≡ [] = drop_all 32 (drop 5 (xs ++ zs)) short in
    ap (λ l. l ++ (ys ++ drop 32 (drop 5 (xs ++ zs)))) first ∙ ap (λ l. xs ++ (ys ++ l)) rest ∙ ap (λ l. xs ++ l) (append-nil ys)
