-- The first of what a slice's items are made to that passes a test.
use Rattle.std.proofs.Common.{◌≡◌, ◌∙◌, ◌+◌, ◌<◌, ◌≤◌, ℕ, suc, Bool, true, false, List, Some, None, cond, map, drop, get_or, length, ap, arith}
use Rattle.std.proofs.Math.Seq.{drop-cons}
use Rattle.std.proofs.lemmas.List.{drop_all}
use Rattle.std.specs.List.{find}

-- it is looked for at a place, and behind it
looked_for : {A B : Type 0} (f : A → B) (p : B → Bool) (xs : List A) (i : ℕ) (d : A) (b : Bool) → i < length xs → p (f (get_or xs i d)) ≡ b →
    find p (map f (drop i xs)) ≡ cond b (Some (f (get_or xs i d))) (find p (map f (drop (suc i) xs)))
looked_for {A} f p xs i d b within is =
    ap (λ (ys : List A). find p (map f ys)) (drop-cons xs i d within)
    ∙ ap (λ (c : Bool). cond c (Some (f (get_or xs i d))) (find p (map f (drop (suc i) xs)))) is

pub found_at : {A B : Type 0} (f : A → B) (p : B → Bool) (xs : List A) (i : ℕ) (d : A) → i < length xs → p (f (get_or xs i d)) ≡ true →
    find p (map f (drop i xs)) ≡ Some (f (get_or xs i d))
found_at f p xs i d within is = looked_for f p xs i d true within is

pub passed_at : {A B : Type 0} (f : A → B) (p : B → Bool) (xs : List A) (i : ℕ) (d : A) → i < length xs → p (f (get_or xs i d)) ≡ false →
    find p (map f (drop i xs)) ≡ find p (map f (drop (i + 1) xs))
passed_at f p xs i d within is = let next : i + 1 ≡ suc i = omega arith in rw next (looked_for f p xs i d false within is)

pub none_past : {A B : Type 0} (f : A → B) (p : B → Bool) (xs : List A) (i : ℕ) → length xs ≤ i → find p (map f (drop i xs)) ≡ None
none_past {A} f p xs i past = ap (λ (ys : List A). find p (map f ys)) (drop_all i xs past)
