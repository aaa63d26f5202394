-- A key that is not shown is before each key that is.
use Rattle.std.proofs.Common.{◌≡◌, ℕ, zero, suc, Bool, true, false, cond, ◌&&◌, ◌==◌, arith, List, [], ◌∷◌, map, refl, ap}
use Rattle.std.proofs.lemmas.Bool.{lt-ltb}
use Rattle.std.specs.List.{list_all}
use Rattle.std.specs.Ordering.{nat_cmp, is_lt, is_le, ordering_then}
use Rattle.std.specs.declared.cmp.Ordering.TheVariants.{Less, Equal, Greater}
use Rattle.std.specs.Cmp.Lexicographic.{slice_cmp}
use Rattle.fab_types.specs.Order.{are_ascending, is_before, is_shown}
use Rattle.fab_types.specs.declared.items.ReadItem.{ReadItem}

apart : (b : Bool) → b ≡ false → b ≡ true → ⊥
apart b h k = cc

hidden_before : (a b : List ℕ) → is_shown a ≡ false → is_shown b ≡ true → is_before a b ≡ true
hidden_before [] [] h s = absurd (cc)
hidden_before [] (y ∷ ys) h s = refl
hidden_before (zero ∷ xs) [] h s = absurd (cc)
hidden_before (zero ∷ xs) (zero ∷ ys) h s = absurd (cc)
hidden_before (zero ∷ xs) (suc y ∷ ys) h s =
    ap (λ b. is_lt (ordering_then (cond b Less (cond (0 == suc y) Equal Greater)) (slice_cmp nat_cmp xs ys))) (lt-ltb 0 (suc y) (omega arith))
hidden_before (suc zero ∷ []) b h s = absurd (cc)
hidden_before (suc zero ∷ x ∷ xs) b h s = absurd (cc)
hidden_before (suc (suc x) ∷ xs) b h s =
    absurd (apart (is_shown (suc (suc x) ∷ xs)) h
    (ap (λ b. is_le (ordering_then (cond b Less (cond (1 == suc (suc x)) Equal Greater)) (slice_cmp nat_cmp [] xs))) (lt-ltb 1 (suc (suc x)) (omega arith))))

both : (a b : Bool) → a ≡ true → b ≡ true → (a && b) ≡ true
both true b h k = k
both false b h k = absurd (cc)

first_of : (a b : Bool) → (a && b) ≡ true → a ≡ true
first_of true b h = refl
first_of false b h = absurd (cc)

pub hidden_first : (item : ReadItem) (items : List ReadItem) → is_shown item.key ≡ false → list_all (λ i. is_shown i.key) items ≡ true →
    are_ascending (map (λ i. i.key) items) ≡ true → are_ascending (map (λ i. i.key) (item ∷ items)) ≡ true
hidden_first item [] hidden shown order = refl
hidden_first item (i ∷ is) hidden shown order =
    both (is_before item.key i.key) (are_ascending (map (λ i. i.key) (i ∷ is)))
    (hidden_before item.key i.key hidden (first_of (is_shown i.key) (list_all (λ i. is_shown i.key) is) shown)) order
