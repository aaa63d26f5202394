-- The row that a digit chooses from a window of the table.
use Rattle.std.proofs.Common.{◌≡◌, ◌≢◌, ℕ, zero, suc, ◌+◌, ◌*◌, ◌^◌, ◌<◌, Bool, true, false, List, [], ◌∷◌, length, get_or, refl, sym, ap, ◌∙◌, arith}
use Rattle.std.specs.Prelude.{nat_eq, nat_lt, ◌&&◌, if◌then◌else◌}
use Rattle.std.proofs.lemmas.Bool.{eqb-true, eqb-false, lt-ltb}
use Rattle.std.proofs.lemmas.Bool.Decides.{nat_tests}
use Rattle.field25519.specs.Modulo.{plus, minus, times}
use Rattle.edwards_model.specs.Curve.{neutral, base, multiple}
use Rattle.edwards_model.proofs.Ring.{and_left, and_right}
use Rattle.edwards_model.proofs.Group.{neutral_is}
use Rattle.edwards25519.specs.Prepared.{row_of, IsRow, neutral_row, row_for}
use Rattle.edwards25519.specs.declared.prepared.Row.{Row}
use Rattle.edwards25519.specs.declared.table.TheConstants.{MULTIPLES}
use Rattle.edwards25519.proofs.Rows.{point_of, multiple_at}

-- the row of a digit, of which so many rows have been read
abbrev pub row_until : ℕ → ℕ → List (List ℕ) → Row
row_until place zero rows = neutral_row
row_until place (suc k) rows = if nat_lt k place then row_of (get_or rows k []) else neutral_row

unread : (k : ℕ) → nat_lt k 0 ≡ false
unread k = grind (arith, nat_tests)

pub first_row : (digit : ℕ) (rows : List (List ℕ)) → neutral_row ≡ row_until 0 digit rows
first_row zero rows = refl
first_row (suc k) rows = sym (ap (λ b. if b then row_of (get_or rows k []) else neutral_row) (unread k))

same_test : (k place : ℕ) → k ≢ place → nat_lt k place ≡ nat_lt k (place + 1)
same_test k place n = grind (arith, nat_tests, n)

next_cases : (place digit : ℕ) (rows : List (List ℕ)) (first : Bool) → nat_eq digit (place + 1) ≡ first →
    (if first then row_of (get_or rows place []) else row_until place digit rows) ≡ row_until (place + 1) digit rows
next_cases place zero rows true h = absurd (let e : 0 ≡ place + 1 = eqb-true 0 (place + 1) h in omega (arith, e))
next_cases place zero rows false h = refl
next_cases place (suc k) rows true h =
    let e : suc k ≡ place + 1 = eqb-true (suc k) (place + 1) h in
    let same : place ≡ k = omega (arith, e) in
    let read : nat_lt k (place + 1) ≡ true = lt-ltb k (place + 1) (omega (arith, e)) in
    ap (λ j. row_of (get_or rows j [])) same ∙ sym (ap (λ b. if b then row_of (get_or rows k []) else neutral_row) read)
next_cases place (suc k) rows false h =
    let e : suc k ≢ place + 1 = eqb-false (suc k) (place + 1) h in
    ap (λ b. if b then row_of (get_or rows k []) else neutral_row) (same_test k place (λ z. e (omega (arith, z))))

pub next_row : (place digit : ℕ) (rows : List (List ℕ)) (r s : Row) → r ≡ row_until place digit rows →
    s ≡ (if nat_eq digit (place + 1) then row_of (get_or rows place []) else r) → s ≡ row_until (place + 1) digit rows
next_row place digit rows r s e f =
    f ∙ ap (λ q. if nat_eq digit (place + 1) then row_of (get_or rows place []) else q) e ∙ next_cases place digit rows (nat_eq digit (place + 1)) refl

pub last_row : (place digit : ℕ) (rows : List (List ℕ)) → place ≡ 15 → digit < 16 → row_until place digit rows ≡ row_for digit rows
last_row place zero rows e h = refl
last_row place (suc k) rows e h =
    let read : nat_lt k place ≡ true = lt-ltb k place (omega (arith, e, h)) in
    ap (λ b. if b then row_of (get_or rows k []) else neutral_row) read

abbrev are_whole : List (List (List ℕ)) → Bool
are_whole [] = true
are_whole (rows ∷ windows) = nat_eq (length rows) 15 && are_whole windows

windows_are_whole : are_whole MULTIPLES ≡ true
windows_are_whole = refl

whole_at : (windows : List (List (List ℕ))) (w : ℕ) → are_whole windows ≡ true → w < length windows → length (get_or windows w []) ≡ 15
whole_at [] w h l = absurd (omega (arith, l))
whole_at (rows ∷ windows) zero h l = eqb-true _ _ (and_left _ _ h)
whole_at (rows ∷ windows) (suc w) h l = whole_at windows w (and_right _ _ h) (omega (arith, l))

point_of_neutral : point_of neutral_row ≡ neutral
unfolding plus minus times
point_of_neutral = refl

neutral_row_is : IsRow neutral_row
unfolding plus minus times
neutral_row_is = record { point = neutral_is; difference_is = refl; sum_is = refl; product_is = refl }

pub row_at : (w digit : ℕ) → w < 16 → digit < 16 →
    IsRow (row_for digit (get_or MULTIPLES w [])) × (point_of (row_for digit (get_or MULTIPLES w [])) ≡ multiple (65536 ^ w * digit) base)
unfolding multiple
row_at w zero h l = (neutral_row_is, point_of_neutral ∙ ap (λ n. multiple n base) (let o : 0 ≡ 65536 ^ w * 0 = omega arith in o))
row_at w (suc k) h l = (let whole = whole_at MULTIPLES w windows_are_whole h in multiple_at w k h (omega (arith, whole, l)))
