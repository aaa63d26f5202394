-- Numbers that are asked for.
use Rattle.std.proofs.Common.{◌≡◌, ℕ, zero, suc, ◌<◌, ◌≤◌, ◌^◌, List, [], ◌∷◌, length, get_or, Some, None, Result, Ok, Err, MatchOption, refl, sym, ap, subst, ◌∙◌, arith}
use Rattle.std.specs.Prelude.{slice_get}
use Rattle.std.specs.Result.{result_ok}
use Rattle.std.specs.Fmt.{decimal}
use Rattle.std.specs.Str.Parse.{AllDigits, IsNumeral, ParsesUnsigned, digits_value, without_leading_plus}
use Rattle.std.proofs.lemmas.Fmt.{decimal-digits_value, decimal_digit, decimal_is_IsNumeral, first_decimal}
use Rattle.std.proofs.lemmas.Str.Parse.{IsNumeralModel, without_leading_plus_none}
use Rattle.peer_answers.specs.Numbers.{IsDecimal}

digits_model : IsNumeralModel (AllDigits 10) (digits_value 10)
digits_model = record { to = λ ds h. h; from = λ ds h. h; same = λ ds h. refl }

first_of : (digits : List ℕ) (b : ℕ) → slice_get digits 0 ≡ Some b → get_or digits 0 0 ≡ b
first_of [] b e = absurd (cc e)
first_of (x ∷ xs) b e = cc e

-- a number above 0 begins with a digit above 0
pub number_begins : (digits : List ℕ) (n : ℕ) → IsDecimal digits n → 48 < get_or digits 0 0
number_begins digits n h = subst (λ (ds : List ℕ). 48 < get_or ds 0 0) (sym h.spelled) (first_decimal n h.above (omega (arith, h.small)))

pub none_small : (digits : List ℕ) (b : ℕ) → slice_get digits 0 ≡ Some b → b < 49 → (n : ℕ) → ¬ IsDecimal digits n
none_small digits b e small n h = let first = number_begins digits n h in let same = first_of digits b e in omega (arith, first, same, small)

pub none_empty : (digits : List ℕ) → slice_get digits 0 ≡ None → (n : ℕ) → ¬ IsDecimal digits n
none_empty [] e n h = let first = number_begins [] n h in omega (arith, first)
none_empty (x ∷ xs) e n h = absurd (cc e)

above_zero : (digits : List ℕ) (b n : ℕ) → slice_get digits 0 ≡ Some b → 49 ≤ b → digits ≡ decimal n → 0 < n
above_zero digits b zero e above is =
    let begins = first_of digits b e in
    let zero_first : get_or digits 0 0 ≡ 48 = ap (λ (ds : List ℕ). get_or ds 0 0) (is ∙ decimal_digit 0 (omega arith)) in
    absurd (omega (arith, begins, zero_first, above))
above_zero digits b (suc n) e above is = omega arith

-- what is parsed is the number that is spelled
pub number_parsed : {E : Type 0} (digits : List ℕ) (b : ℕ) (r : Result ℕ E) → slice_get digits 0 ≡ Some b → 49 ≤ b → ParsesUnsigned 32 10 digits r →
    MatchOption (result_ok r) ((n : ℕ) → ¬ IsDecimal digits n) (IsDecimal digits)
number_parsed digits b (Ok n) e above h =
    let begins = first_of digits b e in
    let plain : without_leading_plus digits ≡ digits = without_leading_plus_none digits (λ plus. omega (arith, begins, plus, above)) in
    let value : n ≡ digits_value 10 digits = h.1 ∙ ap (λ (ds : List ℕ). digits_value 10 ds) plain in
    let all : AllDigits 10 digits = subst (λ (ds : List ℕ). AllDigits 10 ds) plain h.0.0.1 in
    let some : 0 < length digits = subst (λ (ds : List ℕ). 0 < length ds) plain h.0.0.0 in
    let small : n < 2 ^ 32 = subst (λ (k : ℕ). k < 2 ^ 32) (sym h.1) h.0.1 in
    let spelled : decimal (digits_value 10 digits) ≡ digits =
    decimal-digits_value digits_model digits all some (λ zero_first. absurd (omega (arith, begins, zero_first, above))) (omega (arith, small, value)) in
    let is : digits ≡ decimal n = sym (ap (λ (k : ℕ). decimal k) value ∙ spelled) in
    record { above = above_zero digits b n e above is; small = small; spelled = is }
number_parsed digits b (Err x) e above h = λ n is.
    let begins = first_of digits b e in
    let plain : without_leading_plus digits ≡ digits = without_leading_plus_none digits (λ plus. omega (arith, begins, plus, above)) in
    let own = decimal_is_IsNumeral n (omega (arith, is.small)) in
    let same : decimal n ≡ without_leading_plus digits = sym (plain ∙ is.spelled) in
    h (
      subst (λ (ds : List ℕ). IsNumeral 10 ds) same own.0,
      subst (λ (k : ℕ). k < 2 ^ 32) (sym own.1 ∙ ap (λ (ds : List ℕ). digits_value 10 ds) same) is.small,
    )
