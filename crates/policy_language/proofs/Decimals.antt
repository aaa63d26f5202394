-- The number that at most four digits stand for.
use Rattle.std.proofs.Common.{◌≡◌, ℕ, zero, suc, ◌+◌, ◌*◌, ◌-◌, ◌<◌, ◌≤◌, get_or, drop, Bool, true, false, List, [], ◌∷◌, length, refl, ap, ◌∙◌, add-one, arith}
use Rattle.std.specs.Prelude.{◌&&◌}
use Rattle.std.specs.List.{list_all}
use Rattle.std.proofs.Math.Seq.{drop-cons}
use Rattle.std.proofs.lemmas.Bool.Decides.{nat_tests}
use Rattle.fab_types.specs.Limits.{is_digit}
use Rattle.policy_language.specs.Spelling.{decimal_after}

abbrev pub power : ℕ → ℕ
power zero = 1
power (suc n) = 10 * power n

pub fits : (i v : ℕ) → i < 4 → v < power i → 10 * v + 9 < 10000
fits zero v lt h = omega arith
fits (suc zero) v lt h = omega arith
fits (suc (suc zero)) v lt h = omega arith
fits (suc (suc (suc zero))) v lt h = omega arith
fits (suc (suc (suc (suc i)))) v lt h = absurd (omega arith)

pub grows : (i v d : ℕ) → v < power i → d ≤ 9 → 10 * v + d < power (i + 1)
grows i v d h le = rw add-one (omega arith)

both : (a b : Bool) → (a && b) ≡ true → (a ≡ true) × (b ≡ true)
both true b e = (refl, e)
both false b e = absurd cc

pub digit_at : (ds : List ℕ) (i : ℕ) → i < length ds → list_all is_digit ds ≡ true → (48 ≤ get_or ds i 0) × (get_or ds i 0 ≤ 57)
digit_at [] i lt all = absurd (omega arith)
digit_at (d ∷ ds) zero lt all = let is = (both (is_digit d) (list_all is_digit ds) all).0 in (grind (arith, nat_tests), grind (arith, nat_tests))
digit_at (d ∷ ds) (suc i) lt all = digit_at ds i (omega arith) (both (is_digit d) (list_all is_digit ds) all).1

pub goes_on : (ds : List ℕ) (i v : ℕ) → i < length ds → decimal_after v (drop i ds) ≡ decimal_after (10 * v + (get_or ds i 0 - 48)) (drop (i + 1) ds)
goes_on ds i v lt = ap (decimal_after v) (drop-cons ds i 0 lt) ∙ rw add-one refl
