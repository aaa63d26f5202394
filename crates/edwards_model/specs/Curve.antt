-- The curve edwards25519: its points as pairs of residues modulo p, and their sums (RFC 8032, sections 3 and 5.1).
use Rattle.std.specs.Prelude.{◌≡◌, ℕ, zero, suc, ◌+◌, ◌-◌, ◌%◌, ◌^◌, Bool, nat_eq, ◌&&◌}
use Rattle.field25519.specs.Modulo.{p, plus, minus, times, power}

-- the curve is -x^2 + y^2 = 1 + d x^2 y^2 (5.1)
abbrev pub d : ℕ
d = 37095705934669439343138083508754565189542113879843219016388785533085940283555

pub record Affine : Type 0 where
  pub x : ℕ
  pub y : ℕ

pub record IsOnCurve (a : Affine) : Type 0 where
  pub curve : minus (times a.y a.y) (times a.x a.x) ≡ plus 1 (times d (times (times a.x a.x) (times a.y a.y)))

-- whether two pairs are the same
abbrev pub same : Affine → Affine → Bool
same a b = nat_eq a.x b.x && nat_eq a.y b.y

-- a point of the curve
pub record IsPoint (a : Affine) : Type 0 where
  pub curve : IsOnCurve a
  pub x_residue : a.x % p ≡ a.x
  pub y_residue : a.y % p ≡ a.y

-- a number by the inverse of another
abbrev pub quotient : ℕ → ℕ → ℕ
quotient x y = times x (power y (p - 2))

-- d x1 x2 y1 y2
abbrev pub joint : Affine → Affine → ℕ
joint a b = times d (times (times a.x b.x) (times a.y b.y))

-- the addition of section 3, where a is -1
abbrev pub sum : Affine → Affine → Affine
sum a b = record {
  x = quotient (plus (times a.x b.y) (times b.x a.y)) (plus 1 (joint a b));
  y = quotient (plus (times a.y b.y) (times a.x b.x)) (minus 1 (joint a b));
}

-- the neutral point (section 3)
abbrev pub neutral : Affine
neutral = record { x = 0; y = 1 }

-- the point whose sum with a is the neutral one
abbrev pub opposite : Affine → Affine
opposite a = record { x = minus 0 a.x; y = a.y }

-- B (5.1)
abbrev pub base : Affine
base = record {
  x = 15112221349535400772501151409588531511454012693041857206046113283949847762202;
  y = 46316835694926478169428394003475163141307993866256225615783033603165251855960;
}

-- the order of B, which 5.1 calls L
abbrev pub order : ℕ
order = 2 ^ 252 + 27742317777372353535851937790883648493

-- [n]a: a added so many times to the neutral point
unfoldable pub multiple : ℕ → Affine → Affine
multiple zero a = neutral
multiple (suc n) a = sum (multiple n a) a
