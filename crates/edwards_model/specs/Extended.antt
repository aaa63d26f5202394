-- Points in extended homogeneous coordinates: x z, y z, z and x y z, for any z but zero (RFC 8032, section 5.1.4).
use Rattle.std.specs.Prelude.{◌≡◌, ◌≢◌, ℕ, ◌*◌, ◌%◌, Bool, nat_eq, ◌&&◌}
use Rattle.field25519.specs.Modulo.{p, plus, minus, times}
use Rattle.edwards_model.specs.Curve.{d, Affine, IsOnCurve, quotient}

pub record Extended : Type 0 where
  pub x : ℕ
  pub y : ℕ
  pub z : ℕ
  pub t : ℕ

-- what 5.1.4 makes of its E, F, G and H
abbrev pub completed : ℕ → ℕ → ℕ → ℕ → Extended
completed e f g h = record { x = times e f; y = times g h; z = times f g; t = times e h }

-- from 5.1.4's A, B, C and D
abbrev pub added_from : ℕ → ℕ → ℕ → ℕ → Extended
added_from a b c d = completed (minus b a) (minus d c) (plus d c) (plus b a)

-- the addition of 5.1.4
unfoldable pub added : Extended → Extended → Extended
added q r =
    added_from
    (times (minus q.y q.x) (minus r.y r.x))
    (times (plus q.y q.x) (plus r.y r.x))
    (times (times q.t (2 * d)) r.t)
    (times (times 2 q.z) r.z)

-- from 5.1.4's A, B, C and (X + Y)^2
abbrev pub doubled_from : ℕ → ℕ → ℕ → ℕ → Extended
doubled_from a b c s = completed (minus (plus a b) s) (plus c (minus a b)) (minus a b) (plus a b)

-- the doubling of 5.1.4
unfoldable pub doubled : Extended → Extended
doubled q =
    doubled_from (times q.x q.x) (times q.y q.y) (times 2 (times q.z q.z)) (times (plus q.x q.y) (plus q.x q.y))

-- a pair in extended coordinates, with this z
abbrev pub extended : Affine → ℕ → Extended
extended a z = record { x = times a.x z; y = times a.y z; z = z; t = times (times a.x a.y) z }

-- x / z and y / z
abbrev pub affine : Extended → Affine
affine q = record { x = quotient q.x q.z; y = quotient q.y q.z }

-- extended coordinates of a point of the curve
pub record Represents (q : Extended) (a : Affine) : Type 0 where
  pub z_nonzero : q.z % p ≢ 0
  pub point : q ≡ extended a q.z
  pub curve : IsOnCurve a
  pub x_residue : a.x % p ≡ a.x
  pub y_residue : a.y % p ≡ a.y

-- whether x1 / z1 = x2 / z2 and y1 / z1 = y2 / z2
abbrev pub same_point : Extended → Extended → Bool
same_point q r = nat_eq (times q.x r.z) (times r.x q.z) && nat_eq (times q.y r.z) (times r.y q.z)
