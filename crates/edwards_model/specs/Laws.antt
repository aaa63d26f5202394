-- Laws of the curve's points, and of their encodings.
use Rattle.std.specs.Prelude.{◌≡◌, ◌≢◌, ℕ, ◌%◌, ◌<◌, List, Some}
use Rattle.field25519.specs.Modulo.{p, plus, minus}
use Rattle.edwards_model.specs.Curve.{Affine, IsPoint, joint, sum, neutral, opposite, base, order, multiple}
use Rattle.edwards_model.specs.Encoding.{encoded, decoded}
use Rattle.edwards_model.specs.Inverses.{IsPrimeByInverses}

-- the points are a commutative group
pub record PointsAreGroup : Type 0 where
  pub closed : (a b : Affine) → IsPoint a → IsPoint b → IsPoint (sum a b)
  pub associative : (a b c : Affine) → IsPoint a → IsPoint b → IsPoint c → sum (sum a b) c ≡ sum a (sum b c)
  pub commutative : (a b : Affine) → sum a b ≡ sum b a
  pub neutral_is_point : IsPoint neutral
  pub with_neutral : (a : Affine) → IsPoint a → sum a neutral ≡ a
  pub opposite_is_point : (a : Affine) → IsPoint a → IsPoint (opposite a)
  pub with_opposite : (a : Affine) → IsPoint a → sum a (opposite a) ≡ neutral

-- the denominators of a sum are not zero
pub record SumHasDenominators (a b : Affine) : Type 0 where
  pub x : plus 1 (joint a b) % p ≢ 0
  pub y : minus 1 (joint a b) % p ≢ 0

-- B has the order L, a prime: its multiples by the numbers below L are different
pub record BaseHasOrder : Type 0 where
  pub prime : IsPrimeByInverses order
  pub ends : multiple order base ≡ neutral
  pub once : (i j : ℕ) → i < order → j < order → multiple i base ≡ multiple j base → i ≡ j

-- a point is decoded from its encoding, and what is decoded is a point
pub record PointsAreEncoded : Type 0 where
  pub back : (a : Affine) → IsPoint a → decoded (encoded a) ≡ Some a
  pub only : (bytes : List ℕ) (a : Affine) → decoded bytes ≡ Some a → IsPoint a
