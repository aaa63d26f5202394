-- The curve in extended coordinates, whatever z is.
use Rattle.std.specs.Prelude.{◌≡◌}
use Rattle.field25519.specs.Modulo.{plus, minus, times}
use Rattle.edwards_model.specs.Curve.{d}
use Rattle.edwards_model.specs.Extended.{Extended}

pub record OnCurve (q : Extended) : Type 0 where
  pub curve : minus (times q.y q.y) (times q.x q.x) ≡ plus (times q.z q.z) (times d (times q.t q.t))
  pub product : times q.x q.y ≡ times q.z q.t
