-- Sums of three points of the curve are the same, whichever two are added first.
use Rattle.std.proofs.Common.{◌≡◌, ℕ, ◌+◌, ◌*◌, ◌%◌, true, List, [], ◌∷◌, refl, ap, ◌∙◌}
use Rattle.std.specs.Cmp.Derive.{both_true}
use Rattle.std.proofs.lemmas.Bool.{eq-eqb}
use Rattle.field25519.specs.Modulo.{p, plus, times}
use Rattle.edwards_model.specs.Curve.{d}
use Rattle.edwards_model.specs.Extended.{added, same_point, Extended}
use Rattle.edwards_model.proofs.Homogeneous.{OnCurve}
use Rattle.edwards_model.proofs.Ring.{Expr, Var, Num, Add, Sub, Mul, meaning, ring}
use Rattle.edwards_model.proofs.Units.{times_whole}
use Rattle.edwards_model.proofs.Closing.{minus_same, times_none, plus_none, both_none}

record Exprs : Type 0 where
  pub x : Expr
  pub y : Expr
  pub z : Expr
  pub t : Expr

abbrev v : ℕ → Expr
v n = Var n

abbrev dd : Expr
dd = Num d

abbrev point : ℕ → Exprs
point n = record { x = v n; y = v (n + 1); z = v (n + 2); t = v (n + 3) }

abbrev A : Exprs → Exprs → Expr
A q r = Mul (Sub q.y q.x) (Sub r.y r.x)

abbrev B : Exprs → Exprs → Expr
B q r = Mul (Add q.y q.x) (Add r.y r.x)

abbrev C : Exprs → Exprs → Expr
C q r = Mul (Mul q.t (Num (2 * d))) r.t

abbrev D : Exprs → Exprs → Expr
D q r = Mul (Mul (Num 2) q.z) r.z

abbrev E : Exprs → Exprs → Expr
E q r = Sub (B q r) (A q r)

abbrev F : Exprs → Exprs → Expr
F q r = Sub (D q r) (C q r)

abbrev G : Exprs → Exprs → Expr
G q r = Add (D q r) (C q r)

abbrev H : Exprs → Exprs → Expr
H q r = Add (B q r) (A q r)

abbrev total : Exprs → Exprs → Exprs
total q r = record { x = Mul (E q r) (F q r); y = Mul (G q r) (H q r); z = Mul (F q r) (G q r); t = Mul (E q r) (H q r) }

abbrev one : Exprs
one = point 0

abbrev two : Exprs
two = point 4

abbrev three : Exprs
three = point 8

abbrev first : Exprs
first = total one two

abbrev last : Exprs
last = total two three

abbrev curve : Exprs → Expr
curve q = Sub (Sub (Mul q.y q.y) (Mul q.x q.x)) (Add (Mul q.z q.z) (Mul dd (Mul q.t q.t)))

abbrev cross : Exprs → Expr
cross q = Sub (Mul q.x q.y) (Mul q.z q.t)

abbrev x0 : Expr
x0 = (Mul (Mul (v 11) dd) (Add (Add (Add (Add (Add (Add (Add (Add (Add (Add (Add (Add (Add (Add (Add (Add (Add (Add (Mul (Mul (Mul (Mul (v 4) (v 8))
    (v 1)) (v 10)) (Mul (Mul (v 6) (v 6)) (v 6))) (Mul (Mul (Mul (Mul (v 8) (v 1)) (v 6)) (v 10)) (Mul (Mul (v 4) (v 4)) (v 4)))) (Mul (Mul (Mul (Mul
    (Mul (Sub (Num 0) (Num 3)) (v 1)) (v 9)) (v 6)) (v 10)) (Mul (Mul (v 5) (v 5)) (v 5)))) (Mul (Mul (Mul (Mul (Mul (Num 3) (v 1)) (v 5)) (v 9)) (v
    10)) (Mul (Mul (v 6) (v 6)) (v 6)))) (Mul (Mul (Mul (Mul (Mul (v 7) (v 11)) (v 8)) (v 1)) dd) (Mul (Mul (v 4) (v 4)) (v 4)))) (Mul (Mul (Mul (Mul
    (Mul (v 7) (v 11)) (v 1)) (v 9)) dd) (Mul (Mul (v 5) (v 5)) (v 5)))) (Mul (Mul (Mul (Mul (Mul (v 11) (v 4)) (v 8)) (v 1)) (Mul (Mul (v 7) (v 7))
    (v 7))) (Mul dd dd))) (Mul (Mul (Mul (Mul (Mul (v 0) (v 4)) (v 9)) (v 6)) (v 10)) (Mul (v 5) (v 5)))) (Mul (Mul (Mul (Mul (Mul (v 0) (v 8)) (v
    5)) (v 6)) (v 10)) (Mul (v 4) (v 4)))) (Mul (Mul (Mul (Mul (Mul (Mul (Sub (Num 0) (Num 1)) (v 11)) (v 1)) (v 5)) (v 9)) (Mul (Mul (v 7) (v 7)) (v
    7))) (Mul dd dd))) (Mul (Mul (Mul (Mul (Mul (Mul (Sub (Num 0) (Num 4)) (v 7)) (v 8)) (v 1)) (v 5)) (v 10)) (Mul (v 6) (v 6)))) (Mul (Mul (Mul
    (Mul (Mul (Mul (Num 2) (v 4)) (v 8)) (v 1)) (v 6)) (v 10)) (Mul (v 5) (v 5)))) (Mul (Mul (Mul (Mul (Mul (Mul (Num 2) (v 1)) (v 5)) (v 9)) (v 6))
    (v 10)) (Mul (v 4) (v 4)))) (Mul (Mul (Mul (Mul (Mul (Mul (v 7) (v 11)) (v 0)) (v 4)) (v 9)) dd) (Mul (v 5) (v 5)))) (Mul (Mul (Mul (Mul (Mul
    (Mul (v 7) (v 11)) (v 0)) (v 8)) (v 5)) dd) (Mul (v 4) (v 4)))) (Mul (Mul (Mul (Mul (Mul (Mul (v 7) (v 11)) (v 4)) (v 8)) (v 1)) dd) (Mul (v 6)
    (v 6)))) (Mul (Mul (Mul (Mul (Mul (Mul (v 4) (v 8)) (v 1)) (v 6)) (v 10)) dd) (Mul (v 7) (v 7)))) (Mul (Mul (Mul (Mul (Mul (Mul (Mul (Sub (Num 0)
    (Num 1)) (v 7)) (v 11)) (v 1)) (v 5)) (v 9)) dd) (Mul (v 6) (v 6)))) (Mul (Mul (Mul (Mul (Mul (Mul (Mul (Num 3) (v 1)) (v 5)) (v 9)) (v 6)) (v
    10)) dd) (Mul (v 7) (v 7)))))

abbrev x1 : Expr
x1 = (Mul (Mul (v 11) dd) (Add (Add (Add (Add (Add (Add (Add (Add (Add (Add (Add (Add (Add (Add (Add (Add (Add (Mul (Mul (Mul (Mul (v 0) (v 4)) (v
    8)) (v 10)) (Mul (Mul (v 6) (v 6)) (v 6))) (Mul (Mul (Mul (Mul (Mul (Sub (Num 0) (Num 1)) (v 8)) (v 1)) (v 6)) (v 10)) (Mul (Mul (v 5) (v 5)) (v
    5)))) (Mul (Mul (Mul (Mul (Mul (Sub (Num 0) (Num 1)) (v 1)) (v 9)) (v 6)) (v 10)) (Mul (Mul (v 4) (v 4)) (v 4)))) (Mul (Mul (Mul (Mul (Mul (Sub
    (Num 0) (Num 4)) (v 0)) (v 9)) (v 6)) (v 10)) (Mul (Mul (v 5) (v 5)) (v 5)))) (Mul (Mul (Mul (Mul (Mul (Num 3) (v 0)) (v 5)) (v 9)) (v 10)) (Mul
    (Mul (v 6) (v 6)) (v 6)))) (Mul (Mul (Mul (Mul (Mul (v 7) (v 11)) (v 8)) (v 1)) dd) (Mul (Mul (v 5) (v 5)) (v 5)))) (Mul (Mul (Mul (Mul (Mul (v
    7) (v 11)) (v 1)) (v 9)) dd) (Mul (Mul (v 4) (v 4)) (v 4)))) (Mul (Mul (Mul (Mul (Mul (v 11) (v 0)) (v 4)) (v 8)) (Mul (Mul (v 7) (v 7)) (v 7)))
    (Mul dd dd))) (Mul (Mul (Mul (Mul (Mul (Mul (Sub (Num 0) (Num 1)) (v 11)) (v 0)) (v 5)) (v 9)) (Mul (Mul (v 7) (v 7)) (v 7))) (Mul dd dd))) (Mul
    (Mul (Mul (Mul (Mul (Mul (Sub (Num 0) (Num 4)) (v 7)) (v 0)) (v 8)) (v 5)) (v 10)) (Mul (v 6) (v 6)))) (Mul (Mul (Mul (Mul (Mul (Mul (Sub (Num 0)
    (Num 3)) (v 4)) (v 1)) (v 9)) (v 6)) (v 10)) (Mul (v 5) (v 5)))) (Mul (Mul (Mul (Mul (Mul (Mul (Sub (Num 0) (Num 3)) (v 8)) (v 1)) (v 5)) (v 6))
    (v 10)) (Mul (v 4) (v 4)))) (Mul (Mul (Mul (Mul (Mul (Mul (v 7) (v 11)) (v 0)) (v 4)) (v 8)) dd) (Mul (v 6) (v 6)))) (Mul (Mul (Mul (Mul (Mul
    (Mul (v 0) (v 4)) (v 8)) (v 6)) (v 10)) dd) (Mul (v 7) (v 7)))) (Mul (Mul (Mul (Mul (Mul (Mul (Mul (Sub (Num 0) (Num 1)) (v 7)) (v 11)) (v 0)) (v
    5)) (v 9)) dd) (Mul (v 6) (v 6)))) (Mul (Mul (Mul (Mul (Mul (Mul (Mul (Sub (Num 0) (Num 1)) (v 7)) (v 11)) (v 4)) (v 1)) (v 9)) dd) (Mul (v 5) (v
    5)))) (Mul (Mul (Mul (Mul (Mul (Mul (Mul (Sub (Num 0) (Num 1)) (v 7)) (v 11)) (v 8)) (v 1)) (v 5)) dd) (Mul (v 4) (v 4)))) (Mul (Mul (Mul (Mul
    (Mul (Mul (Mul (Num 3) (v 0)) (v 5)) (v 9)) (v 6)) (v 10)) dd) (Mul (v 7) (v 7)))))

abbrev x2 : Expr
x2 = (Mul (Mul (Sub (Num 0) (Num 1)) dd) (Add (Add (Add (Add (Add (Add (Add (Add (Add (Add (Add (Add (Add (Add (Add (Add (Add (Add (Add (Add (Add
    (Add (Add (Add (Add (Add (Add (Add (Add (Add (Add (Mul (Mul (Mul (Mul (Mul (v 3) (v 0)) (v 5)) (v 2)) (v 6)) (Mul (Mul (v 8) (v 8)) (v 8))) (Mul
    (Mul (Mul (Mul (Mul (v 7) (v 0)) (v 5)) dd) (Mul (v 3) (v 3))) (Mul (Mul (v 8) (v 8)) (v 8)))) (Mul (Mul (Mul (Mul (Mul (v 7) (v 5)) (v 9)) dd)
    (Mul (v 11) (v 11))) (Mul (Mul (v 1) (v 1)) (v 1)))) (Mul (Mul (Mul (Mul (Mul (Mul (Sub (Num 0) (Num 1)) (v 7)) (v 4)) (v 8)) dd) (Mul (v 11) (v
    11))) (Mul (Mul (v 1) (v 1)) (v 1)))) (Mul (Mul (Mul (Mul (Mul (Mul (Sub (Num 0) (Num 1)) (v 7)) (v 1)) (v 5)) dd) (Mul (v 3) (v 3))) (Mul (Mul
    (v 9) (v 9)) (v 9)))) (Mul (Mul (Mul (Mul (Mul (Mul (Sub (Num 0) (Num 1)) (v 11)) (v 4)) (v 8)) (v 6)) (v 10)) (Mul (Mul (v 1) (v 1)) (v 1))))
    (Mul (Mul (Mul (Mul (Mul (Mul (Sub (Num 0) (Num 3)) (v 3)) (v 1)) (v 5)) (v 2)) (v 6)) (Mul (Mul (v 9) (v 9)) (v 9)))) (Mul (Mul (Mul (Mul (Mul
    (Mul (Sub (Num 0) (Num 3)) (v 11)) (v 5)) (v 9)) (v 6)) (v 10)) (Mul (Mul (v 1) (v 1)) (v 1)))) (Mul (Mul (Mul (Mul (Mul (Mul (v 3) (v 0)) (v 4))
    (v 9)) (v 2)) (v 6)) (Mul (v 8) (v 8)))) (Mul (Mul (Mul (Mul (Mul (Mul (v 3) (v 0)) (v 8)) (v 5)) (v 2)) (v 6)) (Mul (v 10) (v 10)))) (Mul (Mul
    (Mul (Mul (Mul (Mul (v 3) (v 4)) (v 8)) (v 1)) (v 2)) (v 6)) (Mul (v 9) (v 9)))) (Mul (Mul (Mul (Mul (Mul (Mul (v 7) (v 0)) (v 4)) (v 9)) dd)
    (Mul (v 3) (v 3))) (Mul (v 8) (v 8)))) (Mul (Mul (Mul (Mul (Mul (Mul (v 7) (v 0)) (v 8)) (v 5)) dd) (Mul (v 3) (v 3))) (Mul (v 10) (v 10)))) (Mul
    (Mul (Mul (Mul (Mul (Mul (v 7) (v 0)) (v 8)) (v 5)) (Mul (v 3) (v 3))) (Mul (v 11) (v 11))) (Mul dd dd))) (Mul (Mul (Mul (Mul (Mul (Mul (v 7) (v
    4)) (v 8)) (v 1)) dd) (Mul (v 11) (v 11))) (Mul (v 2) (v 2)))) (Mul (Mul (Mul (Mul (Mul (Mul (v 7) (v 4)) (v 8)) (v 1)) (Mul (v 3) (v 3))) (Mul
    (v 11) (v 11))) (Mul dd dd))) (Mul (Mul (Mul (Mul (Mul (Mul (v 7) (v 1)) (v 5)) (v 9)) dd) (Mul (v 3) (v 3))) (Mul (v 10) (v 10)))) (Mul (Mul
    (Mul (Mul (Mul (Mul (v 11) (v 4)) (v 8)) (v 1)) (v 6)) (v 10)) (Mul (v 2) (v 2)))) (Mul (Mul (Mul (Mul (Mul (Mul (Mul (Sub (Num 0) (Num 1)) (v
    7)) (v 4)) (v 8)) (v 1)) dd) (Mul (v 3) (v 3))) (Mul (v 9) (v 9)))) (Mul (Mul (Mul (Mul (Mul (Mul (Mul (Sub (Num 0) (Num 1)) (v 7)) (v 1)) (v 5))
    (v 9)) dd) (Mul (v 11) (v 11))) (Mul (v 2) (v 2)))) (Mul (Mul (Mul (Mul (Mul (Mul (Mul (Num 2) (v 3)) (v 0)) (v 8)) (v 5)) (v 2)) (v 6)) (Mul (v
    9) (v 9)))) (Mul (Mul (Mul (Mul (Mul (Mul (Mul (Num 2) (v 3)) (v 1)) (v 5)) (v 9)) (v 2)) (v 6)) (Mul (v 8) (v 8)))) (Mul (Mul (Mul (Mul (Mul
    (Mul (Mul (Num 3) (v 3)) (v 1)) (v 5)) (v 9)) (v 2)) (v 6)) (Mul (v 10) (v 10)))) (Mul (Mul (Mul (Mul (Mul (Mul (Mul (Num 3) (v 11)) (v 1)) (v
    5)) (v 9)) (v 6)) (v 10)) (Mul (v 2) (v 2)))) (Mul (Mul (Mul (Mul (Mul (Mul (Mul (v 3) (v 7)) (v 4)) (v 1)) (v 9)) (v 2)) dd) (Mul (v 11) (v
    11)))) (Mul (Mul (Mul (Mul (Mul (Mul (Mul (v 3) (v 11)) (v 8)) (v 1)) (v 5)) (v 2)) (v 6)) (v 10))) (Mul (Mul (Mul (Mul (Mul (Mul (Mul (v 3) (v
    0)) (v 8)) (v 5)) (v 2)) (v 6)) dd) (Mul (v 11) (v 11)))) (Mul (Mul (Mul (Mul (Mul (Mul (Mul (v 11) (v 4)) (v 8)) (v 1)) (v 6)) (v 10)) dd) (Mul
    (v 3) (v 3)))) (Mul (Mul (Mul (Mul (Mul (Mul (Mul (Mul (Sub (Num 0) (Num 1)) (v 3)) (v 7)) (v 8)) (v 1)) (v 5)) (v 2)) dd) (Mul (v 11) (v 11))))
    (Mul (Mul (Mul (Mul (Mul (Mul (Mul (Mul (Sub (Num 0) (Num 1)) (v 3)) (v 11)) (v 4)) (v 1)) (v 9)) (v 2)) (v 6)) (v 10))) (Mul (Mul (Mul (Mul (Mul
    (Mul (Mul (Mul (Num 3) (v 3)) (v 1)) (v 5)) (v 9)) (v 2)) (v 6)) dd) (Mul (v 11) (v 11)))) (Mul (Mul (Mul (Mul (Mul (Mul (Mul (Mul (Num 3) (v
    11)) (v 1)) (v 5)) (v 9)) (v 6)) (v 10)) dd) (Mul (v 3) (v 3)))))

abbrev x3 : Expr
x3 = (Mul dd (Add (Add (Add (Add (Add (Add (Add (Add (Add (Add (Add (Add (Add (Add (Add (Add (Add (Add (Add (Add (Add (Add (Add (Add (Add (Add (Add
    (Add (Add (Add (Add (Mul (Mul (Mul (Mul (Mul (v 3) (v 0)) (v 5)) (v 2)) (v 6)) (Mul (Mul (v 9) (v 9)) (v 9))) (Mul (Mul (Mul (Mul (Mul (v 3) (v
    1)) (v 5)) (v 2)) (v 6)) (Mul (Mul (v 8) (v 8)) (v 8)))) (Mul (Mul (Mul (Mul (Mul (v 7) (v 1)) (v 5)) dd) (Mul (v 3) (v 3))) (Mul (Mul (v 8) (v
    8)) (v 8)))) (Mul (Mul (Mul (Mul (Mul (Mul (Sub (Num 0) (Num 1)) (v 7)) (v 0)) (v 5)) dd) (Mul (v 3) (v 3))) (Mul (Mul (v 9) (v 9)) (v 9)))) (Mul
    (Mul (Mul (Mul (Mul (Mul (Sub (Num 0) (Num 4)) (v 11)) (v 8)) (v 5)) (v 6)) (v 10)) (Mul (Mul (v 1) (v 1)) (v 1)))) (Mul (Mul (Mul (Mul (Mul (Mul
    (Num 4) (v 3)) (v 4)) (v 1)) (v 2)) (v 6)) (Mul (Mul (v 9) (v 9)) (v 9)))) (Mul (Mul (Mul (Mul (Mul (Mul (v 7) (v 0)) (v 4)) (v 8)) dd) (Mul (v
    11) (v 11))) (Mul (v 2) (v 2)))) (Mul (Mul (Mul (Mul (Mul (Mul (v 7) (v 0)) (v 5)) (v 9)) dd) (Mul (v 3) (v 3))) (Mul (v 8) (v 8)))) (Mul (Mul
    (Mul (Mul (Mul (Mul (v 7) (v 0)) (v 5)) (v 9)) dd) (Mul (v 11) (v 11))) (Mul (v 2) (v 2)))) (Mul (Mul (Mul (Mul (Mul (Mul (v 7) (v 0)) (v 5)) (v
    9)) (Mul (v 3) (v 3))) (Mul (v 11) (v 11))) (Mul dd dd))) (Mul (Mul (Mul (Mul (Mul (Mul (v 7) (v 4)) (v 1)) (v 9)) dd) (Mul (v 11) (v 11))) (Mul
    (v 2) (v 2)))) (Mul (Mul (Mul (Mul (Mul (Mul (v 7) (v 8)) (v 1)) (v 5)) dd) (Mul (v 11) (v 11))) (Mul (v 2) (v 2)))) (Mul (Mul (Mul (Mul (Mul
    (Mul (v 7) (v 8)) (v 1)) (v 5)) (Mul (v 3) (v 3))) (Mul (v 11) (v 11))) (Mul dd dd))) (Mul (Mul (Mul (Mul (Mul (Mul (v 11) (v 0)) (v 4)) (v 8))
    (v 6)) (v 10)) (Mul (v 2) (v 2)))) (Mul (Mul (Mul (Mul (Mul (Mul (v 11) (v 0)) (v 5)) (v 9)) (v 6)) (v 10)) (Mul (v 2) (v 2)))) (Mul (Mul (Mul
    (Mul (Mul (Mul (Mul (Sub (Num 0) (Num 1)) (v 3)) (v 0)) (v 4)) (v 8)) (v 2)) (v 6)) (Mul (v 10) (v 10)))) (Mul (Mul (Mul (Mul (Mul (Mul (Mul (Sub
    (Num 0) (Num 1)) (v 7)) (v 0)) (v 4)) (v 8)) dd) (Mul (v 3) (v 3))) (Mul (v 10) (v 10)))) (Mul (Mul (Mul (Mul (Mul (Mul (Mul (Sub (Num 0) (Num
    1)) (v 7)) (v 4)) (v 1)) (v 9)) dd) (Mul (v 3) (v 3))) (Mul (v 10) (v 10)))) (Mul (Mul (Mul (Mul (Mul (Mul (Mul (Sub (Num 0) (Num 1)) (v 7)) (v
    8)) (v 1)) (v 5)) dd) (Mul (v 3) (v 3))) (Mul (v 9) (v 9)))) (Mul (Mul (Mul (Mul (Mul (Mul (Mul (Sub (Num 0) (Num 1)) (v 11)) (v 4)) (v 1)) (v
    9)) (v 6)) (v 10)) (Mul (v 2) (v 2)))) (Mul (Mul (Mul (Mul (Mul (Mul (Mul (Sub (Num 0) (Num 3)) (v 3)) (v 4)) (v 1)) (v 9)) (v 2)) (v 6)) (Mul (v
    10) (v 10)))) (Mul (Mul (Mul (Mul (Mul (Mul (Mul (Num 3) (v 3)) (v 0)) (v 5)) (v 9)) (v 2)) (v 6)) (Mul (v 8) (v 8)))) (Mul (Mul (Mul (Mul (Mul
    (Mul (Mul (Num 3) (v 3)) (v 8)) (v 1)) (v 5)) (v 2)) (v 6)) (Mul (v 9) (v 9)))) (Mul (Mul (Mul (Mul (Mul (Mul (Mul (Num 3) (v 11)) (v 8)) (v 1))
    (v 5)) (v 6)) (v 10)) (Mul (v 2) (v 2)))) (Mul (Mul (Mul (Mul (Mul (Mul (Mul (v 11) (v 0)) (v 4)) (v 8)) (v 6)) (v 10)) dd) (Mul (v 3) (v 3))))
    (Mul (Mul (Mul (Mul (Mul (Mul (Mul (v 11) (v 0)) (v 5)) (v 9)) (v 6)) (v 10)) dd) (Mul (v 3) (v 3)))) (Mul (Mul (Mul (Mul (Mul (Mul (Mul (Mul
    (Sub (Num 0) (Num 1)) (v 3)) (v 0)) (v 4)) (v 8)) (v 2)) (v 6)) dd) (Mul (v 11) (v 11)))) (Mul (Mul (Mul (Mul (Mul (Mul (Mul (Mul (Sub (Num 0)
    (Num 1)) (v 11)) (v 4)) (v 1)) (v 9)) (v 6)) (v 10)) dd) (Mul (v 3) (v 3)))) (Mul (Mul (Mul (Mul (Mul (Mul (Mul (Mul (Sub (Num 0) (Num 4)) (v 3))
    (v 11)) (v 4)) (v 8)) (v 1)) (v 2)) (v 6)) (v 10))) (Mul (Mul (Mul (Mul (Mul (Mul (Mul (Mul (Sub (Num 0) (Num 4)) (v 3)) (v 11)) (v 1)) (v 5)) (v
    9)) (v 2)) (v 6)) (v 10))) (Mul (Mul (Mul (Mul (Mul (Mul (Mul (Mul (Sub (Num 0) (Num 3)) (v 3)) (v 4)) (v 1)) (v 9)) (v 2)) (v 6)) dd) (Mul (v
    11) (v 11)))) (Mul (Mul (Mul (Mul (Mul (Mul (Mul (Mul (Num 3) (v 11)) (v 8)) (v 1)) (v 5)) (v 6)) (v 10)) dd) (Mul (v 3) (v 3)))))

abbrev x4 : Expr
x4 = (Mul (Mul (v 3) dd) (Add (Add (Add (Add (Add (Add (Add (Add (Add (Add (Add (Add (Add (Add (Add (Add (Mul (Mul (Mul (Mul (v 0) (v 8)) (v 5)) (v
    2)) (Mul (Mul (v 6) (v 6)) (v 6))) (Mul (Mul (Mul (Mul (Mul (Sub (Num 0) (Num 1)) (v 0)) (v 8)) (v 2)) (v 6)) (Mul (Mul (v 5) (v 5)) (v 5))))
    (Mul (Mul (Mul (Mul (Mul (Sub (Num 0) (Num 3)) (v 1)) (v 9)) (v 2)) (v 6)) (Mul (Mul (v 5) (v 5)) (v 5)))) (Mul (Mul (Mul (Mul (Mul (Num 3) (v
    1)) (v 5)) (v 9)) (v 2)) (Mul (Mul (v 6) (v 6)) (v 6)))) (Mul (Mul (Mul (Mul (Mul (v 3) (v 0)) (v 8)) (v 5)) (Mul (Mul (v 7) (v 7)) (v 7))) (Mul
    dd dd))) (Mul (Mul (Mul (Mul (Mul (v 3) (v 1)) (v 5)) (v 9)) (Mul (Mul (v 7) (v 7)) (v 7))) (Mul dd dd))) (Mul (Mul (Mul (Mul (Mul (v 7) (v 0))
    (v 5)) (v 9)) (v 2)) (Mul (v 6) (v 6)))) (Mul (Mul (Mul (Mul (Mul (Mul (Sub (Num 0) (Num 1)) (v 3)) (v 7)) (v 0)) (v 8)) dd) (Mul (Mul (v 5) (v
    5)) (v 5)))) (Mul (Mul (Mul (Mul (Mul (Mul (Sub (Num 0) (Num 1)) (v 3)) (v 7)) (v 1)) (v 9)) dd) (Mul (Mul (v 5) (v 5)) (v 5)))) (Mul (Mul (Mul
    (Mul (Mul (Mul (Sub (Num 0) (Num 1)) (v 7)) (v 8)) (v 1)) (v 5)) (v 2)) (Mul (v 6) (v 6)))) (Mul (Mul (Mul (Mul (Mul (Mul (Num 4) (v 7)) (v 4))
    (v 1)) (v 9)) (v 2)) (Mul (v 6) (v 6)))) (Mul (Mul (Mul (Mul (Mul (Mul (v 3) (v 7)) (v 0)) (v 8)) (v 5)) dd) (Mul (v 6) (v 6)))) (Mul (Mul (Mul
    (Mul (Mul (Mul (v 3) (v 7)) (v 1)) (v 5)) (v 9)) dd) (Mul (v 6) (v 6)))) (Mul (Mul (Mul (Mul (Mul (Mul (v 0) (v 8)) (v 5)) (v 2)) (v 6)) dd) (Mul
    (v 7) (v 7)))) (Mul (Mul (Mul (Mul (Mul (Mul (Mul (Sub (Num 0) (Num 1)) (v 3)) (v 0)) (v 5)) (v 9)) (v 6)) dd) (Mul (v 7) (v 7)))) (Mul (Mul (Mul
    (Mul (Mul (Mul (Mul (Sub (Num 0) (Num 1)) (v 3)) (v 8)) (v 1)) (v 5)) (v 6)) dd) (Mul (v 7) (v 7)))) (Mul (Mul (Mul (Mul (Mul (Mul (Mul (Num 3)
    (v 1)) (v 5)) (v 9)) (v 2)) (v 6)) dd) (Mul (v 7) (v 7)))))

abbrev x5 : Expr
x5 = (Mul (Mul (Mul (Sub (Num 0) (Num 1)) (v 3)) dd) (Add (Add (Add (Add (Add (Add (Add (Add (Add (Add (Add (Add (Add (Add (Add (Add (Add (Add (Add
    (Mul (Mul (Mul (Mul (v 0) (v 4)) (v 8)) (v 2)) (Mul (Mul (v 6) (v 6)) (v 6))) (Mul (Mul (Mul (Mul (v 4) (v 1)) (v 9)) (v 2)) (Mul (Mul (v 6) (v
    6)) (v 6)))) (Mul (Mul (Mul (Mul (Mul (Sub (Num 0) (Num 1)) (v 8)) (v 1)) (v 5)) (v 2)) (Mul (Mul (v 6) (v 6)) (v 6)))) (Mul (Mul (Mul (Mul (Mul
    (Sub (Num 0) (Num 4)) (v 0)) (v 9)) (v 2)) (v 6)) (Mul (Mul (v 5) (v 5)) (v 5)))) (Mul (Mul (Mul (Mul (Mul (Num 3) (v 0)) (v 5)) (v 9)) (v 2))
    (Mul (Mul (v 6) (v 6)) (v 6)))) (Mul (Mul (Mul (Mul (Mul (v 3) (v 0)) (v 4)) (v 8)) (Mul (Mul (v 7) (v 7)) (v 7))) (Mul dd dd))) (Mul (Mul (Mul
    (Mul (Mul (v 3) (v 0)) (v 5)) (v 9)) (Mul (Mul (v 7) (v 7)) (v 7))) (Mul dd dd))) (Mul (Mul (Mul (Mul (Mul (Mul (Sub (Num 0) (Num 1)) (v 3)) (v
    4)) (v 1)) (v 9)) (Mul (Mul (v 7) (v 7)) (v 7))) (Mul dd dd))) (Mul (Mul (Mul (Mul (Mul (Mul (Sub (Num 0) (Num 1)) (v 3)) (v 8)) (v 1)) (v 5))
    (Mul (Mul (v 7) (v 7)) (v 7))) (Mul dd dd))) (Mul (Mul (Mul (Mul (Mul (Mul (Sub (Num 0) (Num 4)) (v 7)) (v 0)) (v 8)) (v 5)) (v 2)) (Mul (v 6) (v
    6)))) (Mul (Mul (Mul (Mul (Mul (Mul (Sub (Num 0) (Num 4)) (v 7)) (v 4)) (v 8)) (v 1)) (v 2)) (Mul (v 6) (v 6)))) (Mul (Mul (Mul (Mul (Mul (Mul
    (Sub (Num 0) (Num 4)) (v 7)) (v 1)) (v 5)) (v 9)) (v 2)) (Mul (v 6) (v 6)))) (Mul (Mul (Mul (Mul (Mul (Mul (v 3) (v 7)) (v 0)) (v 4)) (v 8)) dd)
    (Mul (v 6) (v 6)))) (Mul (Mul (Mul (Mul (Mul (Mul (v 3) (v 7)) (v 0)) (v 5)) (v 9)) dd) (Mul (v 6) (v 6)))) (Mul (Mul (Mul (Mul (Mul (Mul (v 0)
    (v 4)) (v 8)) (v 2)) (v 6)) dd) (Mul (v 7) (v 7)))) (Mul (Mul (Mul (Mul (Mul (Mul (v 4) (v 1)) (v 9)) (v 2)) (v 6)) dd) (Mul (v 7) (v 7)))) (Mul
    (Mul (Mul (Mul (Mul (Mul (Mul (Sub (Num 0) (Num 1)) (v 3)) (v 7)) (v 4)) (v 1)) (v 9)) dd) (Mul (v 6) (v 6)))) (Mul (Mul (Mul (Mul (Mul (Mul (Mul
    (Sub (Num 0) (Num 1)) (v 3)) (v 7)) (v 8)) (v 1)) (v 5)) dd) (Mul (v 6) (v 6)))) (Mul (Mul (Mul (Mul (Mul (Mul (Mul (Sub (Num 0) (Num 1)) (v 8))
    (v 1)) (v 5)) (v 2)) (v 6)) dd) (Mul (v 7) (v 7)))) (Mul (Mul (Mul (Mul (Mul (Mul (Mul (Num 3) (v 0)) (v 5)) (v 9)) (v 2)) (v 6)) dd) (Mul (v 7)
    (v 7)))))

abbrev y0 : Expr
y0 = (Mul (Mul (v 11) dd) (Add (Add (Add (Add (Add (Add (Add (Add (Add (Add (Add (Add (Add (Add (Add (Add (Add (Add (Mul (Mul (Mul (Mul (Mul (Sub
    (Num 0) (Num 1)) (v 4)) (v 1)) (v 9)) (v 10)) (Mul (Mul (v 6) (v 6)) (v 6))) (Mul (Mul (Mul (Mul (Mul (Sub (Num 0) (Num 1)) (v 1)) (v 9)) (v 6))
    (v 10)) (Mul (Mul (v 4) (v 4)) (v 4)))) (Mul (Mul (Mul (Mul (Mul (Sub (Num 0) (Num 3)) (v 8)) (v 1)) (v 5)) (v 10)) (Mul (Mul (v 6) (v 6)) (v
    6)))) (Mul (Mul (Mul (Mul (Mul (Num 3) (v 8)) (v 1)) (v 6)) (v 10)) (Mul (Mul (v 5) (v 5)) (v 5)))) (Mul (Mul (Mul (Mul (Mul (v 7) (v 11)) (v 8))
    (v 1)) dd) (Mul (Mul (v 5) (v 5)) (v 5)))) (Mul (Mul (Mul (Mul (Mul (v 7) (v 11)) (v 1)) (v 9)) dd) (Mul (Mul (v 4) (v 4)) (v 4)))) (Mul (Mul
    (Mul (Mul (Mul (v 11) (v 4)) (v 1)) (v 9)) (Mul (Mul (v 7) (v 7)) (v 7))) (Mul dd dd))) (Mul (Mul (Mul (Mul (Mul (Mul (Sub (Num 0) (Num 1)) (v
    11)) (v 8)) (v 1)) (v 5)) (Mul (Mul (v 7) (v 7)) (v 7))) (Mul dd dd))) (Mul (Mul (Mul (Mul (Mul (Mul (Sub (Num 0) (Num 1)) (v 0)) (v 4)) (v 8))
    (v 6)) (v 10)) (Mul (v 5) (v 5)))) (Mul (Mul (Mul (Mul (Mul (Mul (Sub (Num 0) (Num 1)) (v 0)) (v 5)) (v 9)) (v 6)) (v 10)) (Mul (v 4) (v 4))))
    (Mul (Mul (Mul (Mul (Mul (Mul (Sub (Num 0) (Num 2)) (v 4)) (v 1)) (v 9)) (v 6)) (v 10)) (Mul (v 5) (v 5)))) (Mul (Mul (Mul (Mul (Mul (Mul (Sub
    (Num 0) (Num 2)) (v 8)) (v 1)) (v 5)) (v 6)) (v 10)) (Mul (v 4) (v 4)))) (Mul (Mul (Mul (Mul (Mul (Mul (Num 4) (v 7)) (v 1)) (v 5)) (v 9)) (v
    10)) (Mul (v 6) (v 6)))) (Mul (Mul (Mul (Mul (Mul (Mul (v 7) (v 11)) (v 0)) (v 4)) (v 8)) dd) (Mul (v 5) (v 5)))) (Mul (Mul (Mul (Mul (Mul (Mul
    (v 7) (v 11)) (v 0)) (v 5)) (v 9)) dd) (Mul (v 4) (v 4)))) (Mul (Mul (Mul (Mul (Mul (Mul (v 7) (v 11)) (v 4)) (v 1)) (v 9)) dd) (Mul (v 6) (v
    6)))) (Mul (Mul (Mul (Mul (Mul (Mul (Mul (Sub (Num 0) (Num 1)) (v 7)) (v 11)) (v 8)) (v 1)) (v 5)) dd) (Mul (v 6) (v 6)))) (Mul (Mul (Mul (Mul
    (Mul (Mul (Mul (Sub (Num 0) (Num 1)) (v 4)) (v 1)) (v 9)) (v 6)) (v 10)) dd) (Mul (v 7) (v 7)))) (Mul (Mul (Mul (Mul (Mul (Mul (Mul (Sub (Num 0)
    (Num 3)) (v 8)) (v 1)) (v 5)) (v 6)) (v 10)) dd) (Mul (v 7) (v 7)))))

abbrev y1 : Expr
y1 = (Mul (Mul (v 11) dd) (Add (Add (Add (Add (Add (Add (Add (Add (Add (Add (Add (Add (Add (Add (Add (Add (Add (Mul (Mul (Mul (Mul (v 8) (v 1)) (v
    6)) (v 10)) (Mul (Mul (v 4) (v 4)) (v 4))) (Mul (Mul (Mul (Mul (v 1) (v 9)) (v 6)) (v 10)) (Mul (Mul (v 5) (v 5)) (v 5)))) (Mul (Mul (Mul (Mul
    (Mul (Sub (Num 0) (Num 1)) (v 0)) (v 4)) (v 9)) (v 10)) (Mul (Mul (v 6) (v 6)) (v 6)))) (Mul (Mul (Mul (Mul (Mul (Sub (Num 0) (Num 3)) (v 0)) (v
    8)) (v 5)) (v 10)) (Mul (Mul (v 6) (v 6)) (v 6)))) (Mul (Mul (Mul (Mul (Mul (Num 4) (v 0)) (v 8)) (v 6)) (v 10)) (Mul (Mul (v 5) (v 5)) (v 5))))
    (Mul (Mul (Mul (Mul (Mul (v 7) (v 11)) (v 8)) (v 1)) dd) (Mul (Mul (v 4) (v 4)) (v 4)))) (Mul (Mul (Mul (Mul (Mul (v 7) (v 11)) (v 1)) (v 9)) dd)
    (Mul (Mul (v 5) (v 5)) (v 5)))) (Mul (Mul (Mul (Mul (Mul (v 11) (v 0)) (v 4)) (v 9)) (Mul (Mul (v 7) (v 7)) (v 7))) (Mul dd dd))) (Mul (Mul (Mul
    (Mul (Mul (Mul (Sub (Num 0) (Num 1)) (v 11)) (v 0)) (v 8)) (v 5)) (Mul (Mul (v 7) (v 7)) (v 7))) (Mul dd dd))) (Mul (Mul (Mul (Mul (Mul (Mul (Num
    3) (v 4)) (v 8)) (v 1)) (v 6)) (v 10)) (Mul (v 5) (v 5)))) (Mul (Mul (Mul (Mul (Mul (Mul (Num 3) (v 1)) (v 5)) (v 9)) (v 6)) (v 10)) (Mul (v 4)
    (v 4)))) (Mul (Mul (Mul (Mul (Mul (Mul (Num 4) (v 7)) (v 0)) (v 5)) (v 9)) (v 10)) (Mul (v 6) (v 6)))) (Mul (Mul (Mul (Mul (Mul (Mul (v 7) (v
    11)) (v 0)) (v 4)) (v 9)) dd) (Mul (v 6) (v 6)))) (Mul (Mul (Mul (Mul (Mul (Mul (Mul (Sub (Num 0) (Num 1)) (v 7)) (v 11)) (v 0)) (v 8)) (v 5))
    dd) (Mul (v 6) (v 6)))) (Mul (Mul (Mul (Mul (Mul (Mul (Mul (Sub (Num 0) (Num 1)) (v 7)) (v 11)) (v 4)) (v 8)) (v 1)) dd) (Mul (v 5) (v 5)))) (Mul
    (Mul (Mul (Mul (Mul (Mul (Mul (Sub (Num 0) (Num 1)) (v 7)) (v 11)) (v 1)) (v 5)) (v 9)) dd) (Mul (v 4) (v 4)))) (Mul (Mul (Mul (Mul (Mul (Mul
    (Mul (Sub (Num 0) (Num 1)) (v 0)) (v 4)) (v 9)) (v 6)) (v 10)) dd) (Mul (v 7) (v 7)))) (Mul (Mul (Mul (Mul (Mul (Mul (Mul (Sub (Num 0) (Num 3))
    (v 0)) (v 8)) (v 5)) (v 6)) (v 10)) dd) (Mul (v 7) (v 7)))))

abbrev y2 : Expr
y2 = (Mul (Mul (Sub (Num 0) (Num 1)) dd) (Add (Add (Add (Add (Add (Add (Add (Add (Add (Add (Add (Add (Add (Add (Add (Add (Add (Add (Add (Add (Add
    (Add (Add (Add (Add (Add (Add (Add (Add (Add (Add (Add (Mul (Mul (Mul (Mul (Mul (v 7) (v 8)) (v 5)) dd) (Mul (v 11) (v 11))) (Mul (Mul (v 1) (v
    1)) (v 1))) (Mul (Mul (Mul (Mul (Mul (v 7) (v 1)) (v 5)) dd) (Mul (v 3) (v 3))) (Mul (Mul (v 8) (v 8)) (v 8)))) (Mul (Mul (Mul (Mul (Mul (v 11)
    (v 4)) (v 9)) (v 6)) (v 10)) (Mul (Mul (v 1) (v 1)) (v 1)))) (Mul (Mul (Mul (Mul (Mul (Mul (Sub (Num 0) (Num 1)) (v 3)) (v 1)) (v 5)) (v 2)) (v
    6)) (Mul (Mul (v 8) (v 8)) (v 8)))) (Mul (Mul (Mul (Mul (Mul (Mul (Sub (Num 0) (Num 1)) (v 7)) (v 0)) (v 5)) dd) (Mul (v 3) (v 3))) (Mul (Mul (v
    9) (v 9)) (v 9)))) (Mul (Mul (Mul (Mul (Mul (Mul (Sub (Num 0) (Num 1)) (v 7)) (v 4)) (v 9)) dd) (Mul (v 11) (v 11))) (Mul (Mul (v 1) (v 1)) (v
    1)))) (Mul (Mul (Mul (Mul (Mul (Mul (Num 3) (v 3)) (v 0)) (v 5)) (v 2)) (v 6)) (Mul (Mul (v 9) (v 9)) (v 9)))) (Mul (Mul (Mul (Mul (Mul (Mul (Num
    3) (v 11)) (v 8)) (v 5)) (v 6)) (v 10)) (Mul (Mul (v 1) (v 1)) (v 1)))) (Mul (Mul (Mul (Mul (Mul (Mul (v 7) (v 0)) (v 5)) (v 9)) dd) (Mul (v 3)
    (v 3))) (Mul (v 10) (v 10)))) (Mul (Mul (Mul (Mul (Mul (Mul (v 7) (v 0)) (v 5)) (v 9)) (Mul (v 3) (v 3))) (Mul (v 11) (v 11))) (Mul dd dd))) (Mul
    (Mul (Mul (Mul (Mul (Mul (v 7) (v 4)) (v 1)) (v 9)) dd) (Mul (v 3) (v 3))) (Mul (v 8) (v 8)))) (Mul (Mul (Mul (Mul (Mul (Mul (v 7) (v 4)) (v 1))
    (v 9)) dd) (Mul (v 11) (v 11))) (Mul (v 2) (v 2)))) (Mul (Mul (Mul (Mul (Mul (Mul (v 7) (v 4)) (v 1)) (v 9)) (Mul (v 3) (v 3))) (Mul (v 11) (v
    11))) (Mul dd dd))) (Mul (Mul (Mul (Mul (Mul (Mul (v 7) (v 8)) (v 1)) (v 5)) dd) (Mul (v 3) (v 3))) (Mul (v 10) (v 10)))) (Mul (Mul (Mul (Mul
    (Mul (Mul (Mul (Sub (Num 0) (Num 1)) (v 3)) (v 0)) (v 4)) (v 8)) (v 2)) (v 6)) (Mul (v 9) (v 9)))) (Mul (Mul (Mul (Mul (Mul (Mul (Mul (Sub (Num
    0) (Num 1)) (v 3)) (v 4)) (v 1)) (v 9)) (v 2)) (v 6)) (Mul (v 8) (v 8)))) (Mul (Mul (Mul (Mul (Mul (Mul (Mul (Sub (Num 0) (Num 1)) (v 3)) (v 8))
    (v 1)) (v 5)) (v 2)) (v 6)) (Mul (v 10) (v 10)))) (Mul (Mul (Mul (Mul (Mul (Mul (Mul (Sub (Num 0) (Num 1)) (v 7)) (v 0)) (v 4)) (v 8)) dd) (Mul
    (v 3) (v 3))) (Mul (v 9) (v 9)))) (Mul (Mul (Mul (Mul (Mul (Mul (Mul (Sub (Num 0) (Num 1)) (v 7)) (v 8)) (v 1)) (v 5)) dd) (Mul (v 11) (v 11)))
    (Mul (v 2) (v 2)))) (Mul (Mul (Mul (Mul (Mul (Mul (Mul (Sub (Num 0) (Num 1)) (v 11)) (v 4)) (v 1)) (v 9)) (v 6)) (v 10)) (Mul (v 2) (v 2)))) (Mul
    (Mul (Mul (Mul (Mul (Mul (Mul (Sub (Num 0) (Num 3)) (v 3)) (v 0)) (v 5)) (v 9)) (v 2)) (v 6)) (Mul (v 10) (v 10)))) (Mul (Mul (Mul (Mul (Mul (Mul
    (Mul (Sub (Num 0) (Num 3)) (v 11)) (v 8)) (v 1)) (v 5)) (v 6)) (v 10)) (Mul (v 2) (v 2)))) (Mul (Mul (Mul (Mul (Mul (Mul (Mul (Sub (Num 0) (Num
    2)) (v 3)) (v 0)) (v 5)) (v 9)) (v 2)) (v 6)) (Mul (v 8) (v 8)))) (Mul (Mul (Mul (Mul (Mul (Mul (Mul (Sub (Num 0) (Num 2)) (v 3)) (v 8)) (v 1))
    (v 5)) (v 2)) (v 6)) (Mul (v 9) (v 9)))) (Mul (Mul (Mul (Mul (Mul (Mul (Mul (v 3) (v 7)) (v 4)) (v 8)) (v 1)) (v 2)) dd) (Mul (v 11) (v 11))))
    (Mul (Mul (Mul (Mul (Mul (Mul (Mul (v 3) (v 11)) (v 4)) (v 8)) (v 1)) (v 2)) (v 6)) (v 10))) (Mul (Mul (Mul (Mul (Mul (Mul (Mul (Mul (Sub (Num 0)
    (Num 1)) (v 3)) (v 7)) (v 1)) (v 5)) (v 9)) (v 2)) dd) (Mul (v 11) (v 11)))) (Mul (Mul (Mul (Mul (Mul (Mul (Mul (Mul (Sub (Num 0) (Num 1)) (v 3))
    (v 8)) (v 1)) (v 5)) (v 2)) (v 6)) dd) (Mul (v 11) (v 11)))) (Mul (Mul (Mul (Mul (Mul (Mul (Mul (Mul (Sub (Num 0) (Num 1)) (v 11)) (v 4)) (v 1))
    (v 9)) (v 6)) (v 10)) dd) (Mul (v 3) (v 3)))) (Mul (Mul (Mul (Mul (Mul (Mul (Mul (Mul (Sub (Num 0) (Num 4)) (v 3)) (v 11)) (v 0)) (v 8)) (v 5))
    (v 2)) (v 6)) (v 10))) (Mul (Mul (Mul (Mul (Mul (Mul (Mul (Mul (Sub (Num 0) (Num 3)) (v 3)) (v 0)) (v 5)) (v 9)) (v 2)) (v 6)) dd) (Mul (v 11) (v
    11)))) (Mul (Mul (Mul (Mul (Mul (Mul (Mul (Mul (Sub (Num 0) (Num 3)) (v 11)) (v 8)) (v 1)) (v 5)) (v 6)) (v 10)) dd) (Mul (v 3) (v 3)))) (Mul
    (Mul (Mul (Mul (Mul (Mul (Mul (Mul (Num 3) (v 3)) (v 11)) (v 1)) (v 5)) (v 9)) (v 2)) (v 6)) (v 10))))

abbrev y3 : Expr
y3 = (Mul dd (Add (Add (Add (Add (Add (Add (Add (Add (Add (Add (Add (Add (Add (Add (Add (Add (Add (Add (Add (Add (Add (Add (Add (Add (Add (Add (Add
    (Add (Add (Add (Add (Mul (Mul (Mul (Mul (Mul (v 7) (v 0)) (v 5)) dd) (Mul (v 3) (v 3))) (Mul (Mul (v 8) (v 8)) (v 8))) (Mul (Mul (Mul (Mul (Mul
    (Mul (Sub (Num 0) (Num 1)) (v 3)) (v 0)) (v 5)) (v 2)) (v 6)) (Mul (Mul (v 8) (v 8)) (v 8)))) (Mul (Mul (Mul (Mul (Mul (Mul (Sub (Num 0) (Num 1))
    (v 3)) (v 1)) (v 5)) (v 2)) (v 6)) (Mul (Mul (v 9) (v 9)) (v 9)))) (Mul (Mul (Mul (Mul (Mul (Mul (Sub (Num 0) (Num 1)) (v 7)) (v 1)) (v 5)) dd)
    (Mul (v 3) (v 3))) (Mul (Mul (v 9) (v 9)) (v 9)))) (Mul (Mul (Mul (Mul (Mul (Mul (Sub (Num 0) (Num 4)) (v 3)) (v 0)) (v 4)) (v 2)) (v 6)) (Mul
    (Mul (v 9) (v 9)) (v 9)))) (Mul (Mul (Mul (Mul (Mul (Mul (Num 4) (v 11)) (v 5)) (v 9)) (v 6)) (v 10)) (Mul (Mul (v 1) (v 1)) (v 1)))) (Mul (Mul
    (Mul (Mul (Mul (Mul (v 3) (v 4)) (v 8)) (v 1)) (v 2)) (v 6)) (Mul (v 10) (v 10)))) (Mul (Mul (Mul (Mul (Mul (Mul (v 7) (v 0)) (v 4)) (v 9)) dd)
    (Mul (v 11) (v 11))) (Mul (v 2) (v 2)))) (Mul (Mul (Mul (Mul (Mul (Mul (v 7) (v 0)) (v 8)) (v 5)) dd) (Mul (v 11) (v 11))) (Mul (v 2) (v 2))))
    (Mul (Mul (Mul (Mul (Mul (Mul (v 7) (v 0)) (v 8)) (v 5)) (Mul (v 3) (v 3))) (Mul (v 11) (v 11))) (Mul dd dd))) (Mul (Mul (Mul (Mul (Mul (Mul (v
    7) (v 4)) (v 8)) (v 1)) dd) (Mul (v 11) (v 11))) (Mul (v 2) (v 2)))) (Mul (Mul (Mul (Mul (Mul (Mul (v 7) (v 1)) (v 5)) (v 9)) dd) (Mul (v 3) (v
    3))) (Mul (v 8) (v 8)))) (Mul (Mul (Mul (Mul (Mul (Mul (v 7) (v 1)) (v 5)) (v 9)) dd) (Mul (v 11) (v 11))) (Mul (v 2) (v 2)))) (Mul (Mul (Mul
    (Mul (Mul (Mul (v 7) (v 1)) (v 5)) (v 9)) (Mul (v 3) (v 3))) (Mul (v 11) (v 11))) (Mul dd dd))) (Mul (Mul (Mul (Mul (Mul (Mul (v 11) (v 4)) (v
    8)) (v 1)) (v 6)) (v 10)) (Mul (v 2) (v 2)))) (Mul (Mul (Mul (Mul (Mul (Mul (Mul (Sub (Num 0) (Num 1)) (v 7)) (v 0)) (v 4)) (v 9)) dd) (Mul (v 3)
    (v 3))) (Mul (v 10) (v 10)))) (Mul (Mul (Mul (Mul (Mul (Mul (Mul (Sub (Num 0) (Num 1)) (v 7)) (v 0)) (v 8)) (v 5)) dd) (Mul (v 3) (v 3))) (Mul (v
    9) (v 9)))) (Mul (Mul (Mul (Mul (Mul (Mul (Mul (Sub (Num 0) (Num 1)) (v 7)) (v 4)) (v 8)) (v 1)) dd) (Mul (v 3) (v 3))) (Mul (v 10) (v 10))))
    (Mul (Mul (Mul (Mul (Mul (Mul (Mul (Sub (Num 0) (Num 1)) (v 11)) (v 0)) (v 4)) (v 9)) (v 6)) (v 10)) (Mul (v 2) (v 2)))) (Mul (Mul (Mul (Mul (Mul
    (Mul (Mul (Sub (Num 0) (Num 1)) (v 11)) (v 0)) (v 8)) (v 5)) (v 6)) (v 10)) (Mul (v 2) (v 2)))) (Mul (Mul (Mul (Mul (Mul (Mul (Mul (Sub (Num 0)
    (Num 3)) (v 3)) (v 0)) (v 8)) (v 5)) (v 2)) (v 6)) (Mul (v 9) (v 9)))) (Mul (Mul (Mul (Mul (Mul (Mul (Mul (Sub (Num 0) (Num 3)) (v 3)) (v 1)) (v
    5)) (v 9)) (v 2)) (v 6)) (Mul (v 8) (v 8)))) (Mul (Mul (Mul (Mul (Mul (Mul (Mul (Sub (Num 0) (Num 3)) (v 11)) (v 1)) (v 5)) (v 9)) (v 6)) (v 10))
    (Mul (v 2) (v 2)))) (Mul (Mul (Mul (Mul (Mul (Mul (Mul (Num 3) (v 3)) (v 0)) (v 4)) (v 9)) (v 2)) (v 6)) (Mul (v 10) (v 10)))) (Mul (Mul (Mul
    (Mul (Mul (Mul (Mul (v 3) (v 4)) (v 8)) (v 1)) (v 2)) (v 6)) dd) (Mul (v 11) (v 11)))) (Mul (Mul (Mul (Mul (Mul (Mul (Mul (v 11) (v 4)) (v 8)) (v
    1)) (v 6)) (v 10)) dd) (Mul (v 3) (v 3)))) (Mul (Mul (Mul (Mul (Mul (Mul (Mul (Mul (Sub (Num 0) (Num 1)) (v 11)) (v 0)) (v 4)) (v 9)) (v 6)) (v
    10)) dd) (Mul (v 3) (v 3)))) (Mul (Mul (Mul (Mul (Mul (Mul (Mul (Mul (Sub (Num 0) (Num 1)) (v 11)) (v 0)) (v 8)) (v 5)) (v 6)) (v 10)) dd) (Mul
    (v 3) (v 3)))) (Mul (Mul (Mul (Mul (Mul (Mul (Mul (Mul (Sub (Num 0) (Num 3)) (v 11)) (v 1)) (v 5)) (v 9)) (v 6)) (v 10)) dd) (Mul (v 3) (v 3))))
    (Mul (Mul (Mul (Mul (Mul (Mul (Mul (Mul (Num 3) (v 3)) (v 0)) (v 4)) (v 9)) (v 2)) (v 6)) dd) (Mul (v 11) (v 11)))) (Mul (Mul (Mul (Mul (Mul (Mul
    (Mul (Mul (Num 4) (v 3)) (v 11)) (v 0)) (v 4)) (v 8)) (v 2)) (v 6)) (v 10))) (Mul (Mul (Mul (Mul (Mul (Mul (Mul (Mul (Num 4) (v 3)) (v 11)) (v
    8)) (v 1)) (v 5)) (v 2)) (v 6)) (v 10))))

abbrev y4 : Expr
y4 = (Mul (Mul (v 3) dd) (Add (Add (Add (Add (Add (Add (Add (Add (Add (Add (Add (Add (Add (Add (Add (Add (Mul (Mul (Mul (Mul (v 8) (v 1)) (v 2)) (v
    6)) (Mul (Mul (v 5) (v 5)) (v 5))) (Mul (Mul (Mul (Mul (Mul (Sub (Num 0) (Num 1)) (v 8)) (v 1)) (v 5)) (v 2)) (Mul (Mul (v 6) (v 6)) (v 6))))
    (Mul (Mul (Mul (Mul (Mul (Sub (Num 0) (Num 3)) (v 0)) (v 5)) (v 9)) (v 2)) (Mul (Mul (v 6) (v 6)) (v 6)))) (Mul (Mul (Mul (Mul (Mul (Num 3) (v
    0)) (v 9)) (v 2)) (v 6)) (Mul (Mul (v 5) (v 5)) (v 5)))) (Mul (Mul (Mul (Mul (Mul (v 3) (v 0)) (v 5)) (v 9)) (Mul (Mul (v 7) (v 7)) (v 7))) (Mul
    dd dd))) (Mul (Mul (Mul (Mul (Mul (v 3) (v 8)) (v 1)) (v 5)) (Mul (Mul (v 7) (v 7)) (v 7))) (Mul dd dd))) (Mul (Mul (Mul (Mul (Mul (v 7) (v 0))
    (v 8)) (v 5)) (v 2)) (Mul (v 6) (v 6)))) (Mul (Mul (Mul (Mul (Mul (Mul (Sub (Num 0) (Num 1)) (v 3)) (v 7)) (v 0)) (v 9)) dd) (Mul (Mul (v 5) (v
    5)) (v 5)))) (Mul (Mul (Mul (Mul (Mul (Mul (Sub (Num 0) (Num 1)) (v 3)) (v 7)) (v 8)) (v 1)) dd) (Mul (Mul (v 5) (v 5)) (v 5)))) (Mul (Mul (Mul
    (Mul (Mul (Mul (Sub (Num 0) (Num 1)) (v 7)) (v 1)) (v 5)) (v 9)) (v 2)) (Mul (v 6) (v 6)))) (Mul (Mul (Mul (Mul (Mul (Mul (Sub (Num 0) (Num 4))
    (v 7)) (v 0)) (v 4)) (v 9)) (v 2)) (Mul (v 6) (v 6)))) (Mul (Mul (Mul (Mul (Mul (Mul (v 3) (v 7)) (v 0)) (v 5)) (v 9)) dd) (Mul (v 6) (v 6))))
    (Mul (Mul (Mul (Mul (Mul (Mul (v 3) (v 7)) (v 8)) (v 1)) (v 5)) dd) (Mul (v 6) (v 6)))) (Mul (Mul (Mul (Mul (Mul (Mul (Mul (Sub (Num 0) (Num 1))
    (v 3)) (v 0)) (v 8)) (v 5)) (v 6)) dd) (Mul (v 7) (v 7)))) (Mul (Mul (Mul (Mul (Mul (Mul (Mul (Sub (Num 0) (Num 1)) (v 3)) (v 1)) (v 5)) (v 9))
    (v 6)) dd) (Mul (v 7) (v 7)))) (Mul (Mul (Mul (Mul (Mul (Mul (Mul (Sub (Num 0) (Num 1)) (v 8)) (v 1)) (v 5)) (v 2)) (v 6)) dd) (Mul (v 7) (v
    7)))) (Mul (Mul (Mul (Mul (Mul (Mul (Mul (Sub (Num 0) (Num 3)) (v 0)) (v 5)) (v 9)) (v 2)) (v 6)) dd) (Mul (v 7) (v 7)))))

abbrev y5 : Expr
y5 = (Mul (Mul (v 3) dd) (Add (Add (Add (Add (Add (Add (Add (Add (Add (Add (Add (Add (Add (Add (Add (Add (Add (Add (Add (Mul (Mul (Mul (Mul (v 0) (v
    4)) (v 9)) (v 2)) (Mul (Mul (v 6) (v 6)) (v 6))) (Mul (Mul (Mul (Mul (v 4) (v 8)) (v 1)) (v 2)) (Mul (Mul (v 6) (v 6)) (v 6)))) (Mul (Mul (Mul
    (Mul (Mul (Sub (Num 0) (Num 1)) (v 0)) (v 8)) (v 5)) (v 2)) (Mul (Mul (v 6) (v 6)) (v 6)))) (Mul (Mul (Mul (Mul (Mul (Sub (Num 0) (Num 4)) (v 1))
    (v 9)) (v 2)) (v 6)) (Mul (Mul (v 5) (v 5)) (v 5)))) (Mul (Mul (Mul (Mul (Mul (Num 3) (v 1)) (v 5)) (v 9)) (v 2)) (Mul (Mul (v 6) (v 6)) (v 6))))
    (Mul (Mul (Mul (Mul (Mul (v 3) (v 0)) (v 4)) (v 9)) (Mul (Mul (v 7) (v 7)) (v 7))) (Mul dd dd))) (Mul (Mul (Mul (Mul (Mul (v 3) (v 0)) (v 8)) (v
    5)) (Mul (Mul (v 7) (v 7)) (v 7))) (Mul dd dd))) (Mul (Mul (Mul (Mul (Mul (Mul (Sub (Num 0) (Num 1)) (v 3)) (v 4)) (v 8)) (v 1)) (Mul (Mul (v 7)
    (v 7)) (v 7))) (Mul dd dd))) (Mul (Mul (Mul (Mul (Mul (Mul (Sub (Num 0) (Num 1)) (v 3)) (v 1)) (v 5)) (v 9)) (Mul (Mul (v 7) (v 7)) (v 7))) (Mul
    dd dd))) (Mul (Mul (Mul (Mul (Mul (Mul (Sub (Num 0) (Num 4)) (v 7)) (v 0)) (v 4)) (v 8)) (v 2)) (Mul (v 6) (v 6)))) (Mul (Mul (Mul (Mul (Mul (Mul
    (Sub (Num 0) (Num 4)) (v 7)) (v 0)) (v 5)) (v 9)) (v 2)) (Mul (v 6) (v 6)))) (Mul (Mul (Mul (Mul (Mul (Mul (Sub (Num 0) (Num 4)) (v 7)) (v 8)) (v
    1)) (v 5)) (v 2)) (Mul (v 6) (v 6)))) (Mul (Mul (Mul (Mul (Mul (Mul (v 3) (v 7)) (v 0)) (v 4)) (v 9)) dd) (Mul (v 6) (v 6)))) (Mul (Mul (Mul (Mul
    (Mul (Mul (v 3) (v 7)) (v 0)) (v 8)) (v 5)) dd) (Mul (v 6) (v 6)))) (Mul (Mul (Mul (Mul (Mul (Mul (v 0) (v 4)) (v 9)) (v 2)) (v 6)) dd) (Mul (v
    7) (v 7)))) (Mul (Mul (Mul (Mul (Mul (Mul (v 4) (v 8)) (v 1)) (v 2)) (v 6)) dd) (Mul (v 7) (v 7)))) (Mul (Mul (Mul (Mul (Mul (Mul (Mul (Sub (Num
    0) (Num 1)) (v 3)) (v 7)) (v 4)) (v 8)) (v 1)) dd) (Mul (v 6) (v 6)))) (Mul (Mul (Mul (Mul (Mul (Mul (Mul (Sub (Num 0) (Num 1)) (v 3)) (v 7)) (v
    1)) (v 5)) (v 9)) dd) (Mul (v 6) (v 6)))) (Mul (Mul (Mul (Mul (Mul (Mul (Mul (Sub (Num 0) (Num 1)) (v 0)) (v 8)) (v 5)) (v 2)) (v 6)) dd) (Mul (v
    7) (v 7)))) (Mul (Mul (Mul (Mul (Mul (Mul (Mul (Num 3) (v 1)) (v 5)) (v 9)) (v 2)) (v 6)) dd) (Mul (v 7) (v 7)))))

abbrev combined : Expr → Expr → Expr → Expr → Expr → Expr → Expr
combined a b c d e f =
    Add (Mul a (curve one)) (Add (Mul b (cross one)) (Add (Mul c (curve two)) (Add (Mul d (cross two))
    (Add (Mul e (curve three)) (Mul f (cross three))))))

abbrev x_outcome : Expr
x_outcome = Add (Mul (E one last) (G first three)) (Mul (Num 64) (combined x0 x1 x2 x3 x4 x5))

abbrev y_outcome : Expr
y_outcome = Add (Mul (H one last) (F first three)) (Mul (Num 64) (combined y0 y1 y2 y3 y4 y5))

x_identity : (e : List ℕ) → meaning e (Mul (E first three) (G one last)) ≡ meaning e x_outcome
x_identity e = ring e (Mul (E first three) (G one last)) x_outcome refl

y_identity : (e : List ℕ) → meaning e (Mul (H first three) (F one last)) ≡ meaning e y_outcome
y_identity e = ring e (Mul (H first three) (F one last)) y_outcome refl

-- x and z of both sums, from e, f, g of the one and i, j, k of the other
regroup_left : (e f j k : ℕ) → times (times e f) (times j k) ≡ times (times e k) (times f j)
regroup_left e f j k =
    ring (e ∷ f ∷ j ∷ k ∷ []) (Mul (Mul (v 0) (v 1)) (Mul (v 2) (v 3))) (Mul (Mul (v 0) (v 3)) (Mul (v 1) (v 2))) refl

regroup_right : (i g f j : ℕ) → times (times i g) (times f j) ≡ times (times i j) (times f g)
regroup_right i g f j =
    ring (i ∷ g ∷ f ∷ j ∷ []) (Mul (Mul (v 0) (v 1)) (Mul (v 2) (v 3))) (Mul (Mul (v 0) (v 3)) (Mul (v 2) (v 1))) refl

same_x : (e f g i j k : ℕ) → times e k ≡ times i g → times (times e f) (times j k) ≡ times (times i j) (times f g)
same_x e f g i j k h = regroup_left e f j k ∙ ap (λ n. times n (times f j)) h ∙ regroup_right i g f j

same_y : (g h f k l j : ℕ) → times h j ≡ times l f → times (times g h) (times j k) ≡ times (times k l) (times f g)
same_y g h f k l j e =
    ring (g ∷ h ∷ j ∷ k ∷ []) (Mul (Mul (v 0) (v 1)) (Mul (v 2) (v 3))) (Mul (Mul (v 1) (v 2)) (Mul (v 0) (v 3))) refl
    ∙ ap (λ n. times n (times g k)) e
    ∙ ring (l ∷ f ∷ g ∷ k ∷ []) (Mul (Mul (v 0) (v 1)) (Mul (v 2) (v 3))) (Mul (Mul (v 3) (v 0)) (Mul (v 1) (v 2))) refl

none_of : (a b c : ℕ) → b ≡ 0 → a % p ≡ a → plus a (times c b) ≡ a
none_of a b c h w = plus_none a (times c b) (times_none c b h) ∙ w

pub added_is_associative : (a b c : Extended) → OnCurve a → OnCurve b → OnCurve c → same_point (added (added a b) c) (added a (added b c)) ≡ true
unfolding added
added_is_associative a b c ha hb hc =
    let e : List ℕ = a.x ∷ a.y ∷ a.z ∷ a.t ∷ b.x ∷ b.y ∷ b.z ∷ b.t ∷ c.x ∷ c.y ∷ c.z ∷ c.t ∷ [] in
    let m = meaning e in
    let none : (q0 q1 q2 q3 q4 q5 : Expr) → m (combined q0 q1 q2 q3 q4 q5) ≡ 0 = λ q0 q1 q2 q3 q4 q5.
    both_none _ _ (times_none (m q0) _ (minus_same _ _ ha.curve)) (both_none _ _ (times_none (m q1) _ (minus_same _ _ ha.product))
    (both_none _ _ (times_none (m q2) _ (minus_same _ _ hb.curve)) (both_none _ _ (times_none (m q3) _ (minus_same _ _ hb.product))
    (both_none _ _ (times_none (m q4) _ (minus_same _ _ hc.curve)) (times_none (m q5) _ (minus_same _ _ hc.product)))))) in
    let xs : times (added (added a b) c).x (added a (added b c)).z ≡ times (added a (added b c)).x (added (added a b) c).z =
    same_x (m (E first three)) (m (F first three)) (m (G first three)) (m (E one last)) (m (F one last)) (m (G one last))
    (x_identity e ∙ none_of _ _ 64 (none x0 x1 x2 x3 x4 x5) (times_whole _ _)) in
    let ys : times (added (added a b) c).y (added a (added b c)).z ≡ times (added a (added b c)).y (added (added a b) c).z =
    same_y (m (G first three)) (m (H first three)) (m (F first three)) (m (G one last)) (m (H one last)) (m (F one last))
    (y_identity e ∙ none_of _ _ 64 (none y0 y1 y2 y3 y4 y5) (times_whole _ _)) in
    both_true (eq-eqb _ _ xs) (eq-eqb _ _ ys)
