-- The sum of two points of the curve is on it.
use Rattle.std.proofs.Common.{◌≡◌, ℕ, ◌+◌, ◌-◌, ◌*◌, ◌%◌, List, [], ◌∷◌, refl, ap, ap₂, ◌∙◌, arith}
use Rattle.std.proofs.Math.Nat.{mod-mod}
use Rattle.field25519.specs.Modulo.{p, plus, minus, times}
use Rattle.edwards_model.specs.Curve.{d}
use Rattle.edwards_model.specs.Extended.{Extended, added}
use Rattle.edwards_model.proofs.Homogeneous.{OnCurve}
use Rattle.edwards_model.proofs.Ring.{Expr, Var, Num, Add, Sub, Mul, meaning, ring}

abbrev x1 : Expr
x1 = Var 0

abbrev y1 : Expr
y1 = Var 1

abbrev z1 : Expr
z1 = Var 2

abbrev t1 : Expr
t1 = Var 3

abbrev x2 : Expr
x2 = Var 4

abbrev y2 : Expr
y2 = Var 5

abbrev z2 : Expr
z2 = Var 6

abbrev t2 : Expr
t2 = Var 7

abbrev dd : Expr
dd = Num d

abbrev A : Expr
A = Mul (Sub y1 x1) (Sub y2 x2)

abbrev B : Expr
B = Mul (Add y1 x1) (Add y2 x2)

abbrev C : Expr
C = Mul (Mul t1 (Num (2 * d))) t2

abbrev D : Expr
D = Mul (Mul (Num 2) z1) z2

abbrev E : Expr
E = Sub B A

abbrev F : Expr
F = Sub D C

abbrev G : Expr
G = Add D C

abbrev H : Expr
H = Add B A

abbrev left : Expr → Expr → Expr
left x y = Sub (Mul y y) (Mul x x)

abbrev right : Expr → Expr → Expr
right z t = Add (Mul z z) (Mul dd (Mul t t))

abbrev q1 : Expr
q1 = (Mul (Sub (Num 0) (Num 16)) (Add (Add (Add (Add (Add (Add (Add (Add (Add (Add (Add (Add (Add (Add (Add (Add (Add (Add (Mul (Mul dd (Mul y1 y1))
    (Mul (Mul (Mul z2 z2) z2) z2)) (Mul (Mul (Mul (Mul (Mul t2 t2) t2) t2) (Mul y1 y1)) (Mul (Mul dd dd) dd))) (Mul (Mul (Mul x2 x2) (Mul z1 z1))
    (Mul z2 z2))) (Mul (Mul (Mul (Sub (Num 0) (Num 1)) dd) (Mul (Mul (Mul x2 x2) x2) x2)) (Mul y1 y1))) (Mul (Mul (Mul (Sub (Num 0) (Num 1)) (Mul y2
    y2)) (Mul z1 z1)) (Mul z2 z2))) (Mul (Mul (Mul (Num 7) dd) (Mul y1 y1)) (Mul (Mul (Mul y2 y2) y2) y2))) (Mul (Mul (Mul dd (Mul x2 x2)) (Mul y2
    y2)) (Mul z1 z1))) (Mul (Mul (Mul (Mul t1 t1) (Mul t2 t2)) (Mul x2 x2)) (Mul dd dd))) (Mul (Mul (Mul (Mul t1 t1) (Mul x2 x2)) (Mul y2 y2)) (Mul
    dd dd))) (Mul (Mul (Mul (Mul (Sub (Num 0) (Num 1)) dd) (Mul x1 x1)) (Mul x2 x2)) (Mul y2 y2))) (Mul (Mul (Mul (Mul (Sub (Num 0) (Num 1)) (Mul t1
    t1)) (Mul t2 t2)) (Mul y2 y2)) (Mul dd dd))) (Mul (Mul (Mul (Mul (Sub (Num 0) (Num 8)) dd) (Mul y1 y1)) (Mul y2 y2)) (Mul z2 z2))) (Mul (Mul (Mul
    (Mul (Sub (Num 0) (Num 8)) (Mul t2 t2)) (Mul y1 y1)) (Mul y2 y2)) (Mul dd dd))) (Mul (Mul (Mul (Mul (Sub (Num 0) (Num 5)) dd) (Mul x2 x2)) (Mul
    y1 y1)) (Mul y2 y2))) (Mul (Mul (Mul (Mul (Num 2) (Mul t2 t2)) (Mul y1 y1)) (Mul z2 z2)) (Mul dd dd))) (Mul (Mul (Mul (Mul (Mul (Sub (Num 0) (Num
    2)) x1) x2) y1) dd) (Mul (Mul y2 y2) y2))) (Mul (Mul (Mul (Mul (Mul (Sub (Num 0) (Num 2)) x1) y1) y2) dd) (Mul (Mul x2 x2) x2))) (Mul (Mul (Mul
    (Mul (Mul (Mul (Num 2) t1) t2) z1) z2) dd) (Mul x2 x2))) (Mul (Mul (Mul (Mul (Mul (Mul (Num 2) t1) t2) z1) z2) dd) (Mul y2 y2))))

abbrev q2 : Expr
q2 = (Mul (Num 16) (Add (Add (Add (Add (Add (Add (Add (Add (Add (Add (Add (Add (Add (Add (Add (Add (Add (Add (Add (Add (Add (Add (Mul (Mul (Mul (Mul
    z1 z1) z1) z1) (Mul z2 z2)) (Mul (Mul dd (Mul x2 x2)) (Mul (Mul (Mul y1 y1) y1) y1))) (Mul (Mul (Mul (Mul (Mul t1 t1) t1) t1) (Mul t2 t2)) (Mul
    (Mul dd dd) dd))) (Mul (Mul (Mul (Sub (Num 0) (Num 1)) dd) (Mul (Mul (Mul y1 y1) y1) y1)) (Mul z2 z2))) (Mul (Mul (Mul (Sub (Num 0) (Num 1)) (Mul
    t2 t2)) (Mul (Mul (Mul y1 y1) y1) y1)) (Mul dd dd))) (Mul (Mul (Mul (Num 7) dd) (Mul (Mul (Mul y1 y1) y1) y1)) (Mul y2 y2))) (Mul (Mul (Mul dd
    (Mul t1 t1)) (Mul z1 z1)) (Mul z2 z2))) (Mul (Mul (Mul dd (Mul y1 y1)) (Mul z1 z1)) (Mul z2 z2))) (Mul (Mul (Mul (Mul t1 t1) (Mul t2 t2)) (Mul y1
    y1)) (Mul (Mul dd dd) dd))) (Mul (Mul (Mul (Mul t1 t1) (Mul t2 t2)) (Mul z1 z1)) (Mul dd dd))) (Mul (Mul (Mul (Mul t1 t1) (Mul y1 y1)) (Mul z2
    z2)) (Mul dd dd))) (Mul (Mul (Mul (Mul t2 t2) (Mul y1 y1)) (Mul z1 z1)) (Mul dd dd))) (Mul (Mul (Mul (Mul (Sub (Num 0) (Num 1)) dd) (Mul x2 x2))
    (Mul y1 y1)) (Mul z1 z1))) (Mul (Mul (Mul (Mul (Sub (Num 0) (Num 1)) (Mul t1 t1)) (Mul x2 x2)) (Mul y1 y1)) (Mul dd dd))) (Mul (Mul (Mul (Mul
    (Sub (Num 0) (Num 8)) dd) (Mul t1 t1)) (Mul y2 y2)) (Mul z1 z1))) (Mul (Mul (Mul (Mul (Sub (Num 0) (Num 7)) dd) (Mul y1 y1)) (Mul y2 y2)) (Mul z1
    z1))) (Mul (Mul (Mul (Mul (Sub (Num 0) (Num 7)) (Mul t1 t1)) (Mul y1 y1)) (Mul y2 y2)) (Mul dd dd))) (Mul (Mul (Mul (Mul (Mul (Num 2) t1) t2) z2)
    dd) (Mul (Mul z1 z1) z1))) (Mul (Mul (Mul (Mul (Mul (Num 2) t2) z1) z2) (Mul (Mul t1 t1) t1)) (Mul dd dd))) (Mul (Mul (Mul (Mul (Mul (Num 4) x1)
    x2) y2) dd) (Mul (Mul y1 y1) y1))) (Mul (Mul (Mul (Mul (Mul (Mul (Sub (Num 0) (Num 4)) t1) t2) z1) z2) dd) (Mul y1 y1))) (Mul (Mul (Mul (Mul (Mul
    (Mul (Sub (Num 0) (Num 2)) x1) x2) y1) y2) dd) (Mul z1 z1))) (Mul (Mul (Mul (Mul (Mul (Mul (Sub (Num 0) (Num 2)) x1) x2) y1) y2) (Mul t1 t1))
    (Mul dd dd))))

abbrev q3 : Expr
q3 = (Mul (Mul (Sub (Num 0) (Num 16)) dd) (Add (Add (Add (Add (Add (Add (Add (Add (Add (Add (Add (Add (Add (Add (Add (Add (Add (Add (Add (Add (Add
    (Mul (Mul t1 z1) (Mul (Mul (Mul z2 z2) z2) z2)) (Mul (Mul x1 y1) (Mul (Mul (Mul z2 z2) z2) z2))) (Mul (Mul (Mul (Sub (Num 0) (Num 4)) x2) (Mul
    (Mul y2 y2) y2)) (Mul z1 z1))) (Mul (Mul (Mul (Num 8) t1) z1) (Mul (Mul (Mul y2 y2) y2) y2))) (Mul (Mul (Mul (Num 8) x1) y1) (Mul (Mul (Mul y2
    y2) y2) y2))) (Mul (Mul (Mul (Num 8) x2) (Mul y1 y1)) (Mul (Mul y2 y2) y2))) (Mul (Mul (Mul t1 z1) (Mul (Mul (Mul t2 t2) t2) t2)) (Mul dd dd)))
    (Mul (Mul (Mul x1 y1) (Mul (Mul (Mul t2 t2) t2) t2)) (Mul dd dd))) (Mul (Mul (Mul (Mul (Sub (Num 0) (Num 8)) t1) z1) (Mul y2 y2)) (Mul z2 z2)))
    (Mul (Mul (Mul (Mul (Sub (Num 0) (Num 8)) x1) y1) (Mul y2 y2)) (Mul z2 z2))) (Mul (Mul (Mul (Mul (Sub (Num 0) (Num 4)) x2) y2) (Mul y1 y1)) (Mul
    z2 z2))) (Mul (Mul (Mul (Mul (Sub (Num 0) (Num 4)) x2) dd) (Mul t1 t1)) (Mul (Mul y2 y2) y2))) (Mul (Mul (Mul (Mul (Num 2) x2) y2) (Mul z1 z1))
    (Mul z2 z2))) (Mul (Mul (Mul (Mul (Mul (Sub (Num 0) (Num 8)) t1) z1) dd) (Mul t2 t2)) (Mul y2 y2))) (Mul (Mul (Mul (Mul (Mul (Sub (Num 0) (Num
    8)) x1) y1) dd) (Mul t2 t2)) (Mul y2 y2))) (Mul (Mul (Mul (Mul (Mul (Sub (Num 0) (Num 4)) x2) y2) dd) (Mul t2 t2)) (Mul y1 y1))) (Mul (Mul (Mul
    (Mul (Mul (Num 2) t1) z1) dd) (Mul t2 t2)) (Mul z2 z2))) (Mul (Mul (Mul (Mul (Mul (Num 2) x1) y1) dd) (Mul t2 t2)) (Mul z2 z2))) (Mul (Mul (Mul
    (Mul (Mul (Num 2) x2) y2) dd) (Mul t1 t1)) (Mul z2 z2))) (Mul (Mul (Mul (Mul (Mul (Num 2) x2) y2) dd) (Mul t2 t2)) (Mul z1 z1))) (Mul (Mul (Mul
    (Mul (Mul (Num 2) x2) y2) (Mul t1 t1)) (Mul t2 t2)) (Mul dd dd))) (Mul (Mul (Mul (Mul (Mul (Mul (Sub (Num 0) (Num 8)) t1) t2) x2) y2) z1) z2)))

abbrev q4 : Expr
q4 = (Mul (Mul (Sub (Num 0) (Num 16)) dd) (Add (Add (Add (Add (Add (Add (Add (Add (Add (Add (Add (Add (Add (Add (Add (Mul (Mul t2 z2) (Mul (Mul (Mul
    z1 z1) z1) z1)) (Mul (Mul x2 y2) (Mul (Mul (Mul z1 z1) z1) z1))) (Mul (Mul (Mul (Sub (Num 0) (Num 4)) t1) (Mul y2 y2)) (Mul (Mul z1 z1) z1)))
    (Mul (Mul (Mul (Num 2) t1) (Mul (Mul z1 z1) z1)) (Mul z2 z2))) (Mul (Mul (Mul t2 z2) (Mul (Mul (Mul t1 t1) t1) t1)) (Mul dd dd))) (Mul (Mul (Mul
    x2 y2) (Mul (Mul (Mul t1 t1) t1) t1)) (Mul dd dd))) (Mul (Mul (Mul (Mul (Sub (Num 0) (Num 4)) t1) z1) (Mul y1 y1)) (Mul z2 z2))) (Mul (Mul (Mul
    (Mul (Sub (Num 0) (Num 4)) z1) dd) (Mul (Mul t1 t1) t1)) (Mul y2 y2))) (Mul (Mul (Mul (Mul (Num 2) t1) dd) (Mul t2 t2)) (Mul (Mul z1 z1) z1)))
    (Mul (Mul (Mul (Mul (Num 2) z1) dd) (Mul (Mul t1 t1) t1)) (Mul z2 z2))) (Mul (Mul (Mul (Mul (Num 2) z1) (Mul (Mul t1 t1) t1)) (Mul t2 t2)) (Mul
    dd dd))) (Mul (Mul (Mul (Mul (Num 8) t1) z1) (Mul y1 y1)) (Mul y2 y2))) (Mul (Mul (Mul (Mul (Num 8) x2) y2) (Mul t1 t1)) (Mul z1 z1))) (Mul (Mul
    (Mul (Mul (Mul (Sub (Num 0) (Num 4)) t1) z1) dd) (Mul t2 t2)) (Mul y1 y1))) (Mul (Mul (Mul (Mul (Mul (Num 2) t2) z2) dd) (Mul t1 t1)) (Mul z1
    z1))) (Mul (Mul (Mul (Mul (Mul (Num 2) x2) y2) dd) (Mul t1 t1)) (Mul z1 z1))))

abbrev outcome : Expr
outcome =
    Add (right (Mul F G) (Mul E H))
    (Add (Mul q1 (Sub (left x1 y1) (right z1 t1))) (Add (Mul q2 (Sub (left x2 y2) (right z2 t2)))
    (Add (Mul q3 (Sub (Mul x1 y1) (Mul z1 t1))) (Mul q4 (Sub (Mul x2 y2) (Mul z2 t2))))))

identity : (e : List ℕ) → meaning e (left (Mul E F) (Mul G H)) ≡ meaning e outcome
identity e = ring e (left (Mul E F) (Mul G H)) outcome refl

product_identity : (e : List ℕ) → meaning e (Mul (Mul E F) (Mul G H)) ≡ meaning e (Mul (Mul F G) (Mul E H))
product_identity e = ring e (Mul (Mul E F) (Mul G H)) (Mul (Mul F G) (Mul E H)) refl

whole : (y : ℕ) → (y + (p - y % p)) % p ≡ 0
whole y = omega arith

pub minus_same : (x y : ℕ) → x ≡ y → minus x y ≡ 0
unfolding minus
minus_same x y h = ap (λ n. (n + (p - y % p)) % p) h ∙ whole y

pub times_none : (x y : ℕ) → y ≡ 0 → times x y ≡ 0
unfolding times
times_none x y h = ap (λ n. x * n % p) h ∙ (let none : x * 0 % p ≡ 0 = omega arith in none)

pub plus_none : (x y : ℕ) → y ≡ 0 → plus x y ≡ x % p
unfolding plus
plus_none x y h = ap (λ n. (x + n) % p) h ∙ ap (λ n. n % p) (let none : x + 0 ≡ x = omega arith in none)

pub both_none : (x y : ℕ) → x ≡ 0 → y ≡ 0 → plus x y ≡ 0
unfolding plus
both_none x y h k = ap₂ (λ m n. (m + n) % p) h k

pub plus_whole : (x y : ℕ) → plus x y % p ≡ plus x y
unfolding plus
plus_whole x y = mod-mod (x + y) p

pub added_is_on_curve : (q r : Extended) → OnCurve q → OnCurve r → OnCurve (added q r)
unfolding added
added_is_on_curve q r h k =
    let e : List ℕ = q.x ∷ q.y ∷ q.z ∷ q.t ∷ r.x ∷ r.y ∷ r.z ∷ r.t ∷ [] in
    let m = meaning e in
    record {
      curve =
          identity e
          ∙ plus_none (m (right (Mul F G) (Mul E H))) _
          (both_none _ _ (times_none (m q1) _ (minus_same _ _ h.curve))
          (both_none _ _ (times_none (m q2) _ (minus_same _ _ k.curve))
          (both_none _ _ (times_none (m q3) _ (minus_same _ _ h.product)) (times_none (m q4) _ (minus_same _ _ k.product)))))
          ∙ plus_whole _ _;
      product = product_identity e;
    }
