-- Points as 32 bytes (RFC 8032, sections 5.1.2 and 5.1.3).
use Rattle.std.specs.Prelude.{◌≡◌, ℕ, ◌+◌, ◌-◌, ◌*◌, ◌/◌, ◌%◌, ◌^◌, nat_eq, nat_lt, ◌&&◌, if◌then◌else◌, List, Option, Some, None}
use Rattle.field25519.specs.Bytes.{number, bytes_of}
use Rattle.field25519.specs.Modulo.{p, plus, minus, times, power}
use Rattle.edwards_model.specs.Curve.{d, Affine}

-- y, and above its 255 bits the low bit of x (5.1.2)
abbrev pub encoded : Affine → List ℕ
encoded a = bytes_of 32 (a.y + 2 ^ 255 * (a.x % 2))

-- u v^3 (u v^7)^((p - 5) / 8), which is a root of u / v or of -u / v, if either has one (5.1.3, step 2)
abbrev pub candidate : ℕ → ℕ → ℕ
candidate u v =
    let v3 = times (times v v) v in
    times (times u v3) (power (times u (times (times v3 v3) v)) ((p - 5) / 8))

-- 2^((p - 1) / 4), whose square is -1
abbrev pub imaginary : ℕ
imaginary = power 2 ((p - 1) / 4)

-- a root of u / v (5.1.3, step 3)
abbrev pub root_from : ℕ → ℕ → ℕ → Option ℕ
root_from u v x =
    if nat_eq (times v (times x x)) u then Some x
    else (if nat_eq (times v (times x x)) (minus 0 u) then Some (times x imaginary) else None)

unfoldable pub root : ℕ → ℕ → Option ℕ
root u v = root_from u v (candidate u v)

-- x is a root of y^2 - 1 by d y^2 + 1, so that it stands on the curve with y
abbrev pub IsRootOf : ℕ → ℕ → Type 0
IsRootOf y x = times (plus (times d (times y y)) 1) (times x x) ≡ minus (times y y) 1

-- the root with this low bit; zero has none with 1 (5.1.3, step 4)
abbrev pub with_sign : ℕ → ℕ → ℕ → Option Affine
with_sign y sign x =
    if nat_eq x 0 && nat_eq sign 1 then None else Some (record { x = if nat_eq (x % 2) sign then x else minus 0 x; y = y })

abbrev pub with_root : ℕ → ℕ → Option ℕ → Option Affine
with_root y sign None = None
with_root y sign (Some x) = with_sign y sign x

-- the point with this y
abbrev pub on_row : ℕ → ℕ → Option Affine
on_row y sign = let yy = times y y in with_root y sign (root (minus yy 1) (plus (times d yy) 1))

-- the point of 32 bytes, if they are its encoding (5.1.3); no call hands in another number of bytes
unfoldable pub decoded : List ℕ → Option Affine
decoded bytes =
    if nat_lt (number bytes % 2 ^ 255) p then on_row (number bytes % 2 ^ 255) (number bytes / 2 ^ 255) else None
