-- Bytes that are decoded are the encoding of the point.
use Rattle.std.proofs.Common.{◌≡◌, ℕ, suc, ◌+◌, ◌*◌, ◌/◌, ◌%◌, ◌^◌, ◌<◌, Bool, true, false, List, [], ◌∷◌, length, Option, Some, None}
use Rattle.std.proofs.Common.{refl, sym, ap, ap₂, ◌∙◌, subst, inl, inr, arith}
use Rattle.std.specs.Prelude.{nat_eq, nat_lt, ◌&&◌, if◌then◌else◌}
use Rattle.std.specs.List.{AllByRecursion}
use Rattle.std.specs.Cmp.Derive.{both_true}
use Rattle.std.proofs.lemmas.Bool.{eq-eqb, eqb-true, cases_eq}
use Rattle.std.proofs.Math.Nat.{pow-suc, pow-zero}
use Rattle.field25519.specs.Bytes.{number, bytes_of}
use Rattle.field25519.specs.Modulo.{p, plus, minus, times}
use Rattle.edwards_model.specs.Curve.{d, Affine}
use Rattle.edwards_model.specs.Encoding.{root, with_root, on_row, decoded}
use Rattle.edwards_model.proofs.Rooting.{root_is, IsRoot}
use Rattle.ed25519_laws.specs.Laws.{EncodingIsUnique}

-- ---- bytes

pub same_bytes : (bytes : List ℕ) → AllByRecursion (λ b. b < 256) bytes → bytes_of (length bytes) (number bytes) ≡ bytes
unfolding bytes_of
same_bytes [] h = refl
same_bytes (b ∷ bs) h =
    let small : b < 256 = h.0 in
    let low : (b + 256 * number bs) % 256 ≡ b = omega (arith, small) in
    let high : (b + 256 * number bs) / 256 ≡ number bs = omega (arith, small) in
    ap₂ (λ (x : ℕ) (xs : List ℕ). x ∷ xs) low (ap (bytes_of (length bs)) high ∙ same_bytes bs h.1)

number_small : (bytes : List ℕ) → AllByRecursion (λ b. b < 256) bytes → number bytes < 256 ^ length bytes
number_small [] h = (let one : 256 ^ 0 ≡ 1 = pow-zero 256 in omega (arith, one))
number_small (b ∷ bs) h =
    let small : b < 256 = h.0 in
    let more : 256 ^ suc (length bs) ≡ 256 ^ length bs * 256 = pow-suc 256 (length bs) in
    let rest : number bs < 256 ^ length bs = number_small bs h.1 in
    let all : b + 256 * number bs < 256 ^ suc (length bs) = omega (arith, small, more, rest) in
    all

-- ---- the sign

parity : (x sign : ℕ) (b : Bool) → nat_eq (x % 2) sign ≡ b → x % p ≡ x → sign < 2 → nat_eq x 0 && nat_eq sign 1 ≡ false →
    (if b then x else minus 0 x) % 2 ≡ sign
unfolding minus
parity x sign true is hx small none = eqb-true (x % 2) sign is
parity x sign false is hx small none =
    elim (cases_eq (x % 2) sign) [
      | inl e ↦ absurd (let t = eq-eqb (x % 2) sign e in cc)
      | inr n ↦
          elim (cases_eq x 0) [
            | inl z ↦
                let one : sign ≡ 1 = omega (arith, z, n, small) in
                absurd (let t = both_true (eq-eqb x 0 z) (eq-eqb sign 1 one) in cc)
            | inr nz ↦ omega (arith, nz, n, hx, small)
          ]
    ]

-- ---- the point

-- a point of this row and with this sign, if any
abbrev Fits : ℕ → ℕ → Option Affine → Type 0
Fits y sign None = Unit {0}
Fits y sign (Some a) = (a.y ≡ y) × (a.x % 2 ≡ sign)

fits_sign : (y sign x : ℕ) (b : Bool) → nat_eq x 0 && nat_eq sign 1 ≡ b → x % p ≡ x → sign < 2 →
    Fits y sign (if b then None else Some (record { x = if nat_eq (x % 2) sign then x else minus 0 x; y = y }))
fits_sign y sign x true is hx small = tt
fits_sign y sign x false is hx small = (refl, parity x sign (nat_eq (x % 2) sign) refl hx small is)

fits_root : (y sign : ℕ) (r : Option ℕ) → IsRoot (minus (times y y) 1) (plus (times d (times y y)) 1) r → sign < 2 → Fits y sign (with_root y sign r)
fits_root y sign None h small = tt
fits_root y sign (Some x) h small = fits_sign y sign x (nat_eq x 0 && nat_eq sign 1) refl h.1 small

fits_row : (y sign : ℕ) (b : Bool) → sign < 2 → Fits y sign (if b then on_row y sign else None)
fits_row y sign true small = fits_root y sign (root (minus (times y y) 1) (plus (times d (times y y)) 1)) (root_is _ _) small
fits_row y sign false small = tt

fits_decoded : (bytes : List ℕ) → number bytes / 2 ^ 255 < 2 → Fits (number bytes % 2 ^ 255) (number bytes / 2 ^ 255) (decoded bytes)
unfolding decoded
fits_decoded bytes small = fits_row (number bytes % 2 ^ 255) (number bytes / 2 ^ 255) (nat_lt (number bytes % 2 ^ 255) p) small

pub encoding_is_unique : EncodingIsUnique
encoding_is_unique bytes a long bytes_small is =
    let n = number bytes in
    let below : n < 256 ^ 32 = subst (λ (k : ℕ). n < 256 ^ k) long (number_small bytes bytes_small) in
    let sign : n / 2 ^ 255 < 2 = omega (arith, below) in
    let fits : Fits (n % 2 ^ 255) (n / 2 ^ 255) (Some a) = subst (Fits (n % 2 ^ 255) (n / 2 ^ 255)) is (fits_decoded bytes sign) in
    let whole : a.y + 2 ^ 255 * (a.x % 2) ≡ n =
    ap₂ (λ (y s : ℕ). y + 2 ^ 255 * s) fits.0 fits.1 ∙ (let o : n % 2 ^ 255 + 2 ^ 255 * (n / 2 ^ 255) ≡ n = omega arith in o) in
    ap (bytes_of 32) whole ∙ ap (λ (k : ℕ). bytes_of k n) (sym long) ∙ same_bytes bytes bytes_small
