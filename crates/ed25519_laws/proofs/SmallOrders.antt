-- Multiples of a point of small order are those by the residues modulo 8.
use Rattle.std.proofs.Common.{◌≡◌, ℕ, ◌%◌, ◌<◌, true, List, ◌++◌, take, drop, Option, Some, None, refl, sym, ap, ◌∙◌, arith}
use Rattle.std.specs.Prelude.{nat_lt, ◌&&◌}
use Rattle.std.specs.Cmp.Derive.{both_true}
use Rattle.std.proofs.lemmas.Bool.{lt-ltb}
use Rattle.field25519.specs.Bytes.{number, bytes_of}
use Rattle.edwards_model.specs.Curve.{Affine, same, sum, neutral, base, order, multiple}
use Rattle.edwards_model.specs.Encoding.{encoded, decoded}
use Rattle.edwards_model.proofs.Rooting.{decoded_is_point}
use Rattle.edwards_model.proofs.Group.{with_neutral, multiple_residue, same_self}
use Rattle.ed25519.specs.Signing.{challenge, holds, verifies, IsOfSmallOrder}
use Rattle.ed25519_laws.proofs.Equations.{by_point, base_multiple}

-- challenges that are the same modulo 8
same_multiple : (public : List ℕ) (h : IsOfSmallOrder public) (k l : ℕ) → k % 8 ≡ l % 8 → multiple k h.0 ≡ multiple l h.0
same_multiple public h k l e =
    let a = h.0 in
    let point = decoded_is_point public a h.1 in
    sym (multiple_residue a point 8 k h.2) ∙ ap (λ n. multiple n a) e ∙ multiple_residue a point 8 l h.2

holds_same : (a : Affine) (r : Option Affine) (s k l : ℕ) → multiple k a ≡ multiple l a → holds (Some a) r s k ≡ holds (Some a) r s l
holds_same a None s k l e = refl
holds_same a (Some r) s k l e = ap (λ b. nat_lt s order && same (multiple s base) (sum r b)) e

pub other_messages :
    (public signature message other : List ℕ) → IsOfSmallOrder public → challenge (take 32 signature) public message % 8 ≡ challenge (take 32
    signature) public other % 8 →
    verifies public message signature ≡ verifies public other signature
unfolding verifies
other_messages public signature message other h e =
    let r = take 32 signature in
    let s = number (drop 32 signature) in
    let k = challenge r public message in
    let l = challenge r public other in
    ap (λ q. holds q (decoded r) s k) h.1 ∙ holds_same h.0 (decoded r) s k l (same_multiple public h k l e) ∙ ap (λ q. holds q (decoded r) s l) (sym h.1)

pub no_secret :
    (public message : List ℕ) (s : ℕ) → IsOfSmallOrder public → s < order → challenge (encoded (multiple s base)) public message % 8 ≡ 0 →
    verifies public message (encoded (multiple s base) ++ bytes_of 32 s) ≡ true
unfolding multiple
no_secret public message s h l e =
    let r = multiple s base in
    let k = challenge (encoded r) public message in
    let none : multiple k h.0 ≡ neutral = same_multiple public h k 0 e in
    by_point public message r s (base_multiple s) (omega (arith, l))
    ∙ ap (λ q. holds q (Some r) s k) h.1
    ∙ both_true (lt-ltb s order l) (same_self r (sum r (multiple k h.0)) (sym (with_neutral r (base_multiple s)) ∙ ap (sum r) (sym none)))
