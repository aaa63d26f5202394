-- Public keys of seeds are not of small order.
use Rattle.std.proofs.Common.{◌≡◌, ℕ, ◌+◌, ◌-◌, ◌*◌, ◌/◌, ◌%◌, ◌^◌, ◌<◌, ◌≤◌, sym, ◌∙◌, arith}
use Rattle.std.proofs.Math.Nat.{mod-lt, div-add-mod}
use Rattle.edwards_model.specs.Curve.{neutral, base, order, multiple}
use Rattle.edwards_model.proofs.Group.{base_is, multiple_multiple, base_residue}
use Rattle.edwards_model.proofs.Ordering.{once}
use Rattle.ed25519.specs.Signing.{pruned, secret}
use Rattle.ed25519_laws.specs.Laws.{SeedsHavePublicKeys}
use Rattle.ed25519_laws.proofs.Agreeing.{key_decoded}

-- only the multiples by those of L are neutral
ends_by_order : (n : ℕ) → multiple n base ≡ neutral → n % order ≡ 0
unfolding multiple
ends_by_order n e = once (n % order) 0 (mod-lt n (omega arith)) (omega arith) (base_residue n ∙ e)

-- L is odd: 37 L is 64 times this and 1
abbrev part : ℕ
part = 4183893849395214092453248481759231045495520395266509084719877886196278238853

no_multiple : (m q : ℕ) → order * m ≡ 64 * q → 2 ^ 251 ≤ q → q < 2 ^ 252 → ⊥
no_multiple m q e low high =
    let whole : m ≡ 64 * (37 * q - part * m) = omega (arith, e) in
    omega (arith, e, whole, low, high)

no_end : (n : ℕ) → 8 * pruned n % order ≡ 0 → ⊥
no_end n e =
    let q = 2 ^ 251 + n % 2 ^ 254 / 8 in
    let whole : order * (8 * pruned n / order) + 8 * pruned n % order ≡ 8 * pruned n = div-add-mod (8 * pruned n) order in
    let is : order * (8 * pruned n / order) ≡ 64 * q = omega (arith, whole, e) in
    no_multiple (8 * pruned n / order) q is (omega arith) (omega arith)

pub seeds_have_public_keys : SeedsHavePublicKeys
unfolding secret
seeds_have_public_keys seed = (
  multiple (secret seed) base,
  key_decoded seed,
  λ e. no_end _ (ends_by_order (8 * secret seed) (sym (multiple_multiple base base_is 8 (secret seed)) ∙ e)),
)
