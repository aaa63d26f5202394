-- The test of a public key tells whether it is one.
use Rattle.std.proofs.Common.{◌≡◌, Bool, true, false, Option, Some, None, List, ℕ, not, refl, sym, ap, ◌∙◌}
use Rattle.std.specs.Bool.{Decides}
use Rattle.std.proofs.lemmas.Option.{same_Some}
use Rattle.edwards_model.specs.Curve.{Affine, same, neutral, multiple}
use Rattle.edwards_model.specs.Encoding.{decoded}
use Rattle.edwards_model.proofs.Group.{same_is, same_self}
use Rattle.ed25519.specs.Signing.{IsPublicKey}
use Rattle.org_keys.specs.Keys.{has_large_order, is_public_key}

-- what a test does not tell is not so
by_test : (b : Bool) (P : Type 0) → (b ≡ true → P) → (P → b ≡ true) → Decides (not b) (P → ⊥)
by_test true P to from = (λ e. absurd cc, λ no. absurd (no (to refl)))
by_test false P to from = (λ e p. (let wrong : false ≡ true = from p in absurd cc), λ no. refl)

order_decides : (a : Affine) → Decides (not (same (multiple 8 a) neutral)) (multiple 8 a ≡ neutral → ⊥)
order_decides a = by_test (same (multiple 8 a) neutral) (multiple 8 a ≡ neutral) (same_is (multiple 8 a) neutral) (same_self (multiple 8 a) neutral)

by_point : (bytes : List ℕ) (o : Option Affine) → decoded bytes ≡ o → Decides (has_large_order o) (IsPublicKey bytes)
by_point bytes None is = (λ e. absurd cc, λ k. (let wrong : None ≡ Some k.0 = sym is ∙ k.1 in absurd cc))
by_point bytes (Some a) is =
    let h = order_decides a in (
      λ e. (a, is, h.0 e),
      λ k. h.1 (λ small. k.2 (ap (multiple 8) (same_Some k.0 a (sym k.1 ∙ is)) ∙ small)),
    )

pub decides : (bytes : List ℕ) → Decides (is_public_key bytes) (IsPublicKey bytes)
decides bytes = by_point bytes (decoded bytes) refl
