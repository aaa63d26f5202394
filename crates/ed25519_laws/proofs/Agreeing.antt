-- What is signed is verified.
use Rattle.std.proofs.Common.{◌≡◌, ℕ, ◌+◌, ◌*◌, ◌%◌, List, Some, sym, ap, ◌∙◌, arith}
use Rattle.std.specs.Cmp.Derive.{both_true}
use Rattle.std.proofs.lemmas.Bool.{lt-ltb}
use Rattle.std.proofs.Math.Nat.{mod-lt}
use Rattle.edwards_model.specs.Curve.{sum, base, order, multiple}
use Rattle.edwards_model.specs.Encoding.{encoded, decoded}
use Rattle.edwards_model.proofs.Decoding.{decoded-encoded}
use Rattle.edwards_model.proofs.Group.{base_is, multiple_sum, multiple_multiple, base_residue, same_self}
use Rattle.ed25519.specs.Signing.{secret, prefix, nonce, challenge, public_key, signature, holds}
use Rattle.ed25519_laws.specs.Laws.{SignedIsVerified}
use Rattle.ed25519_laws.proofs.Equations.{residue_small, by_point, base_multiple}

-- the equation of 5.1.7
equation : (r k s : ℕ) → multiple ((r + k * s) % order) base ≡ sum (multiple r base) (multiple k (multiple s base))
equation r k s =
    base_residue (r + k * s) ∙ multiple_sum base base_is r (k * s) ∙ ap (sum (multiple r base)) (sym (multiple_multiple base base_is k s))

pub key_decoded : (seed : List ℕ) → decoded (public_key seed) ≡ Some (multiple (secret seed) base)
unfolding public_key
key_decoded seed = decoded-encoded _ (base_multiple (secret seed))

pub signed_is_verified : SignedIsVerified
unfolding signature
signed_is_verified seed message =
    let n = nonce (prefix seed) message in
    let r = multiple n base in
    let k = challenge (encoded r) (public_key seed) message in
    let s = (n + k * secret seed) % order in
    by_point (public_key seed) message r s (base_multiple n) (residue_small (n + k * secret seed))
    ∙ ap (λ q. holds q (Some r) s k) (key_decoded seed)
    ∙ both_true (lt-ltb s order (mod-lt (n + k * secret seed) (omega arith))) (same_self _ _ (equation n k (secret seed)))
