use Rattle.std.proofs.Common.{◌≡◌, ℕ, Bool, true, nat_lt, List, ◌++◌, take, drop, Option, Some, ap, ap₂, sym, ◌∙◌, rules}
use Rattle.field25519.specs.Bytes.{number}
use Rattle.edwards_model.specs.Curve.{Affine, same, sum, base, order, multiple}
use Rattle.edwards_model.specs.Encoding.{decoded}
use Rattle.ed25519.specs.Signing.{challenge, holds, verifies}
use Rattle.ed25519.proofs.verify_behind.Goals as goal

holds_by : (a r : Affine) (s k : ℕ) (o q : Option Affine) (b : Bool) → o ≡ Some a → q ≡ Some r → nat_lt s order ≡ true →
    b ≡ same (multiple s base) (sum r (multiple k a)) → b ≡ holds o q s k
holds_by a r s k o q b e f below is = rw (e, f, below) is

pub returns : goal.returns
unfolding verifies
returns c =
    let key = c.in-Some.key in
    let r = c.in-Some-decoded.r in
    let message = c.args.front.now ++ c.args.message.now in
    let signature = c.args.signature.now in
    let first : c.first_half-commitment.result ≡ take 32 signature = c.first_half-commitment.ensures in
    let response : c.from_bytes-response.result ≡ number (drop 32 signature) = c.from_bytes-response.ensures ∙ ap number c.second_half.ensures in
    let below : nat_lt c.from_bytes-response.result order ≡ true = cc in
    let k = c.number.ensures ∙ c.challenge-challenge.ensures ∙ ap (λ (t : List ℕ). challenge t c.args.public.now message) first in
    holds_by key r (number (drop 32 signature)) (challenge (take 32 signature) c.args.public.now message) (decoded c.args.public.now)
    (decoded (take 32 signature)) c.is.result (sym c.decoded.ensures ∙ c.in-Some.is)
    (sym (c.decoded-2.ensures ∙ ap (λ (t : List ℕ). decoded t) first) ∙ c.in-Some-decoded.is)
    (sym (ap (λ n. nat_lt n order) response) ∙ below)
    (c.is.ensures ∙ ap₂ same (c.times_base.ensures ∙ ap (λ n. multiple n base) response)
    (c.plus.ensures ∙ ap (sum r) (c.times.ensures ∙ ap (λ n. multiple n key) k)))
