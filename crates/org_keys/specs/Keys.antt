-- Which keys are taken in, and which tags are right under a key.
use Rattle.std.specs.Prelude.{ℕ, List, ◌∷◌, ◌++◌, Option, Some, None, Bool, false, not, bytes_eq, codes}
use Rattle.fab_types.specs.declared.tag.Tag.{Tag}
use Rattle.fab_types.specs.declared.tag.Tag.TheVariants as tag
use Rattle.hmac_tag.specs.Tag.{tag as hmac}
use Rattle.edwards_model.specs.Curve.{Affine, same, neutral, multiple}
use Rattle.edwards_model.specs.Encoding.{decoded}
use Rattle.ed25519.specs.Signing.{verifies}
use Rattle.org_keys.specs.declared.organisation.OrgKey.{OrgKey}
use Rattle.org_keys.specs.declared.organisation.OrgKey.TheVariants as key

-- a point that 8 times is not the neutral point
abbrev pub has_large_order : Option Affine → Bool
has_large_order None = false
has_large_order (Some a) = not (same (multiple 8 a) neutral)

-- whether some bytes are a public key to take in (`IsPublicKey`): the encoding of a point that is not of small order
abbrev pub is_public_key : List ℕ → Bool
is_public_key bytes = has_large_order (decoded bytes)

-- what stands in front of what is signed for one ledger alone: the byte ff, with which no payload begins, a word, and the SHA-256 of the genesis file
abbrev pub tag_front : (ledger : List ℕ) → List ℕ
tag_front ledger = 255 ∷ (codes "tag " ++ ledger)

-- what is signed of some bytes for one ledger alone
abbrev pub tag_message : (ledger bytes : List ℕ) → List ℕ
tag_message ledger bytes = tag_front ledger ++ bytes

-- the HMAC under a shared key (RFC 2104), a signature under a public one (RFC 8032, section 5.1.7), and under a bound one a signature for its ledger
-- alone; one of the other kind is wrong
abbrev pub is_right_by : OrgKey → List ℕ → Tag → Bool
is_right_by (key.Shared k) bytes (tag.Hmac t) = bytes_eq t (hmac k bytes)
is_right_by (key.Shared k) bytes (tag.Ed25519 s) = false
is_right_by (key.Public k) bytes (tag.Hmac t) = false
is_right_by (key.Public k) bytes (tag.Ed25519 s) = verifies k bytes s
is_right_by (key.Bound k ledger) bytes (tag.Hmac t) = false
is_right_by (key.Bound k ledger) bytes (tag.Ed25519 s) = verifies k (tag_message ledger bytes) s

-- the public key, where the key is one
abbrev pub point_of : OrgKey → Option (List ℕ)
point_of (key.Shared k) = None
point_of (key.Public k) = Some k
point_of (key.Bound k ledger) = Some k
