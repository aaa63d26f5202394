-- Laws of keys and signatures (RFC 8032, sections 5.1.2, 5.1.3 and 5.1.5 to 5.1.7).
use Rattle.std.specs.Prelude.{◌≡◌, ◌↔◌, ℕ, ◌+◌, ◌-◌, ◌^◌, ◌%◌, ◌<◌, nat_eq, List, [], ◌∷◌, ◌++◌, Some, length, take, true}
use Rattle.std.specs.List.{AllByRecursion, list_any}
use Rattle.field25519.specs.Bytes.{number, bytes_of}
use Rattle.field25519.specs.Modulo.{p}
use Rattle.edwards_model.specs.Curve.{Affine, base, order, multiple}
use Rattle.edwards_model.specs.Encoding.{encoded, decoded}
use Rattle.ed25519.specs.Signing.{public_key, signature, challenge, verifies, IsOfSmallOrder, IsPublicKey}

-- 32 bytes that are decoded are the encoding of the point
abbrev pub EncodingIsUnique : Type 0
EncodingIsUnique =
    (bytes : List ℕ) (a : Affine) → length bytes ≡ 32 → AllByRecursion (λ b. b < 256) bytes → decoded bytes ≡ Some a → encoded a ≡ bytes

-- the public key of a seed is decoded, and not of small order
abbrev pub SeedsHavePublicKeys : Type 0
SeedsHavePublicKeys = (seed : List ℕ) → IsPublicKey (public_key seed)

abbrev pub SignedIsVerified : Type 0
SignedIsVerified = (seed message : List ℕ) → verifies (public_key seed) message (signature seed message) ≡ true

-- a y of order 8
abbrev pub eighth : ℕ
eighth = 2707385501144840649318225287225658788936804267575313519463743609750303402022

-- the numbers of the encodings of small order: those of y = 0, 1 and -1, and of both y of order 8, with each sign of x that there is
abbrev pub small_orders : List ℕ
small_orders = 0 ∷ 2 ^ 255 ∷ 1 ∷ (p - 1) ∷ eighth ∷ (eighth + 2 ^ 255) ∷ (p - eighth) ∷ (p - eighth + 2 ^ 255) ∷ []

-- 32 bytes are of small order exactly where their number is one of these eight
abbrev pub SmallOrdersAreEight : Type 0
SmallOrdersAreEight =
    (bytes : List ℕ) → length bytes ≡ 32 → AllByRecursion (λ b. b < 256) bytes → IsOfSmallOrder bytes ↔ (list_any (nat_eq (number bytes)) small_orders ≡ true)

-- two signatures of one message under one key that begin with the same 32 bytes have the same number after them
abbrev pub SignatureIsUnique : Type 0
SignatureIsUnique =
    (public message r s1 s2 : List ℕ) → length r ≡ 32 → verifies public message (r ++ s1) ≡ true → verifies public message (r ++ s2) ≡ true → number
    s1 ≡ number s2

-- under a key of small order
pub record SmallOrdersSign : Type 0 where
  -- a signature verifies for both of two messages or for neither, where their challenges are the same modulo 8
  pub other_messages :
      (public signature message other : List ℕ) → IsOfSmallOrder public → challenge (take 32 signature) public message % 8 ≡ challenge (take 32
      signature) public other % 8 →
      verifies public message signature ≡ verifies public other signature
  -- and [s]B with s, which need no secret, are one of each message whose challenge is a multiple of 8
  pub no_secret :
      (public message : List ℕ) (s : ℕ) → IsOfSmallOrder public → s < order → challenge (encoded (multiple s base)) public message % 8 ≡ 0 →
      verifies public message (encoded (multiple s base) ++ bytes_of 32 s) ≡ true
