-- Ed25519: keys, signatures and their verification (RFC 8032, sections 5.1.5 to 5.1.7).
use Rattle.std.specs.Prelude.{◌≡◌, ℕ, ◌+◌, ◌*◌, ◌/◌, ◌%◌, ◌^◌, Bool, false, nat_lt, ◌&&◌, List, ◌++◌, take, drop, Option, Some, None}
use Rattle.sha2.specs.Sha512.{sha512}
use Rattle.field25519.specs.Bytes.{number, bytes_of}
use Rattle.edwards_model.specs.Curve.{Affine, same, sum, neutral, base, order, multiple}
use Rattle.edwards_model.specs.Encoding.{encoded, decoded}

-- bits 0 to 2 and 255 are cleared, and bit 254 is set (5.1.5, step 2)
abbrev pub pruned : ℕ → ℕ
pruned n = 2 ^ 254 + n % 2 ^ 254 / 8 * 8

-- the secret scalar (5.1.5, steps 1 to 3)
unfoldable pub secret : List ℕ → ℕ
secret seed = pruned (number (take 32 (sha512 seed)))

-- 5.1.5, step 4
unfoldable pub public_key : List ℕ → List ℕ
public_key seed = encoded (multiple (secret seed) base)

-- what goes before a message in the hash for a nonce (5.1.6, step 1)
unfoldable pub prefix : List ℕ → List ℕ
prefix seed = drop 32 (sha512 seed)

-- 5.1.6, step 2, and modulo L as in step 3
unfoldable pub nonce : List ℕ → List ℕ → ℕ
nonce prefix message = number (sha512 (prefix ++ message)) % order

-- 5.1.6, step 4, and 5.1.7, step 2, modulo L as in 5.1.6, step 5: so it is in section 6 too, and where A has a part of
-- small order this makes a difference
unfoldable pub challenge : List ℕ → List ℕ → List ℕ → ℕ
challenge r public message = number (sha512 (r ++ public ++ message)) % order

-- 5.1.6, steps 5 and 6
abbrev pub sealed : List ℕ → ℕ → ℕ → ℕ → List ℕ
sealed r nonce challenge secret = r ++ bytes_of 32 ((nonce + challenge * secret) % order)

-- 5.1.6
unfoldable pub signature : List ℕ → List ℕ → List ℕ
signature seed message =
    let r = encoded (multiple (nonce (prefix seed) message) base) in
    sealed r (nonce (prefix seed) message) (challenge r (public_key seed) message) (secret seed)

-- [S]B = R + [k]A, with no cofactor, where S is below L (5.1.7, steps 1 and 3)
abbrev pub holds : Option Affine → Option Affine → ℕ → ℕ → Bool
holds None r s k = false
holds (Some a) None s k = false
holds (Some a) (Some r) s k = nat_lt s order && same (multiple s base) (sum r (multiple k a))

-- 5.1.7
unfoldable pub verifies : List ℕ → List ℕ → List ℕ → Bool
verifies public message signature =
    let r = take 32 signature in
    holds (decoded public) (decoded r) (number (drop 32 signature)) (challenge r public message)

-- the bytes are decoded to a point that 8 times is the neutral point: eight keys are (bytes of no point are not)
abbrev pub IsOfSmallOrder : List ℕ → Type 0
IsOfSmallOrder public = (a : Affine) × (decoded public ≡ Some a) × (multiple 8 a ≡ neutral)

-- the bytes are decoded to a point that 8 times is not the neutral point
abbrev pub IsPublicKey : List ℕ → Type 0
IsPublicKey public = (a : Affine) × (decoded public ≡ Some a) × (multiple 8 a ≡ neutral → ⊥)
