-- The tag of some bytes under a key: HMAC (RFC 2104, section 2) with SHA-256 (FIPS 180-4).
use Rattle.std.specs.Prelude.{◌-◌, ℕ, List, ◌++◌, length, map, replicate, nat_le, if◌then◌else◌}
use Rattle.std.specs.Int.Bits.{bit_xor}
use Rattle.sha2.specs.Sha256.{sha256}

-- a key that is longer than the hash's block of 64 bytes is hashed first
abbrev pub shorten : List ℕ → List ℕ
shorten key = if nat_le (length key) 64 then key else sha256 key

-- followed by zeros to the length of a block
abbrev pub padded_key : List ℕ → List ℕ
padded_key key = let k = shorten key in k ++ replicate (64 - length k) 0

abbrev pub mask : ℕ → List ℕ → List ℕ
mask pad key = map (λ byte. bit_xor byte pad) key

-- the outer pad is 5c, the inner 36
abbrev pub tag : List ℕ → List ℕ → List ℕ
tag key bytes =
    let k = padded_key key in
    sha256 (mask 92 k ++ sha256 (mask 54 k ++ bytes))
