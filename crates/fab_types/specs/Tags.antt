-- Tags: their bytes, and how many there are.
use Rattle.std.specs.Prelude.{◌≡◌, ℕ, List, length}
use Rattle.fab_types.specs.declared.tag.Tag.{Tag}
use Rattle.fab_types.specs.declared.tag.Tag.TheVariants as tag

abbrev pub tag_bytes : Tag → List ℕ
tag_bytes (tag.Hmac bytes) = bytes
tag_bytes (tag.Ed25519 bytes) = bytes

-- an HMAC has 32 bytes, a signature 64
abbrev pub IsTag : Tag → Type 0
IsTag (tag.Hmac bytes) = length bytes ≡ 32
IsTag (tag.Ed25519 bytes) = length bytes ≡ 64

-- 32 bytes; or 64, and the byte 0 before the name
abbrev pub tag_size : Tag → ℕ
tag_size (tag.Hmac bytes) = 32
tag_size (tag.Ed25519 bytes) = 65
