-- The one spelling of endorsements, envelopes, headers and blocks in bytes.
use Rattle.std.specs.Prelude.{ℕ, ◌+◌, ◌*◌, List, ◌∷◌, ◌++◌, length}
use Rattle.std.specs.List.{sum_by}
use Rattle.std.specs.Int.{w32, to_be_bytes}
use Rattle.fab_types.specs.declared.tag.Tag.{Tag}
use Rattle.fab_types.specs.declared.tag.Tag.TheVariants as tag
use Rattle.fab_types.specs.declared.envelope.Endorsement.{Endorsement}
use Rattle.fab_types.specs.declared.envelope.Envelope.{Envelope}
use Rattle.fab_types.specs.declared.block.Header.{Header}
use Rattle.fab_types.specs.declared.block.Block.{Block}
use Rattle.fab_types.specs.Spelling.{short_bytes, few_bytes, many_bytes, payload_bytes}
use Rattle.fab_types.specs.Size.{envelope_size}

-- before a signature's name stands the byte 0, which is the length of no name
abbrev pub tagged_bytes : List ℕ → Tag → List ℕ
tagged_bytes org (tag.Hmac bytes) = short_bytes org ++ bytes
tagged_bytes org (tag.Ed25519 bytes) = 0 ∷ (short_bytes org ++ bytes)

abbrev pub endorsement_bytes : Endorsement → List ℕ
endorsement_bytes e = tagged_bytes e.org e.tag

abbrev pub envelope_bytes : Envelope → List ℕ
envelope_bytes e = payload_bytes e.payload ++ few_bytes endorsement_bytes e.endorsements

-- the number in four bytes, and the two hashes
abbrev pub header_bytes : Header → List ℕ
header_bytes h = to_be_bytes w32 h.number ++ h.previous_hash ++ h.data_hash

-- its length in four bytes, and the envelope
abbrev pub sized_bytes : Envelope → List ℕ
sized_bytes e = to_be_bytes w32 (length (envelope_bytes e)) ++ envelope_bytes e

-- how many envelopes there are in two bytes, and each behind its length
abbrev pub data_bytes : List Envelope → List ℕ
data_bytes es = many_bytes sized_bytes es

abbrev pub block_bytes : Block → List ℕ
block_bytes b = header_bytes b.header ++ data_bytes b.envelopes

-- how many bytes that are: a header of 68, two for the number of envelopes, and each envelope behind its length in four
abbrev pub block_size : Block → ℕ
block_size b = 70 + 4 * length b.envelopes + sum_by envelope_size b.envelopes
