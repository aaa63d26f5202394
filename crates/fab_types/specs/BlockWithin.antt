-- Envelopes and blocks within the limits of the ledger: the values that their types can have.
use Rattle.std.specs.Prelude.{◌≡◌, ◌≤◌, length}
use Rattle.std.specs.List.{AllByRecursion}
use Rattle.fab_types.specs.Limits.{IsOrgName, IsBlockNumber}
use Rattle.fab_types.specs.declared.envelope.Endorsement.{Endorsement}
use Rattle.fab_types.specs.declared.envelope.Envelope.{Envelope}
use Rattle.fab_types.specs.declared.block.Header.{Header}
use Rattle.fab_types.specs.declared.block.Block.{Block}
use Rattle.fab_types.specs.Data.{IsBlockData}
use Rattle.fab_types.specs.Tags.{IsTag}
use Rattle.fab_types.specs.Within.{IsPayload}

pub record IsEndorsement (e : Endorsement) : Type 0 where
  pub org : IsOrgName e.org
  pub tag : IsTag e.tag

-- up to 32 endorsements
pub record IsEnvelope (e : Envelope) : Type 0 where
  pub payload : IsPayload e.payload
  pub endorsements : length e.endorsements ≤ 32
  pub each_endorsement : AllByRecursion IsEndorsement e.endorsements

-- each hash has 32 bytes
pub record IsHeader (h : Header) : Type 0 where
  pub number : IsBlockNumber h.number
  pub previous_hash : length h.previous_hash ≡ 32
  pub data_hash : length h.data_hash ≡ 32

-- a header, and envelopes that a block may hold
pub record IsBlock (b : Block) : Type 0 where
  pub header : IsHeader b.header
  pub envelopes : IsBlockData b.envelopes
  pub each_envelope : AllByRecursion IsEnvelope b.envelopes
