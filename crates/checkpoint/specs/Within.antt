-- What is kept of a chain, within the limits of the ledger.
use Rattle.std.specs.Prelude.{◌≡◌, ◌<◌, ◌^◌, ℕ, length}
use Rattle.std.specs.List.{AllByRecursion}
use Rattle.fab_types.specs.Limits.{IsKey, IsValue}
use Rattle.fab_types.specs.Within.{IsMembership, IsVersion}
use Rattle.fab_types.specs.declared.membership.Membership.{Membership}
use Rattle.ledger_model.specs.Chain.{Bytes, Version}
use Rattle.world_state.specs.Kept.{Kept}

abbrev pub IsHash : Bytes → Type 0
IsHash hash = length hash ≡ 32

-- the number of its block has 32 bits
abbrev pub IsAmendment : ℕ × Membership → Type 0
IsAmendment a = (a.0 < 2 ^ 32) × IsMembership a.1

abbrev pub IsKeptEntry : Bytes × (Bytes × Version) → Type 0
IsKeptEntry e = IsKey e.0 × IsValue e.1.0 × IsVersion e.1.1

-- the number of its block has 32 bits
abbrev pub IsPlacedId : Bytes × ℕ → Type 0
IsPlacedId e = (length e.0 ≡ 32) × (e.1 < 2 ^ 32)

-- each list but that of amendments has no more items than its count has bits for
pub record IsKeptWithin (kept : Kept) : Type 0 where
  pub height : kept.height < 2 ^ 32
  pub link : IsHash kept.link
  pub hashes : (length kept.hashes < 2 ^ 32) × AllByRecursion IsHash kept.hashes
  pub amended : AllByRecursion IsAmendment kept.amended
  pub entries : (length kept.entries < 2 ^ 64) × AllByRecursion IsKeptEntry kept.entries
  pub ids : (length kept.ids < 2 ^ 64) × AllByRecursion IsPlacedId kept.ids
