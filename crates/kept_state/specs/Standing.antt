-- Who stands before a block.
use Rattle.std.specs.Prelude.{ℕ, ◌-◌, List, [], ◌∷◌, Option, Some, None, take}
use Rattle.fab_types.specs.declared.membership.Membership.{Membership}
use Rattle.ledger_model.specs.Chain.{Chain, history}
use Rattle.world_state.specs.Kept.{amendments_of}

-- the membership of the last of these amendments, or else the one from before these
abbrev pub last_amended : Option Membership → List (ℕ × Membership) → Option Membership
last_amended was [] = was
last_amended was (a ∷ rest) = last_amended (Some a.1) rest

-- The membership that stands before the block of a number: that of the last VALID amendment in the blocks before it. None where there is none, and the
-- genesis stands.
abbrev pub membership_before : ℕ → Chain → Option Membership
membership_before number chain = last_amended None (amendments_of (history (take (number - 1) chain)))
