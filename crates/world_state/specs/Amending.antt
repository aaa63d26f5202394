-- Which blocks amend the membership.
use Rattle.std.specs.Prelude.{ℕ, suc, Bool, true, false, ◌||◌, List, [], ◌∷◌, Option, Some, if◌then◌else◌}
use Rattle.fab_types.specs.declared.proposal.Proposal.{Proposal}
use Rattle.fab_types.specs.declared.proposal.Proposal.TheVariants as proposal
use Rattle.ledger_model.specs.Chain.{Chain, Committed, Envelope, Flag, Valid}

-- a transaction of this flag and this proposal does: it is a VALID amendment
abbrev pub is_amending : Flag → Proposal → Bool
is_amending Valid (proposal.Amend a) = true
is_amending flag q = false

-- one of these does
abbrev pub has_amending : List Envelope → List Flag → Bool
has_amending [] flags = false
has_amending (e ∷ es) [] = false
has_amending (e ∷ es) (f ∷ fs) = is_amending f e.payload.proposal || has_amending es fs

abbrev pub amends : Committed → Bool
amends c = has_amending c.block.envelopes c.flags

-- the last block that does, or else the one from before these
abbrev pub last_amending : Option Committed → Chain → Option Committed
last_amending was [] = was
last_amending was (c ∷ cs) = last_amending (if amends c then Some c else was) cs

-- at each block, the number of the last one up to it that does: blocks are numbered from a number on, and the last one before them has this number
abbrev pub amended_at : (number last : ℕ) → Chain → List ℕ
amended_at number last [] = []
amended_at number last (c ∷ cs) = let now = if amends c then number else last in now ∷ amended_at (suc number) now cs

-- the last of these numbers, or else this one
abbrev pub last_of : ℕ → List ℕ → ℕ
last_of last [] = last
last_of last (n ∷ ns) = last_of n ns
