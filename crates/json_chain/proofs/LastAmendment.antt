-- The membership behind blocks is that which their last VALID amendment leaves.
use Rattle.std.proofs.Common.{◌≡◌, ◌||◌, ◌∙◌, Bool, true, false, cond, List, [], ◌∷◌, Option, Some, None, refl, ap}
use Rattle.fab_types.specs.Committed.{Committed}
use Rattle.fab_types.specs.declared.envelope.Envelope.{Envelope}
use Rattle.fab_types.specs.declared.flag.Flag.{Flag}
use Rattle.fab_types.specs.declared.flag.Flag.TheVariants.{Valid, EndorsementPolicyFailure, MvccReadConflict, PhantomReadConflict, DuplicateTxid}
use Rattle.fab_types.specs.declared.membership.Membership.{Membership}
use Rattle.fab_types.specs.declared.proposal.Proposal.{Proposal}
use Rattle.fab_types.specs.declared.proposal.Proposal.TheVariants as proposal
use Rattle.world_state.specs.Amending.{amends, has_amending, is_amending, last_amending}
use Rattle.json_chain.specs.Standing.{amended, amended_by, membership_behind}

-- ---- a transaction

set : (was other : Option Membership) (f : Flag) (q : Proposal) → is_amending f q ≡ true → amended was f q ≡ amended other f q
set was other Valid (proposal.Amend a) is = refl
set was other Valid (proposal.Call c) is = absurd cc
set was other Valid (proposal.Upgrade u) is = absurd cc
set was other EndorsementPolicyFailure q is = absurd cc
set was other MvccReadConflict q is = absurd cc
set was other PhantomReadConflict q is = absurd cc
set was other DuplicateTxid q is = absurd cc

kept : (was : Option Membership) (f : Flag) (q : Proposal) → is_amending f q ≡ false → amended was f q ≡ was
kept was Valid (proposal.Amend a) is = absurd cc
kept was Valid (proposal.Call c) is = refl
kept was Valid (proposal.Upgrade u) is = refl
kept was EndorsementPolicyFailure q is = refl
kept was MvccReadConflict q is = refl
kept was PhantomReadConflict q is = refl
kept was DuplicateTxid q is = refl

-- ---- those of a block

all_set : (was other : Option Membership) (es : List Envelope) (fs : List Flag) → has_amending es fs ≡ true →
    amended_by was es fs ≡ amended_by other es fs
all_set was other [] fs has = absurd cc
all_set was other (e ∷ es) [] has = absurd cc
all_set was other (e ∷ es) (f ∷ fs) has =
    let q = e.payload.proposal in
    elim (is_amending f q) as (λ (b : Bool). is_amending f q ≡ b → (b || has_amending es fs) ≡ true →
    amended_by (amended was f q) es fs ≡ amended_by (amended other f q) es fs) [
      | true ↦ λ is later. ap (λ (m : Option Membership). amended_by m es fs) (set was other f q is)
      | false ↦ λ is later. all_set (amended was f q) (amended other f q) es fs later
    ] refl has

all_kept : (was : Option Membership) (es : List Envelope) (fs : List Flag) → has_amending es fs ≡ false → amended_by was es fs ≡ was
all_kept was [] fs none = refl
all_kept was (e ∷ es) [] none = refl
all_kept was (e ∷ es) (f ∷ fs) none =
    let q = e.payload.proposal in
    elim (is_amending f q) as (λ (b : Bool). is_amending f q ≡ b → (b || has_amending es fs) ≡ false → amended_by (amended was f q) es fs ≡ was) [
      | true ↦ λ is later. absurd cc
      | false ↦ λ is later. all_kept (amended was f q) es fs later ∙ kept was f q is
    ] refl none

-- ---- blocks

-- the membership that is left by a block, if there is one
abbrev pub left_by : Option Committed → Option Membership
left_by None = None
left_by (Some c) = amended_by None c.block.envelopes c.flags

then_left : (last : Option Committed) (c : Committed) → amended_by (left_by last) c.block.envelopes c.flags ≡ left_by (cond (amends c) (Some c) last)
then_left last c =
    let es = c.block.envelopes in
    elim (amends c) as (λ (b : Bool). amends c ≡ b → amended_by (left_by last) es c.flags ≡ left_by (cond b (Some c) last)) [
      | true ↦ λ is. all_set (left_by last) None es c.flags is
      | false ↦ λ is. all_kept (left_by last) es c.flags is
    ] refl

pub by_last : (last : Option Committed) (cs : List Committed) → membership_behind (left_by last) cs ≡ left_by (last_amending last cs)
by_last last [] = refl
by_last last (c ∷ cs) =
    ap (λ (m : Option Membership). membership_behind m cs) (then_left last c) ∙ by_last (cond (amends c) (Some c) last) cs
