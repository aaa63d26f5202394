-- Who stands before a block, by the amendments that are kept of a chain.
use Rattle.std.proofs.Common.{◌≡◌, ℕ, suc, List, [], ◌∷◌, ◌++◌, Option, Some, refl, ap, ◌∙◌}
use Rattle.std.proofs.lemmas.Grind.{flat_map-append}
use Rattle.fab_types.specs.declared.envelope.Envelope.{Envelope}
use Rattle.fab_types.specs.declared.flag.Flag.{Flag}
use Rattle.fab_types.specs.declared.flag.Flag.TheVariants.{Valid, EndorsementPolicyFailure, MvccReadConflict, PhantomReadConflict, DuplicateTxid}
use Rattle.fab_types.specs.declared.membership.Membership.{Membership}
use Rattle.fab_types.specs.declared.proposal.Proposal.{Proposal}
use Rattle.fab_types.specs.declared.proposal.Proposal.TheVariants as proposal
use Rattle.ledger_model.specs.Chain.{Chain, Placed, placed_from, transactions_from}
use Rattle.world_state.specs.Kept.{amendment_in, amendments_of}
use Rattle.kept_state.specs.Standing.{last_amended}
use Rattle.json_chain.specs.Standing.{amended, amended_by, membership_behind}

amended_then : (was : Option Membership) (xs ys : List (ℕ × Membership)) → last_amended was (xs ++ ys) ≡ last_amended (last_amended was xs) ys
amended_then was [] ys = refl
amended_then was (x ∷ xs) ys = amended_then (Some x.1) xs ys

one_amended : (was : Option Membership) (n : ℕ) (f : Flag) (q : Proposal) (rest : List (ℕ × Membership)) →
    last_amended was (amendment_in n f q ++ rest) ≡ last_amended (amended was f q) rest
one_amended was n Valid (proposal.Call c) rest = refl
one_amended was n Valid (proposal.Upgrade u) rest = refl
one_amended was n Valid (proposal.Amend a) rest = refl
one_amended was n EndorsementPolicyFailure q rest = refl
one_amended was n MvccReadConflict q rest = refl
one_amended was n PhantomReadConflict q rest = refl
one_amended was n DuplicateTxid q rest = refl

block_amended : (was : Option Membership) (n place : ℕ) (es : List Envelope) (fs : List Flag) →
    last_amended was (amendments_of (transactions_from n place es fs)) ≡ amended_by was es fs
block_amended was n place [] fs = refl
block_amended was n place (e ∷ es) [] = refl
block_amended was n place (e ∷ es) (f ∷ fs) =
    one_amended was n f e.payload.proposal (amendments_of (transactions_from n (suc place) es fs))
    ∙ block_amended (amended was f e.payload.proposal) n (suc place) es fs

both_amended : (ts us : List Placed) → amendments_of (ts ++ us) ≡ amendments_of ts ++ amendments_of us
both_amended ts us = flat_map-append (λ (t : Placed). amendment_in t.version.block t.flag t.envelope.payload.proposal) ts us

-- the last of the amendments of blocks is the one that stands behind them
pub amended_so : (was : Option Membership) (n : ℕ) (cs : Chain) → last_amended was (amendments_of (placed_from n cs)) ≡ membership_behind was cs
amended_so was n [] = refl
amended_so was n (c ∷ cs) =
    let now = transactions_from n 0 c.block.envelopes c.flags in
    let later = placed_from (suc n) cs in
    ap (last_amended was) (both_amended now later)
    ∙ amended_then was (amendments_of now) (amendments_of later)
    ∙ ap (λ m. last_amended m (amendments_of later)) (block_amended was n 0 c.block.envelopes c.flags)
    ∙ amended_so (amended_by was c.block.envelopes c.flags) (suc n) cs
