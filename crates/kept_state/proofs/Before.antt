-- The last amendment in the blocks before one.
use Rattle.std.proofs.Common.{◌≡◌, ◌≤◌, ◌<◌, ◌+◌, ◌-◌, ℕ, zero, suc, List, [], ◌∷◌, ◌++◌, Option, Some, None, length, take, get_or, refl, sym, ap, ◌∙◌, arith}
use Rattle.std.proofs.Math.Seq.{take-nil}
use Rattle.std.proofs.lemmas.List.{map-append, take_more}
use Rattle.std.proofs.lemmas.Grind.{flat_map-append}
use Rattle.std.specs.List.{AllByRecursion}
use Rattle.std.specs.declared.alloc.Global.{Global}
use Rattle.std.specs.declared.sync.Arc.{Arc}
use Rattle.fab_types.specs.declared.envelope.Envelope.{Envelope}
use Rattle.fab_types.specs.declared.flag.Flag.{Flag}
use Rattle.fab_types.specs.declared.flag.Flag.TheVariants.{Valid, EndorsementPolicyFailure, MvccReadConflict, PhantomReadConflict, DuplicateTxid}
use Rattle.fab_types.specs.declared.membership.Membership.{Membership}
use Rattle.fab_types.specs.declared.proposal.Proposal.{Proposal}
use Rattle.fab_types.specs.declared.proposal.Proposal.TheVariants as proposal
use Rattle.ledger_model.specs.Chain.{Chain, Placed, transactions_from, placed_from, history}
use Rattle.persist_map.specs.Pages.{shared}
use Rattle.persist_map.proofs.Ordered.{all_append}
use Rattle.world_state.specs.Kept.{amendment_in, amendments_of}
use Rattle.kept_state.specs.Standing.{last_amended, membership_before}

abbrev Amendment : Type 0
Amendment = ℕ × Membership

-- a newer membership where there is room for its block, or else the one from before
abbrev pub or_newer : ℕ → Membership → Option Membership → Option Membership
or_newer zero new was = was
or_newer (suc room) new was = Some new

-- the last of these amendments that is in a block before this one
abbrev pub last_before : ℕ → Option Membership → List Amendment → Option Membership
last_before n was [] = was
last_before n was (a ∷ rest) = last_before n (or_newer (n - a.0) a.1 was) rest

pub newer : (n block : ℕ) (new : Membership) (was : Option Membership) → block < n → or_newer (n - block) new was ≡ Some new
newer n block new was below =
    elim (n - block) as (λ (room : ℕ). n - block ≡ room → or_newer room new was ≡ Some new) [
      | zero ↦ λ is. absurd (omega (arith, below, is))
      | suc room ↦ λ is. refl
    ] refl

pub not_newer : (n block : ℕ) (new : Membership) (was : Option Membership) → n ≤ block → or_newer (n - block) new was ≡ was
not_newer n block new was above =
    elim (n - block) as (λ (room : ℕ). n - block ≡ room → or_newer room new was ≡ was) [
      | zero ↦ λ is. refl
      | suc room ↦ λ is. absurd (omega (arith, above, is))
    ] refl

before_append : (n : ℕ) (was : Option Membership) (xs ys : List Amendment) → last_before n was (xs ++ ys) ≡ last_before n (last_before n was xs) ys
before_append n was [] ys = refl
before_append n was (x ∷ xs) ys = before_append n (or_newer (n - x.0) x.1 was) xs ys

amended_append : (was : Option Membership) (xs ys : List Amendment) → last_amended was (xs ++ ys) ≡ last_amended (last_amended was xs) ys
amended_append was [] ys = refl
amended_append was (x ∷ xs) ys = amended_append (Some x.1) xs ys

-- ---- the amendments of a block

abbrev AreOf : ℕ → List Amendment → Type 0
AreOf block xs = AllByRecursion (λ a. a.0 ≡ block) xs

amendment_of : (block : ℕ) (f : Flag) (q : Proposal) → AreOf block (amendment_in block f q)
amendment_of block Valid (proposal.Amend a) = (refl, tt)
amendment_of block Valid (proposal.Call c) = tt
amendment_of block Valid (proposal.Upgrade u) = tt
amendment_of block EndorsementPolicyFailure q = tt
amendment_of block MvccReadConflict q = tt
amendment_of block PhantomReadConflict q = tt
amendment_of block DuplicateTxid q = tt

are_of : (block place : ℕ) (es : List Envelope) (fs : List Flag) → AreOf block (amendments_of (transactions_from block place es fs))
are_of block place [] fs = tt
are_of block place (e ∷ es) [] = tt
are_of block place (e ∷ es) (f ∷ fs) =
    all_append (λ a. a.0 ≡ block) (amendment_in block f e.payload.proposal) (amendments_of (transactions_from block (suc place) es fs))
    (amendment_of block f e.payload.proposal) (are_of block (suc place) es fs)

all_newer : (n block : ℕ) (was : Option Membership) (xs : List Amendment) → block < n → AreOf block xs → last_before n was xs ≡ last_amended was xs
all_newer n block was [] below of = refl
all_newer n block was (x ∷ xs) below of =
    ap (λ m. last_before n m xs) (newer n x.0 x.1 was (omega (arith, below, of.0))) ∙ all_newer n block (Some x.1) xs below of.1

none_newer : (n block : ℕ) (was : Option Membership) (xs : List Amendment) → n ≤ block → AreOf block xs → last_before n was xs ≡ was
none_newer n block was [] above of = refl
none_newer n block was (x ∷ xs) above of =
    ap (λ m. last_before n m xs) (not_newer n x.0 x.1 was (omega (arith, above, of.0))) ∙ none_newer n block was xs above of.1

-- ---- those of blocks

both_amended : (ts us : List Placed) → amendments_of (ts ++ us) ≡ amendments_of ts ++ amendments_of us
both_amended ts us = flat_map-append (λ (t : Placed). amendment_in t.version.block t.flag t.envelope.payload.proposal) ts us

none_before : (n block : ℕ) (was : Option Membership) (cs : Chain) → n ≤ block → last_before n was (amendments_of (placed_from block cs)) ≡ was
none_before n block was [] above = refl
none_before n block was (c ∷ cs) above =
    let now = transactions_from block 0 c.block.envelopes c.flags in
    let later = placed_from (suc block) cs in
    ap (last_before n was) (both_amended now later)
    ∙ before_append n was (amendments_of now) (amendments_of later)
    ∙ ap (λ m. last_before n m (amendments_of later)) (none_newer n block was (amendments_of now) above (are_of block 0 c.block.envelopes c.flags))
    ∙ none_before n (suc block) was cs (omega (arith, above))

all_before : (n block : ℕ) (was : Option Membership) (cs : Chain) →
    last_before n was (amendments_of (placed_from block cs)) ≡ last_amended was (amendments_of (placed_from block (take (n - block) cs)))
all_before n block was [] = ap (λ (cs : Chain). last_amended was (amendments_of (placed_from block cs))) (sym (take-nil (n - block)))
all_before n block was (c ∷ cs) =
    let now = transactions_from block 0 c.block.envelopes c.flags in
    let later = placed_from (suc block) cs in
    let left = last_amended was (amendments_of now) in
    elim (n - block) as (λ (room : ℕ). n - block ≡ room →
    last_before n was (amendments_of (now ++ later)) ≡ last_amended was (amendments_of (placed_from block (take room (c ∷ cs))))) [
      | zero ↦ λ is. none_before n block was (c ∷ cs) (omega (arith, is))
      | suc room ↦ λ is.
          let less : n - suc block ≡ room = omega (arith, is) in
          ap (last_before n was) (both_amended now later)
          ∙ before_append n was (amendments_of now) (amendments_of later)
          ∙ ap (λ m. last_before n m (amendments_of later))
          (all_newer n block was (amendments_of now) (omega (arith, is)) (are_of block 0 c.block.envelopes c.flags))
          ∙ all_before n (suc block) left cs
          ∙ ap (λ (k : ℕ). last_amended left (amendments_of (placed_from (suc block) (take k cs)))) less
          ∙ sym (amended_append was (amendments_of now) (amendments_of (placed_from (suc block) (take room cs))))
          ∙ sym (ap (last_amended was) (both_amended now (placed_from (suc block) (take room cs))))
    ] refl

pub stands_before : (n : ℕ) (chain : Chain) → last_before n None (amendments_of (history chain)) ≡ membership_before n chain
stands_before n chain = all_before n 1 None chain

-- ---- a walk from the last one

-- the first of these amendments, and one more
pub one_more : (n : ℕ) (all : List (Arc Amendment Global)) (i : ℕ) (a : Arc Amendment Global) → i < length all → a ≡ get_or all i a →
    last_before n None (shared (take (i + 1) all)) ≡ or_newer (n - a.value.0) a.value.1 (last_before n None (shared (take i all)))
one_more n all i a inside is =
    ap (λ l. last_before n None (shared l)) (take_more all i a inside ∙ ap (λ x. take i all ++ x ∷ []) (sym is))
    ∙ ap (last_before n None) (map-append (λ (x : Arc Amendment Global). x.value) (take i all) (a ∷ []))
    ∙ before_append n None (shared (take i all)) (a.value ∷ [])
