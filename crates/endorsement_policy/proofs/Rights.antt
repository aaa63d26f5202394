-- An endorsed envelope carries a right tag.
use Rattle.std.proofs.Common.{◌≡◌, ℕ, suc, Bool, true, false, not, cond, ◌&&◌, List, [], ◌∷◌, map, filter, Option, Some, None, slice_get, option_map, refl, sym}
use Rattle.std.proofs.Common.{ap, ◌∙◌}
use Rattle.std.proofs.Common.{subst, ◌⊎◌, inl, inr}
use Rattle.std.specs.FinMap.{get}
use Rattle.std.specs.List.{find, list_all}
use Rattle.std.proofs.lemmas.Option.{same_Some}
use Rattle.fab_types.specs.Proposals.{definition_key}
use Rattle.fab_types.specs.declared.proposal.Proposal.{Proposal}
use Rattle.fab_types.specs.declared.proposal.Proposal.TheVariants as proposal
use Rattle.fab_types.specs.declared.envelope.Envelope.{Envelope}
use Rattle.ledger_model.specs.Chain.{Bytes}
use Rattle.ledger_model.specs.Defined.{definition_by}
use Rattle.ledger_model.specs.Views.{Versioned, values_of}
use Rattle.policy_language.specs.GoodSets.{Name, Names, is_satisfied, needs_someone}
use Rattle.policy_language.specs.declared.policy.Policy.{Policy}
use Rattle.endorsement_policy.specs.declared.rules.ChaincodePolicy.{ChaincodePolicy}
use Rattle.endorsement_policy.specs.Endorsed.{Listed, do_need_someone, is_policy_of, is_right, right_orgs, is_met_by, listed_policy}
use Rattle.endorsement_policy.specs.Endorsed.{defined_policy, policy_in, reads_own, names_no_other, writes_own}
use Rattle.endorsement_policy.specs.Endorsed.{is_endorsed_as, is_endorsed, CarriesRight}
use Rattle.endorsement_policy.specs.Membership.{listed_in}
use Rattle.endorsement_policy.proofs.Definitions.{defined_needs}
use Rattle.endorsement_policy.proofs.Parts.{amend_met, upgrade_met}
use Rattle.endorsement_policy.proofs.Stands.{standing_needs}

both : (a b : Bool) → (a && b) ≡ true → (a ≡ true) × (b ≡ true)
both true b e = (refl, e)
both false b e = absurd cc

-- what is found passes what all pass
pub found_passes : {X : Type 0} (p q : X → Bool) (xs : List X) (x : X) → list_all q xs ≡ true → find p xs ≡ Some x → q x ≡ true
found_passes p q [] x h e = absurd cc
found_passes {X} p q (y ∷ xs) x h e =
    elim (p y) as (λ b. cond b (Some y) (find p xs) ≡ Some x → q x ≡ true) [
      | true ↦ λ f. (let same : y ≡ x = cc in subst (λ z. q z ≡ true) same (both _ _ h).0)
      | false ↦ λ f. found_passes p q xs x (both _ _ h).1 f
    ] e

-- one that passes, with its place
record Passing {X : Type 0} (p : X → Bool) (xs : List X) : Type 0 where
  place : ℕ
  one : X
  there : slice_get xs place ≡ Some one
  passes : p one ≡ true

later : {X : Type 0} (p : X → Bool) (y : X) (xs : List X) → Passing p xs → Passing p (y ∷ xs)
later p y xs h = record { place = suc h.place; one = h.one; there = h.there; passes = h.passes }

none_or_one : {X : Type 0} (p : X → Bool) (xs : List X) → (filter p xs ≡ []) ⊎ Passing p xs
none_or_one p [] = inl refl
none_or_one {X} p (y ∷ xs) =
    elim (p y) as (λ b. p y ≡ b → (cond b (y ∷ filter p xs) (filter p xs) ≡ []) ⊎ Passing p (y ∷ xs)) [
      | true ↦ λ e. inr (record { place = 0; one = y; there = refl; passes = e })
      | false ↦ λ e. elim (none_or_one p xs) [ inl h ↦ inl h | inr h ↦ inr (later p y xs h) ]
    ] refl

not_both : (b : Bool) → b ≡ true → not b ≡ true → ⊥
not_both true e f = absurd cc
not_both false e f = absurd cc

-- the policy that some names meet, of which none meets nobody
met_by_someone : (o : Option Policy) (names : Names) → ((p : Policy) → o ≡ Some p → needs_someone p ≡ true) → is_met_by names o ≡ true → names ≡ [] → ⊥
met_by_someone None names need met none = absurd cc
met_by_someone (Some p) names need met none =
    not_both (is_satisfied p []) (ap (is_satisfied p) (sym none) ∙ met) (need p refl)

listed_needs : (policies : List ChaincodePolicy) (name : Name) → do_need_someone policies ≡ true → (p : Policy) → listed_policy policies name ≡ Some p →
    needs_someone p ≡ true
listed_needs policies name need p e = by_found (find (is_policy_of name) policies) refl e
  where
    by_found : (o : Option ChaincodePolicy) → find (is_policy_of name) policies ≡ o → option_map (λ q. q.policy) o ≡ Some p → needs_someone p ≡ true
    by_found None is f = absurd cc
    by_found (Some q) is f =
        subst (λ (z : Policy). needs_someone z ≡ true) (same_Some q.policy p f)
        (found_passes (is_policy_of name) (λ x. needs_someone x.policy) policies q need is)

by_definition : (r : Listed) (name : Name) (value : Option Bytes) → do_need_someone r.policies ≡ true → (p : Policy)
    → definition_by (listed_policy r.policies name) (defined_policy r.installed) value ≡ Some p
    → needs_someone p ≡ true
by_definition r name None need p e = listed_needs r.policies name need p e
by_definition r name (Some bytes) need p e = defined_needs r.installed bytes p e

-- an envelope that is endorsed is so by somebody
by_someone : (q : Proposal) (r : Listed) (m : Versioned) (e : Envelope) → do_need_someone r.policies ≡ true → needs_someone r.upgrade ≡ true →
    is_endorsed_as q r m e ≡ true → right_orgs r.orgs e ≡ [] → ⊥
by_someone (proposal.Call c) r m e need upgrade met =
    let there = values_of m in
    met_by_someone (policy_in r there c.chaincode) (right_orgs r.orgs e) (by_definition r c.chaincode (get there (definition_key c.chaincode)) need)
    (both (reads_own e.payload && names_no_other e.payload && writes_own r.edition c.chaincode e.payload)
    (is_met_by (right_orgs r.orgs e) (policy_in r there c.chaincode)) met).1
by_someone (proposal.Upgrade u) r m e need upgrade met =
    met_by_someone (Some r.upgrade) (right_orgs r.orgs e) (λ p is. subst (λ (z : Policy). needs_someone z ≡ true) (same_Some r.upgrade p is) upgrade)
    (upgrade_met r m u e met).agreed
by_someone (proposal.Amend a) r m e need upgrade met =
    met_by_someone (Some r.upgrade) (right_orgs r.orgs e) (λ p is. subst (λ (z : Policy). needs_someone z ≡ true) (same_Some r.upgrade p is) upgrade)
    (amend_met r m a e met).agreed

pub carries : (r : Listed) (m : Versioned) (e : Envelope) → do_need_someone r.policies ≡ true → needs_someone r.upgrade ≡ true →
    is_endorsed r m e ≡ true → CarriesRight (listed_in r (values_of m)).orgs e
carries r m e need upgrade met =
    let l = listed_in r (values_of m) in
    elim (none_or_one (is_right l.orgs e.payload) e.endorsements) [
      | inl h ↦ absurd (by_someone e.payload.proposal l m e need (standing_needs r (values_of m) upgrade) met (ap (map (λ x. x.org)) h))
      | inr h ↦ record { place = h.place; endorsement = h.one; stands = h.there; right = h.passes }
    ]
