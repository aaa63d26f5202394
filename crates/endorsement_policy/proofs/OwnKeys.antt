-- Who stands by a membership has a public key that nobody else has.
use Rattle.std.proofs.Common.{◌≡◌, ℕ, zero, suc, Bool, true, false, not, ◌&&◌, List, [], ◌∷◌, map, slice_get, Option, Some, None, refl, sym, ap, ap₂, subst, ◌∙◌}
use Rattle.std.specs.Prelude.{◌||◌, is_some}
use Rattle.std.specs.FinMap.{get}
use Rattle.std.specs.List.{list_all, list_any}
use Rattle.std.proofs.lemmas.Bool.{and_parts}
use Rattle.std.proofs.lemmas.Option.{same_Some}
use Rattle.std.proofs.lemmas.Slice.Eq.{bytes_eq-Decides}
use Rattle.grammar.specs.Laws.Steps.{bind_some, guarded}
use Rattle.grammar.specs.Reading.{whole_at}
use Rattle.fab_types.specs.Memberships.{membership_key}
use Rattle.fab_types.specs.declared.edition.Edition.{Edition}
use Rattle.fab_types.specs.declared.edition.Edition.TheVariants.{First, Second}
use Rattle.fab_types.specs.declared.membership.Member.{Member}
use Rattle.fab_types.specs.declared.membership.Membership.{Membership}
use Rattle.wire.specs.Reading.{membership_at}
use Rattle.ledger_model.specs.Chain.{Bytes}
use Rattle.ledger_model.specs.Views.{Plain}
use Rattle.policy_language.specs.declared.policy.Policy.{Policy}
use Rattle.org_keys.specs.Keys.{point_of}
use Rattle.org_keys.specs.Ledgers.{key_in, org_in}
use Rattle.org_keys.specs.declared.organisation.OrgKey.{OrgKey}
use Rattle.org_keys.specs.declared.organisation.OrgKey.TheVariants.{Shared, Public, Bound}
use Rattle.org_keys.specs.declared.organisation.Organisation.{Organisation}
use Rattle.endorsement_policy.specs.Listed.{Listed}
use Rattle.endorsement_policy.specs.Membership.{KeysDiffer, has_known_key, have_own_keys, is_same_key, is_same_point, is_usable, members_in, membership_policy}
use Rattle.endorsement_policy.specs.Membership.{orgs_by, standing_as, standing_by, standing_in, usable_membership}

same_key : (a b : OrgKey) (k : List ℕ) → point_of a ≡ Some k → point_of b ≡ Some k → is_same_key a b ≡ true
same_key a b k e f = ap₂ is_same_point e f ∙ (bytes_eq-Decides k k).1 refl

or_right : (a b : Bool) → b ≡ true → (a || b) ≡ true
or_right true b e = refl
or_right false b e = e

found : (p : Organisation → Bool) (os : List Organisation) (i : ℕ) (o : Organisation) → slice_get os i ≡ Some o → p o ≡ true → list_any p os ≡ true
found p [] i o e h = absurd cc
found p (x ∷ os) zero o e h = let same : x ≡ o = same_Some x o e in ap (λ b. b || list_any p os) (ap p same ∙ h)
found p (x ∷ os) (suc i) o e h = or_right (p x) (list_any p os) (found p os i o e h)

not_shared : (b : Bool) → not b ≡ true → b ≡ true → ⊥
not_shared true e f = absurd cc
not_shared false e f = absurd cc

-- the first has its key alone
first_alone : (x : Organisation) (os : List Organisation) → have_own_keys (x ∷ os) ≡ true → (j : ℕ) (a b : Organisation) (k : List ℕ) → x ≡ a →
    slice_get os j ≡ Some b → point_of a.key ≡ Some k → point_of b.key ≡ Some k → ⊥
first_alone x os h j a b k is e p q =
    let own = and_parts (not (list_any (λ other. is_same_key x.key other.key) os)) (have_own_keys os) h in
    not_shared (list_any (λ other. is_same_key x.key other.key) os) own.0
    (found (λ other. is_same_key x.key other.key) os j b e (same_key x.key b.key k (ap (λ (o : Organisation). point_of o.key) is ∙ p) q))

differ : (os : List Organisation) → have_own_keys os ≡ true → KeysDiffer os
differ [] h i j a b k e f p q = absurd cc
differ (x ∷ os) h zero zero a b k e f p q = refl
differ (x ∷ os) h zero (suc j) a b k e f p q = absurd (first_alone x os h j a b k (same_Some x a e) f p q)
differ (x ∷ os) h (suc i) zero a b k e f p q = absurd (first_alone x os h i b a k (same_Some x b f) e q p)
differ (x ∷ os) h (suc i) (suc j) a b k e f p q =
    ap suc (differ os (and_parts (not (list_any (λ other. is_same_key x.key other.key) os)) (have_own_keys os) h).1 i j a b k e f p q)

-- ---- as they are in a ledger

point_in : (edition : Edition) (ledger : List ℕ) (k : OrgKey) → point_of (key_in edition ledger k) ≡ point_of k
point_in First ledger k = refl
point_in Second ledger (Shared k) = refl
point_in Second ledger (Public k) = refl
point_in Second ledger (Bound k other) = refl

shared_in : (edition : Edition) (ledger : List ℕ) (k : OrgKey) (os : List Organisation) →
    list_any (λ other. is_same_key (key_in edition ledger k) other.key) (map (org_in edition ledger) os) ≡ list_any (λ other. is_same_key k other.key) os
shared_in edition ledger k [] = refl
shared_in edition ledger k (o ∷ os) =
    ap₂ (λ a b. a || b) (ap₂ is_same_point (point_in edition ledger k) (point_in edition ledger o.key)) (shared_in edition ledger k os)

own_in : (edition : Edition) (ledger : List ℕ) (os : List Organisation) → have_own_keys (map (org_in edition ledger) os) ≡ have_own_keys os
own_in edition ledger [] = refl
own_in edition ledger (o ∷ os) = ap₂ (λ a b. not a && b) (shared_in edition ledger o.key os) (own_in edition ledger os)

-- ---- who stands

-- what was found can be used
usable : (orgs : List Organisation) (value : Option Bytes) (s : Membership) → usable_membership orgs value ≡ Some s → is_usable orgs s ≡ true
usable orgs None s e = absurd cc
usable orgs (Some bytes) s e =
    let read = bind_some (whole_at membership_at bytes) _ s e in
    let tested = guarded (is_usable orgs read.0) (Some read.0) s read.2 in
    subst (λ (x : Membership). is_usable orgs x ≡ true) (same_Some read.0 s tested.1) tested.0

by_policy : (r : Listed) (members : List Member) (o : Option Policy) → is_some o ≡ true → KeysDiffer (members_in r members) →
    KeysDiffer (standing_as r members o).orgs
by_policy r members None e h = absurd cc
by_policy r members (Some p) e h = h

of_usable : (r : Listed) (s : Membership) → is_usable r.installed.orgs s ≡ true → KeysDiffer (standing_by r (Some s)).orgs
of_usable r s h =
    let orgs = r.installed.orgs in
    let parts = and_parts (list_all (has_known_key orgs) s.members && have_own_keys (orgs_by orgs s.members)) (is_some (membership_policy s)) h in
    let keys = and_parts (list_all (has_known_key orgs) s.members) (have_own_keys (orgs_by orgs s.members)) parts.0 in
    by_policy r s.members (membership_policy s) parts.1
    (differ (members_in r s.members) (own_in r.edition r.ledger (orgs_by orgs s.members) ∙ keys.1))

pub of_members : (r : Listed) (m : Plain) (s : Membership) → usable_membership r.installed.orgs (get m membership_key) ≡ Some s →
    KeysDiffer (standing_in r m).orgs
of_members r m s e =
    subst (λ (o : Option Membership). KeysDiffer (standing_by r o).orgs) (sym e)
    (of_usable r s (usable r.installed.orgs (get m membership_key) s e))

pub of_all : (r : Listed) (m : Plain) → KeysDiffer r.orgs → KeysDiffer (standing_in r m).orgs
of_all r m genesis = by_found (usable_membership r.installed.orgs (get m membership_key)) refl
  where
    by_found : (o : Option Membership) → usable_membership r.installed.orgs (get m membership_key) ≡ o → KeysDiffer (standing_by r o).orgs
    by_found None e = genesis
    by_found (Some s) e = of_usable r s (usable r.installed.orgs (get m membership_key) s e)
