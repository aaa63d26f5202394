-- Who stands in a state: nobody changes anything without endorsements, and without a membership those of the genesis do.
use Rattle.std.proofs.Common.{◌≡◌, true, cond, List, Option, Some, None, refl, sym, ap, ap₂, ◌∙◌}
use Rattle.std.specs.FinMap.{get}
use Rattle.grammar.specs.Reading.{◌>>=◌, whole_at}
use Rattle.fab_types.specs.Memberships.{membership_key}
use Rattle.fab_types.specs.declared.membership.Member.{Member}
use Rattle.fab_types.specs.declared.membership.Membership.{Membership}
use Rattle.wire.specs.Reading.{membership_at}
use Rattle.ledger_model.specs.Chain.{Bytes}
use Rattle.ledger_model.specs.Views.{Plain}
use Rattle.policy_language.specs.GoodSets.{needs_someone}
use Rattle.policy_language.specs.declared.policy.Policy.{Policy}
use Rattle.policy_language.proofs.Whole.{text_needs}
use Rattle.org_keys.specs.declared.organisation.Organisation.{Organisation}
use Rattle.endorsement_policy.specs.Listed.{Listed}
use Rattle.endorsement_policy.specs.Membership.{is_usable, listed_in, member_names, membership_policy, standing_as, standing_by, standing_in}
use Rattle.endorsement_policy.specs.Membership.{usable_membership, with_standing}

-- ---- the policy that stands needs somebody

by_policy : (r : Listed) (members : List Member) (o : Option Policy) → ((p : Policy) → o ≡ Some p → needs_someone p ≡ true) →
    needs_someone r.upgrade ≡ true → needs_someone (standing_as r members o).upgrade ≡ true
by_policy r members None need upgrade = upgrade
by_policy r members (Some p) need upgrade = need p refl

by_membership : (r : Listed) (o : Option Membership) → needs_someone r.upgrade ≡ true → needs_someone (standing_by r o).upgrade ≡ true
by_membership r None upgrade = upgrade
by_membership r (Some s) upgrade =
    by_policy r s.members (membership_policy s) (λ p is. text_needs (member_names s.members) s.policy p is) upgrade

pub standing_needs : (r : Listed) (m : Plain) → needs_someone r.upgrade ≡ true → needs_someone (standing_in r m).upgrade ≡ true
standing_needs r m upgrade = by_membership r (usable_membership r.installed.orgs (get m membership_key)) upgrade

-- ---- without a membership

pub unchanged : (r : Listed) (m : Plain) → get m membership_key ≡ None → listed_in r m ≡ r
unchanged r m none = ap (λ (value : Option Bytes). with_standing r (standing_by r (usable_membership r.installed.orgs value))) none

-- ---- what is found

-- by organisations and a value that are those of a state
pub found_in : (r : Listed) (m : Plain) (orgs : List Organisation) (value : Option Bytes) (found : Option Membership) → orgs ≡ r.installed.orgs →
    value ≡ get m membership_key → found ≡ usable_membership orgs value → found ≡ usable_membership r.installed.orgs (get m membership_key)
found_in r m orgs value found orgs_are value_is is = is ∙ ap₂ usable_membership orgs_are value_is

-- a membership is read, and then tested
abbrev pub tested : List Organisation → Membership → Option Membership
tested orgs s = cond (is_usable orgs s) (Some s) None

read_first : (orgs : List Organisation) (value : Option Bytes) → usable_membership orgs value ≡ ((value >>= whole_at membership_at) >>= tested orgs)
read_first orgs None = refl
read_first orgs (Some bytes) = refl

pub usable_by : (orgs : List Organisation) (value : Option Bytes) (found : Option Membership) → found ≡ (value >>= whole_at membership_at) →
    (usable : Option Membership) → (found >>= tested orgs) ≡ usable → usable_membership orgs value ≡ usable
usable_by orgs value found found_is usable is = read_first orgs value ∙ ap (λ (o : Option Membership). o >>= tested orgs) (sym found_is) ∙ is

-- by what the value of a state spells, and whether that can be used
pub stands_by : (r : Listed) (m : Plain) (value : Option Bytes) (found : Option Membership) → value ≡ get m membership_key →
    found ≡ (value >>= whole_at membership_at) → (usable : Option Membership) → (found >>= tested r.installed.orgs) ≡ usable → standing_in r m ≡ standing_by r usable
stands_by r m value found value_is found_is usable is =
    let orgs = r.installed.orgs in
    ap (standing_by r) (ap (usable_membership orgs) (sym value_is) ∙ usable_by orgs value found found_is usable is)
