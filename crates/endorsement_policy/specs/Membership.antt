-- Who the organisations are in a state, and whose endorsements upgrades and amendments need: by the membership at its key, or as listed.
use Rattle.std.specs.Prelude.{◌≡◌, ℕ, ◌+◌, ◌==◌, List, [], ◌∷◌, Option, Some, None, Bool, true, false, not, ◌&&◌, map, is_some, bytes_eq, slice_get}
use Rattle.std.specs.Prelude.{if◌then◌else◌}
use Rattle.std.specs.FinMap.{get}
use Rattle.std.specs.List.{find, list_all, list_any}
use Rattle.grammar.specs.Reading.{◌>>=◌, whole_at}
use Rattle.fab_types.specs.Memberships.{membership_key}
use Rattle.fab_types.specs.declared.membership.Member.{Member}
use Rattle.fab_types.specs.declared.membership.MemberKey.{MemberKey}
use Rattle.fab_types.specs.declared.membership.MemberKey.TheVariants.{Kept, Public}
use Rattle.fab_types.specs.declared.membership.Membership.{Membership}
use Rattle.wire.specs.Reading.{membership_at}
use Rattle.ledger_model.specs.Chain.{Bytes}
use Rattle.ledger_model.specs.Views.{Plain}
use Rattle.policy_language.specs.GoodSets.{Name, Names}
use Rattle.policy_language.specs.Reading.{policy_in_text}
use Rattle.policy_language.specs.declared.policy.Policy.{Policy}
use Rattle.org_keys.specs.Keys.{is_public_key, point_of}
use Rattle.org_keys.specs.Ledgers.{org_in}
use Rattle.org_keys.specs.declared.organisation.OrgKey.{OrgKey}
use Rattle.org_keys.specs.declared.organisation.OrgKey.TheVariants as org_key
use Rattle.org_keys.specs.declared.organisation.Organisation.{Organisation}
use Rattle.endorsement_policy.specs.Listed.{Listed, is_org}
use Rattle.endorsement_policy.specs.declared.standing.Amended.{Amended}

-- ---- which memberships can be used

abbrev pub member_names : List Member → Names
member_names ms = map (λ m. m.name) ms

-- the organisation that a member is: by its own key, a point that is not of small order, or the one of these that has its name
abbrev pub org_by_key : List Organisation → Name → MemberKey → Option Organisation
org_by_key orgs name Kept = find (is_org name) orgs
org_by_key orgs name (Public k) = if is_public_key k then Some (record { name = name; key = org_key.Public k }) else None

abbrev pub has_known_key : List Organisation → Member → Bool
has_known_key orgs m = is_some (org_by_key orgs m.name m.key)

abbrev pub with_org : Option Organisation → List Organisation → List Organisation
with_org None orgs = orgs
with_org (Some o) orgs = o ∷ orgs

-- the organisations that members are
abbrev pub orgs_by : List Organisation → List Member → List Organisation
orgs_by orgs [] = []
orgs_by orgs (m ∷ ms) = with_org (org_by_key orgs m.name m.key) (orgs_by orgs ms)

abbrev pub is_same_point : Option (List ℕ) → Option (List ℕ) → Bool
is_same_point None other = false
is_same_point (Some k) None = false
is_same_point (Some k) (Some l) = bytes_eq k l

-- one public key, whether it is bound or not
abbrev pub is_same_key : OrgKey → OrgKey → Bool
is_same_key a b = is_same_point (point_of a) (point_of b)

-- no two organisations have one public key
abbrev pub have_own_keys : List Organisation → Bool
have_own_keys [] = true
have_own_keys (o ∷ os) = not (list_any (λ other. is_same_key o.key other.key) os) && have_own_keys os

-- the policy that the text of a membership is: one of its members
abbrev pub membership_policy : Membership → Option Policy
membership_policy s = policy_in_text (member_names s.members) s.policy

-- each member has a key, no two the same public one, be it kept, and the text is a policy of the members
abbrev pub is_usable : List Organisation → Membership → Bool
is_usable orgs s = list_all (has_known_key orgs) s.members && have_own_keys (orgs_by orgs s.members) && is_some (membership_policy s)

-- the membership that a value spells, if it can be used
abbrev pub usable_membership : List Organisation → Option Bytes → Option Membership
usable_membership orgs None = None
usable_membership orgs (Some bytes) = whole_at membership_at bytes >>= λ s. if is_usable orgs s then Some s else None

-- the serial number of what stands: 0 where the genesis does
abbrev pub serial_of : Option Membership → ℕ
serial_of None = 0
serial_of (Some s) = s.serial

-- the membership that may come next where this value stands
abbrev pub is_next : List Organisation → Option Bytes → Membership → Bool
is_next orgs value s = s.serial == serial_of (usable_membership orgs value) + 1 && is_usable orgs s

-- ---- who stands

-- the organisations, and the policy of upgrades and amendments
pub record Standing : Type 0 where
  pub orgs : List Organisation
  pub upgrade : Policy

-- the organisations that members are, with their keys as they are in the ledger
abbrev pub members_in : Listed → List Member → List Organisation
members_in r members = map (org_in r.edition r.ledger) (orgs_by r.installed.orgs members)

abbrev pub standing_as : Listed → List Member → Option Policy → Standing
standing_as r members None = record { orgs = r.orgs; upgrade = r.upgrade }
standing_as r members (Some policy) = record { orgs = members_in r members; upgrade = policy }

-- who stands by a membership that can be used, or by none
abbrev pub standing_by : Listed → Option Membership → Standing
standing_by r None = record { orgs = r.orgs; upgrade = r.upgrade }
standing_by r (Some s) = standing_as r s.members (membership_policy s)

-- who stands in a state
abbrev pub standing_in : Listed → Plain → Standing
standing_in r m = standing_by r (usable_membership r.installed.orgs (get m membership_key))

-- organisations with one public key are one: those at two places differ
abbrev pub KeysDiffer : List Organisation → Type 0
KeysDiffer orgs =
    (i j : ℕ) (a b : Organisation) (k : List ℕ) → slice_get orgs i ≡ Some a → slice_get orgs j ≡ Some b →
    point_of a.key ≡ Some k → point_of b.key ≡ Some k → i ≡ j

-- what is listed, with those who stand in the place of the genesis' organisations and its policy of upgrades
abbrev pub with_standing : Listed → Standing → Listed
with_standing r s =
    record { edition = r.edition; ledger = r.ledger; orgs = s.orgs; policies = r.policies; upgrade = s.upgrade; installed = r.installed }

abbrev pub listed_in : Listed → Plain → Listed
listed_in r m = with_standing r (standing_in r m)

-- as it is kept: the membership's organisations and its policy, or those that are listed
abbrev pub kept_as : Listed → Option Amended → Standing
kept_as r None = record { orgs = r.orgs; upgrade = r.upgrade }
kept_as r (Some a) = record { orgs = a.organisations.items; upgrade = a.upgrade }
