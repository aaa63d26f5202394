-- Memberships as JSON.
use Rattle.std.specs.Prelude.{Option, Some, None, codes}
use Rattle.std.specs.FinMap.{get}
use Rattle.fab_types.specs.Memberships.{membership_key}
use Rattle.fab_types.specs.declared.membership.Member.{Member}
use Rattle.fab_types.specs.declared.membership.MemberKey.{MemberKey}
use Rattle.fab_types.specs.declared.membership.MemberKey.TheVariants.{Kept, Public}
use Rattle.fab_types.specs.declared.membership.Membership.{Membership}
use Rattle.org_keys.specs.declared.organisation.Organisation.{Organisation}
use Rattle.ledger_model.specs.Chain.{Chain}
use Rattle.endorsement_policy.specs.Endorsed.{Listed}
use Rattle.endorsement_policy.specs.Judge.{plain_after}
use Rattle.endorsement_policy.specs.Membership.{usable_membership}
use Rattle.policy_text.specs.Text.{policy_text}
use Rattle.serde_json.specs.Data.{Data, number, unsigned, string, Members, object, member, no_members, put}
use Rattle.json_chain.specs.Texts.{hex_json, list_json}

-- with the public key, if a member has one of its own
abbrev pub with_key : MemberKey → Members → Members
with_key Kept ms = ms
with_key (Public k) ms = put (codes "public") (hex_json k) ms

-- {"name":"A"}, or {"name":"B","public":"d75a98.."}
abbrev pub member_json : Member → Data
member_json m = object (with_key m.key (member (codes "name") (string m.name) no_members))

-- a member that keeps the key of the genesis
abbrev pub kept_json : Organisation → Data
kept_json o = object (member (codes "name") (string o.name) no_members)

abbrev pub membership_json : Membership → Data
membership_json s =
    object (member (codes "members") (list_json member_json s.members) (member (codes "policy") (string s.policy)
    (member (codes "serial") (number (unsigned s.serial)) no_members)))

-- what stands: a membership, or what is listed, as one that keeps all and has the serial number 0
abbrev pub standing_json : Listed → Option Membership → Data
standing_json r (Some s) = membership_json s
standing_json r None =
    object (member (codes "members") (list_json kept_json r.orgs) (member (codes "policy") (string (policy_text r.upgrade))
    (member (codes "serial") (number (unsigned 0)) no_members)))

-- what stands in the state after a chain
abbrev pub standing_behind : Listed → Chain → Data
standing_behind r chain = standing_json r (usable_membership r.installed.orgs (get (plain_after chain) membership_key))
