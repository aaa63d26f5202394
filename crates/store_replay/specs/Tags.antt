-- What is known of the tags on the envelopes of records before their blocks are judged.
use Rattle.std.specs.Prelude.{◌≡◌, List, [], ◌∷◌, Option, map}
use Rattle.std.specs.Global.{Vec}
use Rattle.fab_types.specs.Committed.{Committed}
use Rattle.policy_language.specs.GoodSets.{Names}
use Rattle.org_keys.specs.declared.organisation.Organisation.{Organisation}
use Rattle.ledger_model.specs.Chain.{Bytes}
use Rattle.endorsement_policy.specs.Endorsed.{Listed, right_orgs}
use Rattle.endorsement_policy.specs.Membership.{listed_in, standing_by, usable_membership}
use Rattle.ledger_model.specs.Views.{values_of}
use Rattle.world_state.specs.Kept.{Kept, state_in}
use Rattle.store_replay.specs.declared.pending.Pending.{Pending}

-- for each envelope of a record's block the organisations whose right tag it carries
abbrev pub right_in_record : List Organisation → Committed → List Names
right_in_record orgs c = map (right_orgs orgs) c.block.envelopes

-- this was found of the first of those records, for these organisations: of none, of some or of all, and of no more
abbrev pub AreRightTags : List Organisation → List (Vec Names) → List Committed → Type 0
AreRightTags orgs [] cs = Unit {0}
AreRightTags orgs (v ∷ vs) [] = ⊥
AreRightTags orgs (v ∷ vs) (c ∷ cs) = (v.items ≡ right_in_record orgs c) × AreRightTags orgs vs cs

-- the organisations that stand where the key of the membership has this value
abbrev pub orgs_at : Listed → Option Bytes → List Organisation
orgs_at r value = (standing_by r (usable_membership r.installed.orgs value)).orgs

-- the organisations that stand behind a chain of which this is kept
abbrev pub orgs_kept : Listed → Kept → List Organisation
orgs_kept r kept = (listed_in r (values_of (state_in kept))).orgs

-- what is kept was found for those who stand where the key of the membership has the value that is kept
abbrev pub IsKnown : Listed → Pending → Type 0
IsKnown r p = AreRightTags (orgs_at r p.value) p.right.items p.records.items
