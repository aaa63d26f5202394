-- What the envelopes of a block are judged by.
use Rattle.std.specs.Prelude.{◌≡◌, Bool, Option, Some, None, List}
use Rattle.std.specs.List.{AllByRecursion}
use Rattle.fab_types.specs.declared.envelope.Envelope.{Envelope}
use Rattle.ledger_model.specs.Chain.{Bytes, Version, Chain, history}
use Rattle.ledger_model.specs.State.{state}
use Rattle.ledger_model.specs.Views.{Plain, values_of}
use Rattle.world_state.specs.Writing.{as_state}
use Rattle.policy_language.specs.GoodSets.{Name}
use Rattle.endorsement_policy.specs.Endorsed.{Listed, is_endorsed_as, policy_in}
use Rattle.endorsement_policy.specs.Membership.{listed_in}
use Rattle.policy_language.specs.declared.policy.Policy.{Policy}
use Rattle.org_keys.specs.declared.organisation.Organisation.{Organisation}
use Rattle.endorsement_policy.specs.declared.source.Source.{Source}
use Rattle.endorsement_policy.specs.declared.source.Source.TheVariants.{Genesis, Defined, Nowhere}
use Rattle.endorsement_policy.specs.declared.source.Known.{Known}

-- what is listed, with those who stand before their block, and the entries of the state before it
pub record Judge : Type 0 where
  pub listed : Listed
  pub entries : List (Bytes × (Bytes × Version))

-- the values of the state after a chain
abbrev pub plain_after : Chain → Plain
plain_after chain = values_of (state (history chain))

-- the values of a state with these entries
abbrev pub plain_in : List (Bytes × (Bytes × Version)) → Plain
plain_in es = values_of (as_state es)

-- the organisations that stand behind a chain
abbrev pub orgs_behind : Listed → Chain → List Organisation
orgs_behind r chain = (listed_in r (plain_after chain)).orgs

abbrev pub judges : Judge → Envelope → Bool
judges j e = is_endorsed_as e.payload.proposal j.listed (as_state j.entries) e

-- who judges a block in a state with these entries
abbrev pub judge_in : Listed → List (Bytes × (Bytes × Version)) → Judge
judge_in r es = record { listed = listed_in r (plain_in es); entries = es }

-- the policy of a chaincode, as the judge finds it
abbrev pub judged_policy : Judge → Name → Option Policy
judged_policy j name = policy_in j.listed (plain_in j.entries) name

-- the policy that was found somewhere
abbrev pub policy_from : Source → Option Policy
policy_from (Genesis policy) = Some policy.now
policy_from (Defined policy) = Some policy
policy_from Nowhere = None

-- each has the policy that its chaincode has in the state
abbrev pub AreRight : Judge → List Known → Type 0
AreRight j known = AllByRecursion (λ k. policy_from k.source ≡ judged_policy j k.chaincode.now) known
