-- Who stands before each block of a chain, and the blocks as JSON by these.
use Rattle.std.specs.Prelude.{ℕ, ◌-◌, List, [], ◌∷◌, Option, Some, None, take}
use Rattle.std.specs.List.{AllByRecursion}
use Rattle.fab_types.specs.BlockWithin.{IsBlock}
use Rattle.fab_types.specs.Committed.{Committed}
use Rattle.fab_types.specs.declared.envelope.Envelope.{Envelope}
use Rattle.fab_types.specs.declared.flag.Flag.{Flag}
use Rattle.fab_types.specs.declared.flag.Flag.TheVariants.{Valid}
use Rattle.fab_types.specs.declared.membership.Membership.{Membership}
use Rattle.fab_types.specs.declared.proposal.Proposal.{Proposal}
use Rattle.fab_types.specs.declared.proposal.Proposal.TheVariants as proposal
use Rattle.ledger_model.specs.Chain.{Chain}
use Rattle.ledger_model.specs.Judged.{AreFlagsBy}
use Rattle.org_keys.specs.declared.organisation.Organisation.{Organisation}
use Rattle.endorsement_policy.specs.Endorsed.{Listed}
use Rattle.endorsement_policy.specs.Membership.{standing_by}
use Rattle.ledger_setting.specs.Rule.{table_of}
use Rattle.serde_json.specs.Data.{Data}
use Rattle.json_chain.specs.Blocks.{block_json}

-- the membership behind a transaction: that of a VALID amendment, or the one before
abbrev pub amended : Option Membership → Flag → Proposal → Option Membership
amended was Valid (proposal.Amend a) = Some a.membership
amended was flag q = was

-- behind the transactions of a block
abbrev pub amended_by : Option Membership → List Envelope → List Flag → Option Membership
amended_by was [] flags = was
amended_by was (e ∷ es) [] = was
amended_by was (e ∷ es) (f ∷ fs) = amended_by (amended was f e.payload.proposal) es fs

-- behind blocks. In a ledger's chain it is the one that stands in the state (law `who_is_shown_stands`)
abbrev pub membership_behind : Option Membership → List Committed → Option Membership
membership_behind was [] = was
membership_behind was (c ∷ cs) = membership_behind (amended_by was c.block.envelopes c.flags) cs

-- a chain of a ledger: blocks within the limits, as each is that bytes spell, with the table's flags
pub record IsChainOf (listed : Listed) (chain : Chain) : Type 0 where
  pub blocks : AllByRecursion (λ c. IsBlock c.block) chain
  pub flags : AreFlagsBy (table_of listed) [] chain

-- the organisations that stand before the block of a number
abbrev pub orgs_before : Listed → ℕ → Chain → List Organisation
orgs_before r number chain = (standing_by r (membership_behind None (take (number - 1) chain))).orgs

-- blocks behind those that left this membership
abbrev pub blocks_json : Listed → Option Membership → List Committed → List Data
blocks_json r was [] = []
blocks_json r was (c ∷ cs) = block_json (standing_by r was).orgs c ∷ blocks_json r (amended_by was c.block.envelopes c.flags) cs
