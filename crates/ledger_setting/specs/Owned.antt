-- By whom a key in a chaincode's namespace was put, under rules 2.
use Rattle.std.specs.Prelude.{◌≡◌, ◌∷◌, ◌++◌, [], Some, true}
use Rattle.std.specs.FinMap.{get}
use Rattle.fab_types.specs.Limits.{IsName}
use Rattle.fab_types.specs.declared.edition.Edition.TheVariants.{Second}
use Rattle.fab_types.specs.declared.proposal.Call.{Call}
use Rattle.fab_types.specs.declared.proposal.Proposal.TheVariants as proposal
use Rattle.ledger_model.specs.Chain.{Bytes, Chain, Placed}
use Rattle.ledger_model.specs.Judged.{AreFlagsBy}
use Rattle.ledger_model.specs.State.{write_to}
use Rattle.endorsement_policy.specs.Endorsed.{Listed, is_met_by, policy_in, right_orgs}
use Rattle.endorsement_policy.specs.Judge.{plain_after}
use Rattle.endorsement_policy.specs.Membership.{listed_in}
use Rattle.ledger_setting.specs.Amended.{AreBlocks, IsPutBy}
use Rattle.ledger_setting.specs.Rule.{table_of}

-- a call of this chaincode that puts this value at this key, on which right tags of those who stand behind a chain satisfy the policy that the
-- chaincode has there
pub record IsOwnCall (listed : Listed) (name key value : Bytes) (before : Chain) (t : Placed) : Type 0 where
  pub call : Call
  pub proposed : t.envelope.payload.proposal ≡ proposal.Call call
  pub chaincode : call.chaincode ≡ name
  pub put : write_to t.envelope.payload.writes key ≡ Some (Some value)
  pub met : is_met_by (right_orgs (listed_in listed (plain_after before)).orgs t.envelope)
      (policy_in (listed_in listed (plain_after before)) (plain_after before) name) ≡ true

-- so each value below the name of a chaincode was put, in a chain with the table's flags under rules 2
abbrev pub AreOwned : Listed → Type 0
AreOwned listed =
    listed.edition ≡ Second → (chain : Chain) → AreBlocks chain → AreFlagsBy (table_of listed) [] chain →
    (name rest value : Bytes) → IsName name → get (plain_after chain) (name ++ 47 ∷ rest) ≡ Some value →
    IsPutBy (IsOwnCall listed name (name ++ 47 ∷ rest) value) chain (name ++ 47 ∷ rest) value
