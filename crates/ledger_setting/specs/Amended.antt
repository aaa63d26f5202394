-- By whom a membership or a definition was put, and how many of a block are VALID.
use Rattle.std.specs.Prelude.{◌≡◌, ℕ, ◌≤◌, Bool, true, false, ◌&&◌, [], ◌∷◌, ◌++◌, Some, bytes_eq, count_by, length, slice_get}
use Rattle.std.specs.FinMap.{get}
use Rattle.std.specs.List.{AllByRecursion}
use Rattle.std.specs.Result.{is_ok}
use Rattle.fab_types.specs.BlockWithin.{IsBlock}
use Rattle.fab_types.specs.Memberships.{membership_key}
use Rattle.fab_types.specs.Proposals.{definition_key}
use Rattle.fab_types.specs.Spelling.{definition_bytes, membership_bytes}
use Rattle.fab_types.specs.declared.proposal.Amend.{Amend}
use Rattle.fab_types.specs.declared.proposal.Upgrade.{Upgrade}
use Rattle.fab_types.specs.declared.proposal.Proposal.{Proposal}
use Rattle.fab_types.specs.declared.proposal.Proposal.TheVariants as proposal
use Rattle.ledger_model.specs.Chain.{Bytes, Chain, Committed, Placed, Valid, history, is_valid}
use Rattle.ledger_model.specs.Judged.{AreFlagsBy, block_of}
use Rattle.ledger_model.specs.State.{state}
use Rattle.policy_language.specs.GoodSets.{is_satisfied}
use Rattle.endorsement_policy.specs.Endorsed.{Listed, org_names, right_orgs}
use Rattle.endorsement_policy.specs.Installed.{names_known, usable_by}
use Rattle.endorsement_policy.specs.Judge.{plain_after}
use Rattle.endorsement_policy.specs.Membership.{is_next, listed_in}
use Rattle.ledger_setting.specs.Rule.{table_of}

-- an upgrade is of a chaincode that has a name, as each within the limits is
abbrev pub IsNamed : Proposal → Type 0
IsNamed (proposal.Call c) = Unit {0}
IsNamed (proposal.Upgrade u) = 1 ≤ length u.chaincode
IsNamed (proposal.Amend a) = Unit {0}

abbrev pub AreNamed : Chain → Type 0
AreNamed chain = AllByRecursion (λ t. IsNamed t.envelope.payload.proposal) (history chain)

-- blocks within the limits, as those of each snapshot are
abbrev pub AreBlocks : Chain → Type 0
AreBlocks chain = AllByRecursion (λ c. IsBlock c.block) chain

-- right tags of those who stand behind a chain suffice for their policy of upgrades and amendments
abbrev pub IsAgreed : Listed → Chain → Placed → Type 0
IsAgreed listed before t =
    is_satisfied (listed_in listed (plain_after before)).upgrade (right_orgs (listed_in listed (plain_after before)).orgs t.envelope) ≡ true

-- an amendment to a membership of these bytes, which is the next behind a chain, and on which those who stand there agreed
pub record IsAmendment (listed : Listed) (value : Bytes) (before : Chain) (t : Placed) : Type 0 where
  pub amend : Amend
  pub proposed : t.envelope.payload.proposal ≡ proposal.Amend amend
  pub put : value ≡ membership_bytes amend.membership
  pub next : is_next listed.installed.orgs (get (plain_after before) membership_key) amend.membership ≡ true
  pub agreed : IsAgreed listed before t

-- an upgrade of a chaincode to a definition of these bytes, which can be used, whose policy is of those who stand behind a chain, if it is open, and
-- on which these agreed
pub record IsUpgrade (listed : Listed) (name value : Bytes) (before : Chain) (t : Placed) : Type 0 where
  pub upgrade : Upgrade
  pub proposed : t.envelope.payload.proposal ≡ proposal.Upgrade upgrade
  pub chaincode : upgrade.chaincode ≡ name
  pub put : value ≡ definition_bytes upgrade.definition
  pub usable : is_ok (usable_by listed.installed upgrade.definition) ≡ true
  pub known : names_known (org_names (listed_in listed (plain_after before)).orgs) upgrade.definition ≡ true
  pub agreed : IsAgreed listed before t

-- the last writer of a key: a VALID transaction of some block of the chain, which is such by the chain before its block
pub record IsPutBy (Is : Chain → Placed → Type 0) (chain : Chain) (key value : Bytes) : Type 0 where
  pub before : Chain
  pub block : Committed
  pub after : Chain
  pub whole : chain ≡ before ++ block ∷ after
  pub place : ℕ
  pub transaction : Placed
  pub stands : slice_get (block_of before block) place ≡ Some transaction
  pub valid : transaction.flag ≡ Valid
  pub last : get (state (history chain)) key ≡ Some (value, transaction.version)
  pub such : Is before transaction

-- so each value at the key of the membership was put, in a chain with the table's flags
abbrev pub AreAmended : Listed → Type 0
AreAmended listed =
    (chain : Chain) → AreNamed chain → AreFlagsBy (table_of listed) [] chain → (value : Bytes) → get (plain_after chain) membership_key ≡ Some value →
    IsPutBy (IsAmendment listed value) chain membership_key value

-- and each value at the key of a chaincode's definition
abbrev pub AreUpgraded : Listed → Type 0
AreUpgraded listed =
    (chain : Chain) → AreFlagsBy (table_of listed) [] chain → (name value : Bytes) → 1 ≤ length name →
    get (plain_after chain) (definition_key name) ≡ Some value → IsPutBy (IsUpgrade listed name value) chain (definition_key name) value

-- ---- how many of a block are VALID

abbrev pub is_amendment : Proposal → Bool
is_amendment (proposal.Call c) = false
is_amendment (proposal.Upgrade u) = false
is_amendment (proposal.Amend a) = true

abbrev pub is_upgrade_of : Bytes → Proposal → Bool
is_upgrade_of name (proposal.Call c) = false
is_upgrade_of name (proposal.Upgrade u) = bytes_eq u.chaincode name
is_upgrade_of name (proposal.Amend a) = false

abbrev pub is_valid_such : (Proposal → Bool) → Placed → Bool
is_valid_such is t = is_valid t.flag && is t.envelope.payload.proposal

-- of the VALID transactions of each block of a chain with the table's flags, one at most is such
abbrev pub IsOnceInABlock : Listed → (Proposal → Bool) → Type 0
IsOnceInABlock listed is =
    (before : Chain) (block : Committed) (after : Chain) → AreFlagsBy (table_of listed) [] (before ++ block ∷ after) →
    count_by (is_valid_such is) (block_of before block) ≤ 1
