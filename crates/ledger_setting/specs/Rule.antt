-- The rules by which a peer judges.
use Rattle.std.specs.Prelude.{List, Bool}
use Rattle.fab_types.specs.Payloads.{Payload}
use Rattle.fab_types.specs.declared.envelope.Endorsement.{Endorsement}
use Rattle.wire.specs.Ids.{id_of}
use Rattle.endorsement_policy.specs.Endorsed.{Listed, is_endorsed, is_right}
use Rattle.endorsement_policy.specs.Membership.{listed_in}
use Rattle.ledger_model.specs.Chain.{Placed}
use Rattle.ledger_model.specs.Judged.{BlockRule, table}
use Rattle.ledger_model.specs.State.{state}
use Rattle.ledger_model.specs.Views.{values_of}

-- the table, where envelopes are endorsed as is judged in the state before the block
abbrev pub table_of : Listed → BlockRule
table_of listed = table listed.edition id_of (λ before. is_endorsed listed (state before))

-- whose tags on a payload are right, by the transactions before its block
abbrev pub RightRule : Type 0
RightRule = List Placed → Payload → Endorsement → Bool

-- those of who stands before the block
abbrev pub right_of : Listed → RightRule
right_of listed before = is_right (listed_in listed (values_of (state before))).orgs
