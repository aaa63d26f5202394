use Rattle.endorsement_policy.proofs.OneLedger.{one_ledger}
use Rattle.endorsement_policy.proofs.laws.a_signature_is_of_one_ledger.Goals as goal

pub returns : goal.returns
returns c =
    one_ledger c.args.one.now c.args.other.now c.ledger-ledger.ensures.size c.ledger-other_ledger.ensures.size c.organisations-keys.ensures.keys
    c.organisations-other_keys.ensures.keys c.organisations-keys.ensures.installed c.organisations-other_keys.ensures.installed
