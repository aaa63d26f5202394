use Rattle.std.proofs.Common.{IfOk, IfErr, subst}
use Rattle.ledger_model.specs.Chain.{history}
use Rattle.ledger_model.specs.State.{state}
use Rattle.world_state.proofs.Keeping.{of_entries}
use Rattle.endorser.specs.Endorsing.{endorsing_of, IsEndorsedIn}
use Rattle.endorser.specs.Rechecks.{IsRecheckRefused}
use Rattle.endorser.proofs.endorsing.Endorser.endorse_payload.Goals as goal

pub returns-clause-endorsed : goal.returns-clause-endorsed
returns-clause-endorsed c =
    subst (λ m. IfOk c.endorse_payload_behind.result (λ tag. IsEndorsedIn (endorsing_of c.args.self.now) m c.args.payload.now tag))
    (of_entries (state (history c.args.newest.now))) c.endorse_payload_behind.ensures.endorsed

pub returns-clause-refused : goal.returns-clause-refused
returns-clause-refused c =
    subst (λ m. IfErr c.endorse_payload_behind.result (λ r. IsRecheckRefused m c.args.payload.now r)) (of_entries (state (history c.args.newest.now)))
    c.endorse_payload_behind.ensures.refused
