use Rattle.std.proofs.Common.{◌≡◌, true, OnOk, IfErr, subst}
use Rattle.ledger_model.specs.Chain.{history}
use Rattle.ledger_model.specs.State.{state}
use Rattle.world_state.proofs.Keeping.{of_entries}
use Rattle.mvcc_validate.specs.Current.{is_current}
use Rattle.endorser.specs.Rechecks.{IsRecheckRefused}
use Rattle.endorser.proofs.rechecking.recheck.Goals as goal

pub returns-clause-current : goal.returns-clause-current
returns-clause-current c =
    subst (λ m. OnOk c.recheck_behind.result (is_current m c.args.payload.now ≡ true)) (of_entries (state (history c.args.snapshot.now)))
    c.recheck_behind.ensures.current

pub returns-clause-refused : goal.returns-clause-refused
returns-clause-refused c =
    subst (λ m. IfErr c.recheck_behind.result (λ r. IsRecheckRefused m c.args.payload.now r)) (of_entries (state (history c.args.snapshot.now)))
    c.recheck_behind.ensures.refused
