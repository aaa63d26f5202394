use Rattle.std.proofs.Common.{sym, ◌∙◌}
use Rattle.ledger_model.specs.Chain.{history}
use Rattle.ledger_model.proofs.State.{get-state}
use Rattle.host_api.proofs.view.SnapshotView.get.Goals as goal

pub returns : goal.returns
returns c = c.get.ensures ∙ sym (get-state (history c.args.self.now) c.args.key.now)
