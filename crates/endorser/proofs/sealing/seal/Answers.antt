use Rattle.std.proofs.Common.{◌≡◌, IfOk, subst}
use Rattle.ledger_model.specs.Views.{values_of}
use Rattle.endorsement_policy.specs.Endorsed.{seal_of}
use Rattle.endorser.proofs.sealing.seal.Goals as goal

pub returns : goal.returns
returns c =
    subst (λ m. IfOk c.seal_in.result (λ e. e ≡ seal_of c.args.rules.now c.args.signers.now (values_of m) c.args.org.now c.args.payload.now)) c.map.ensures
    c.seal_in.ensures
