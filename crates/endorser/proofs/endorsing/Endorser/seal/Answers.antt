use Rattle.std.proofs.Common.{◌≡◌, IfOk, subst}
use Rattle.std.specs.Arc.{arc_value}
use Rattle.org_keys.specs.Signers.{Seeds}
use Rattle.endorsement_policy.specs.Endorsed.{Listed, seal_of}
use Rattle.endorsement_policy.specs.Judge.{plain_in}
use Rattle.endorser.proofs.endorsing.Endorser.seal.Goals as goal

pub returns : goal.returns
returns c =
    let m = plain_in c.args.state.now.entries in
    let org = c.args.self.now.org in
    let payload = c.args.payload.now in
    subst (λ (s : Seeds). IfOk c.seal_in.result (λ e. e ≡ seal_of (arc_value c.args.self.now.rules) s m org payload)) c.deref-2.ensures
    (subst (λ (l : Listed). IfOk c.seal_in.result (λ e. e ≡ seal_of l c.deref-2.result.now m org payload)) c.deref.ensures c.seal_in.ensures)
