use Rattle.std.proofs.Common.{◌≡◌, ◌∙◌, Bool, Some, None, true, ap, sym, subst, if◌then◌else◌}
use Rattle.fab_types.specs.declared.envelope.Endorsement.{Endorsement}
use Rattle.ledger_model.specs.Chain.{Chain, history}
use Rattle.ledger_model.specs.State.{state}
use Rattle.ledger_model.specs.Views.{values_of}
use Rattle.mvcc_validate.specs.Current.{is_current}
use Rattle.endorsement_policy.specs.Endorsed.{seal_of}
use Rattle.fabric_core.proofs.peer.Peer.endorsement.Goals as goal

pub returns-in_ok-endorsement-in-Ok : goal.returns-in_ok-endorsement-in-Ok
returns-in_ok-endorsement-in-Ok c =
    let p = c.args.payload.now in
    let now = state (history c.args.self.now.snapshot.value) in
    let tag = seal_of c.args.rules.now c.args.signers.now (values_of now) c.args.self.now.org p in
    let current : is_current now p ≡ true =
    subst (λ (newest : Chain). is_current (state (history newest)) p ≡ true) c.deref-newest.ensures c.in-Ok.ensures.current in
    let sealed =
    c.in_ok-endorsement-in-Ok.ensures
    ∙ ap (λ (newest : Chain). seal_of c.args.rules.now c.args.signers.now (values_of (state (history newest))) c.args.self.now.org p) c.deref-newest.ensures
    in
    ap (λ (x : Endorsement). Some x) sealed ∙ sym (ap (λ (b : Bool). if b then (Some tag) else None) current)
