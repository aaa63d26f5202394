use Rattle.std.proofs.Common.{◌≡◌, ◌∙◌, Bool, true, false, Some, None, ap, sym, refl, if◌then◌else◌}
use Rattle.std.proofs.lemmas.Option.{same_Some}
use Rattle.fab_types.specs.Payloads.{Payload}
use Rattle.fab_types.specs.declared.envelope.Endorsement.{Endorsement}
use Rattle.ledger_model.specs.Chain.{history}
use Rattle.ledger_model.specs.State.{state}
use Rattle.ledger_model.specs.Views.{values_of}
use Rattle.mvcc_validate.specs.Current.{is_current}
use Rattle.endorsement_policy.specs.Endorsed.{seal_of}
use Rattle.simulator.specs.declared.refusal.SimRefusal.TheVariants as refusal
use Rattle.fabric_core.specs.System.{Endorsed, Refused}
use Rattle.fabric_core.proofs.peer.Peer.endorsed.Goals as goal

with_tag : (b : Bool) (p : Payload) (tag e : Endorsement) → Some e ≡ (if b then (Some tag) else None) →
    Endorsed p e ≡ (if b then (Endorsed p tag) else (Refused refusal.Stale))
with_tag true p tag e is = ap (Endorsed p) (same_Some e tag is)
with_tag false p tag e is = absurd cc

without : (b : Bool) (p : Payload) (tag : Endorsement) → None ≡ (if b then (Some tag) else None) →
    Refused refusal.Stale ≡ (if b then (Endorsed p tag) else (Refused refusal.Stale))
without true p tag is = absurd cc
without false p tag is = refl

pub returns-in-Some : goal.returns-in-Some
returns-in-Some c =
    let p = c.args.payload in
    let now = state (history c.args.self.now.snapshot.value) in
    with_tag (is_current now p) p (seal_of c.args.rules.now c.args.signers.now (values_of now) c.args.self.now.org p) c.in-Some.endorsement
    (sym c.in-Some.is ∙ c.in-Ok.ensures)

pub returns-in-None : goal.returns-in-None
returns-in-None c =
    let p = c.args.payload in
    let now = state (history c.args.self.now.snapshot.value) in
    without (is_current now p) p (seal_of c.args.rules.now c.args.signers.now (values_of now) c.args.self.now.org p) (sym c.in-None.is ∙ c.in-Ok.ensures)
