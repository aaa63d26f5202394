use Rattle.std.proofs.Common.{ap, arith, refl, ◌∙◌}
use Rattle.std.proofs.lemmas.Result.{err_from_is_err_and}
use Rattle.json_fields.proofs.Rests.{members_in}
use Rattle.serde_json.specs.View.{items_view, view}
use Rattle.fab_types.specs.declared.proposal.Proposal.TheVariants as proposal
use Rattle.json_events.specs.Spelling.{amend_members, begin_object, call_members, upgrade_members}
use Rattle.json_events.specs.declared.action.Action.TheVariants.{Begin, Finish, SubmitEndorsed, SubmitBytes, Take, Tick, Commit}
use Rattle.json_events.proofs.OneAction.{no_begun_call}
use Rattle.json_events.proofs.line.action_of.Goals as goal

pub returns-in-Some-clause-ok : goal.returns-in-Some-clause-ok
returns-in-Some-clause-ok c =
    let f = c.in-Some.fields in
    rw c.begun.ensures (
      call_members (view f.arg.now) f.chaincode.now f.nonce.now,
      c.in-Some.ensures,
      (view f.arg.now, f.chaincode.now, f.nonce.now, refl, c.in_ok-call.ensures.ok),
    )

pub returns-in-Some-begun_upgrade_fields-clause-ok : goal.returns-in-Some-begun_upgrade_fields-clause-ok
returns-in-Some-begun_upgrade_fields-clause-ok c =
    let f = c.in-Some-begun_upgrade_fields.fields in
    rw c.begun-in-Some-begun_upgrade_fields.ensures (
      upgrade_members f.fuel f.digest.now f.nonce.now f.policy.now f.profile f.chaincode.now,
      c.in-Some-begun_upgrade_fields.ensures,
      (f.fuel, f.digest.now, f.nonce.now, f.policy.now, f.profile, f.chaincode.now, refl, c.in_ok-upgrade.ensures.ok),
    )

pub returns-in-Some-begun_amend_fields-clause-ok : goal.returns-in-Some-begun_amend_fields-clause-ok
returns-in-Some-begun_amend_fields-clause-ok c =
    let f = c.in-Some-begun_amend_fields.fields in
    let ds = items_view f.members.now in
    rw c.begun-in-Some-begun_amend_fields.ensures (
      amend_members ds f.nonce.now f.policy.now f.serial,
      c.in-Some-begun_amend_fields.ensures,
      (ds, f.nonce.now, f.policy.now, f.serial, refl, c.in_ok-amend.ensures.ok),
    )

pub returns-in_err-call-clause-refused : goal.returns-in_err-call-clause-refused
returns-in_err-call-clause-refused c =
    let p = err_from_is_err_and c.from_residual.result c.from_residual.ensures.1 in
    rw (p.1, p.2) (λ real. no_begun_call _ _ _ _ _ _ c.in-Some.ensures (c.in_err-call.ensures.refused real))

pub returns-clause-refused : goal.returns-clause-refused
returns-clause-refused c real (Begin peer seat (proposal.Call call)) h =
    c.in_default.ensures h.2.0 h.2.1 h.2.2 peer seat (h.1 ∙ ap (λ d. begin_object peer seat (members_in d)) h.2.3)
returns-clause-refused c real (Begin peer seat (proposal.Upgrade u)) h =
    c.in_default-begun_upgrade_fields.ensures h.2.0 h.2.1 h.2.2 h.2.3 h.2.4 h.2.5 peer seat (h.1 ∙ ap (λ d. begin_object peer seat (members_in d)) h.2.6)
returns-clause-refused c real (Begin peer seat (proposal.Amend a)) h =
    c.in_default-begun_amend_fields.ensures h.2.0 h.2.1 h.2.2 h.2.3 peer seat (h.1 ∙ ap (λ d. begin_object peer seat (members_in d)) h.2.4)
returns-clause-refused c real (Finish peer seat name) h = grind arith
returns-clause-refused c real (SubmitEndorsed names) h = grind arith
returns-clause-refused c real (SubmitBytes bytes) h = grind arith
returns-clause-refused c real Take h = grind arith
returns-clause-refused c real Tick h = grind arith
returns-clause-refused c real (Commit peer) h = grind arith
