use Rattle.std.proofs.Common.{◌≡◌, List, None, IfErr, OnOk, String, Global, map, string_bytes, sym, subst}
use Rattle.json_events.specs.Bound.{bound_as, envelope_named}
use Rattle.json_events.specs.declared.action.Action.{Action}
use Rattle.cli_session.specs.Running.{Does, IsNamed, IsUnbound, StopsAt}
use Rattle.cli_session.specs.Stages.{DoesPrint, stage_at}
use Rattle.cli_session.proofs.Steps.{lost_stops}
use Rattle.cli_session.proofs.session.Session.act.Goals as goal

pub returns-in-SubmitEndorsed-clause-does : goal.returns-in-SubmitEndorsed-clause-does
returns-in-SubmitEndorsed-clause-does g c =
    let r = c.submit_endorsed in
    let s = stage_at c.args.self.now.system c.args.self.now.bindings in
    let t = stage_at r.new.self.system r.new.self.bindings in
    let before = c.args.out.now in
    subst (λ (a : Action). OnOk r.result (DoesPrint (Does a) s t before r.new.out)) (sym c.in-SubmitEndorsed.is)
    (subst (λ (ns : List (String Global)). OnOk r.result (DoesPrint (IsNamed (map string_bytes ns)) s t before r.new.out)) c.deref.ensures.value r.ensures.does)

pub returns-in-Begin-clause-stops : goal.returns-in-Begin-clause-stops
returns-in-Begin-clause-stops g c = lost_stops c.begin.result c.args.number _ c.args.out.now c.begin.new.out c.begin.ensures.lost

pub returns-in-Finish-clause-stops : goal.returns-in-Finish-clause-stops
returns-in-Finish-clause-stops g c = lost_stops c.finish.result c.args.number _ c.args.out.now c.finish.new.out c.finish.ensures.lost

pub returns-in-SubmitBytes-clause-stops : goal.returns-in-SubmitBytes-clause-stops
returns-in-SubmitBytes-clause-stops g c = lost_stops c.submit_bytes.result c.args.number _ c.args.out.now c.submit_bytes.new.out c.submit_bytes.ensures.lost

pub returns-in-Take-clause-stops : goal.returns-in-Take-clause-stops
returns-in-Take-clause-stops g c = lost_stops c.step.result c.args.number _ c.args.out.now c.step.new.out c.step.ensures.lost

pub returns-in-Tick-clause-stops : goal.returns-in-Tick-clause-stops
returns-in-Tick-clause-stops g c = lost_stops c.step-in-Tick.result c.args.number _ c.args.out.now c.step-in-Tick.new.out c.step-in-Tick.ensures.lost

pub returns-in-Commit-clause-stops : goal.returns-in-Commit-clause-stops
returns-in-Commit-clause-stops g c = lost_stops c.step-in-Commit.result c.args.number _ c.args.out.now c.step-in-Commit.new.out c.step-in-Commit.ensures.lost

pub returns-in-SubmitEndorsed-clause-stops : goal.returns-in-SubmitEndorsed-clause-stops
returns-in-SubmitEndorsed-clause-stops g c =
    let r = c.submit_endorsed in
    let bindings = c.args.self.now.bindings in
    subst (λ (a : Action). IfErr r.result (StopsAt c.args.number (IsUnbound a bindings) c.args.out.now r.new.out)) (sym c.in-SubmitEndorsed.is)
    (subst (λ (ns : List (String Global)).
    IfErr r.result (StopsAt c.args.number (envelope_named (bound_as bindings) (map string_bytes ns) ≡ None) c.args.out.now r.new.out))
    c.deref.ensures.value r.ensures.stops)
