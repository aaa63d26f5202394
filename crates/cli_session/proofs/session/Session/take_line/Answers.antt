use Rattle.std.proofs.Common.{ℕ, List, inl, inr, refl, sym, ◌∙◌, subst}
use Rattle.json_events.specs.Spelling.{Spells}
use Rattle.cli_session.specs.Running.{Does, IsBadLine, IsLine, IsUnbound}
use Rattle.cli_session.specs.Stages.{stage_at}
use Rattle.cli_session.proofs.Steps.{does_by, stops_by}
use Rattle.cli_session.proofs.session.Session.take_line.Goals as goal

pub returns-in-Ok-read_event-clause-does : goal.returns-in-Ok-read_event-clause-does
returns-in-Ok-read_event-clause-does g c =
    let a = c.in-Ok-read_event.action in
    does_by (Does a) (IsLine c.args.line.now) c.act.result
    (stage_at c.args.self.now.system c.args.self.now.bindings)
    (stage_at c.act.new.self.system c.act.new.self.bindings)
    c.args.out.now c.act.new.out
    (λ told text d. (a, subst (λ (l : List ℕ). Spells l a) c.in-Ok.ensures.cases.0 c.in-Ok-read_event.ensures.ok, d)) c.act.ensures.does

pub returns-in-Ok-read_event-clause-stops : goal.returns-in-Ok-read_event-clause-stops
returns-in-Ok-read_event-clause-stops g c =
    let a = c.in-Ok-read_event.action in
    let bindings = c.args.self.now.bindings in
    let spells = subst (λ (l : List ℕ). Spells l a) c.in-Ok.ensures.cases.0 c.in-Ok-read_event.ensures.ok in
    stops_by c.act.result c.args.number (IsUnbound a bindings) (IsBadLine c.args.line.now bindings) c.args.out.now c.act.new.out
    (λ why. inr (inr (inr (a, spells, why)))) c.act.ensures.stops

pub returns-in-Err-NoForm-clause-stops : goal.returns-in-Err-NoForm-clause-stops
returns-in-Err-NoForm-clause-stops g c =
    let none = c.in-Err-NoForm.ensures.refused (λ h. cc (sym c.in-Err-NoForm.field-0-is ∙ h)) in
    let same = sym c.in-Ok.ensures.cases.0 in
    inr (refl, inr (inr (inl (λ a spells. none a (subst (λ (l : List ℕ). Spells l a) same spells)))), refl)
