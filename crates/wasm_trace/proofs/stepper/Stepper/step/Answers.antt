use Rattle.std.proofs.Common.{◌∙◌, sym, subst}
use Rattle.wasm_meaning.specs.Program.{program_of}
use Rattle.wasm_trace.specs.Standing.{StepsOn, with_records}
use Rattle.wasm_trace.specs.View.{config}
use Rattle.wasm_trace.proofs.Naming.{shows_step, shows_ended}
use Rattle.wasm_trace.proofs.Stepped.{steps_on, none_of}
use Rattle.wasm_trace.proofs.stepper.Stepper.step.Goals as goal

pub returns-clause-goes : goal.returns-clause-goes
returns-clause-goes g c =
    let m = c.args.self.now in
    let p = program_of m.valid.now (g.H.Host.answers c.args.host.now) in
    let r = g.H.Host.records c.args.host.now in
    let r' = g.H.Host.records c.reduce.new.host in
    subst (λ o. StepsOn p m.ended m.given (with_records (config m.configuration (tt {0})) r) (with_records (config c.reduce.new.self (tt {0})) r') o)
    (sym c.outcome_of-self.ensures)
    (steps_on p m.ended m.configuration c.reduce.new.self r r' m.given c.in_ok-flow.flow (none_of m.ended (sym c.is_some.ensures ∙ c.if-is_some.false))
    c.in_ok-flow.ensures.goes c.in_ok-flow.ensures.rests m.within)

pub returns-then-is_some-clause-shows : goal.returns-then-is_some-clause-shows
returns-then-is_some-clause-shows g c =
    shows_ended c.args.self.now.ended (config c.args.self.now.configuration (tt {0})) (config c.args.self.now.configuration (tt {0})).fuel
    (sym c.is_some.ensures ∙ c.if-is_some.true)

pub returns-clause-shows : goal.returns-clause-shows
returns-clause-shows g c =
    shows_step c.args.self.now.configuration c.reduce.new.self c.outcome_of-self.result c.next_name-name.result c.shown-self.result
    c.next_name-name.ensures.names c.next_name-name.ensures.free c.in_ok-flow.ensures.free c.shown-self.ensures.ends
    c.shown-self.ensures.names c.shown-self.ensures.free
