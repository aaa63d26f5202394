use Rattle.std.proofs.Common.{ap, ◌∙◌}
use Rattle.wasm_trace.specs.Reduction.{conf, values}
use Rattle.wasm_trace.specs.View.{vals, stack_of, plain_of, layers, world, before, outward, step_of}
use Rattle.wasm_trace.proofs.Stepping.{out_to, out_spent, bad}
use Rattle.wasm_trace.proofs.configuration.Configuration.turn.Goals as goal

pub returns-in-On-clause-goes : goal.returns-in-On-clause-goes
returns-in-On-clause-goes g c = λ records.
    let m = c.args.self.now in
    ap (λ t. outward m records (step_of t m.fuel (vals m.locals.items) (world m records) (stack_of m.stack.items) (plain_of m.code.now))) c.in-On.is ∙
    out_to (layers m.levels.items) m.fuel (vals m.locals.items) (world m records)
    (conf m.fuel (vals m.locals.items) (world m records) (values (stack_of m.stack.items) (before c.in-On.front (plain_of m.code.now))))

pub returns-in-Spent-clause-goes : goal.returns-in-Spent-clause-goes
returns-in-Spent-clause-goes g c = λ records.
    let m = c.args.self.now in
    ap (λ t. outward m records (step_of t m.fuel (vals m.locals.items) (world m records) (stack_of m.stack.items) (plain_of m.code.now))) c.in-Spent.is ∙
    out_spent (layers m.levels.items) m.fuel (vals m.locals.items) (world m records)

pub returns-in-Stuck-clause-goes : goal.returns-in-Stuck-clause-goes
returns-in-Stuck-clause-goes g c = λ records.
    let m = c.args.self.now in
    bad (layers m.levels.items) m.fuel (vals m.locals.items) (world m records) _
    (ap (λ t. outward m records (step_of t m.fuel (vals m.locals.items) (world m records) (stack_of m.stack.items) (plain_of m.code.now))) c.in-Stuck.is)
