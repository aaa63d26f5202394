use Rattle.std.proofs.Common.{◌-◌, ◌∙◌}
use Rattle.wasm_trace.specs.Reduction.{loop_step}
use Rattle.wasm_trace.specs.View.{vals, stack_of, plain_of, layers, world}
use Rattle.wasm_trace.proofs.Stepping.{paid_none, paid_now, out_same}
use Rattle.wasm_trace.proofs.configuration.Configuration.again.Goals as goal

pub returns-then-self-eq0-clause-goes : goal.returns-then-self-eq0-clause-goes
returns-then-self-eq0-clause-goes g c = λ records.
    let m = c.args.self.now in
    paid_none (layers m.levels.items) m.fuel (vals m.locals.items) (world m records)
    (λ f. loop_step c.args.block.now.result c.args.block.now.body f (vals m.locals.items) (world m records) (stack_of m.stack.items) (plain_of m.code.now))
    c.if-self-eq0.true

pub returns-clause-goes : goal.returns-clause-goes
returns-clause-goes g c = λ records.
    let m = c.args.self.now in
    paid_now (layers m.levels.items) m.fuel (vals m.locals.items) (world m records)
    (λ f. loop_step c.args.block.now.result c.args.block.now.body f (vals m.locals.items) (world m records) (stack_of m.stack.items) (plain_of m.code.now))
    c.if-self-eq0.false ∙
    out_same (layers m.levels.items) m.fuel (m.fuel - 1) (vals m.locals.items) (vals m.locals.items) (world m records) (world m records) _ ∙
    c.in_ok-enter_loop.ensures.goes records
