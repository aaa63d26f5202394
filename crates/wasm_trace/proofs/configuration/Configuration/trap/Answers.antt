use Rattle.std.proofs.Common.{ap, refl}
use Rattle.wasm_trace.specs.View.{layer_of, layers, vals, world, plain_of}
use Rattle.wasm_trace.proofs.Stepping.{not_empty, is_empty, trap_after, trap_before, trap_label, trap_frame}
use Rattle.wasm_trace.proofs.configuration.Configuration.trap.Goals as goal

pub returns-then-not-is_empty-clause-goes : goal.returns-then-not-is_empty-clause-goes
returns-then-not-is_empty-clause-goes g c = λ records.
    trap_after (layers c.args.self.now.levels.items) c.args.self.now.fuel (vals c.args.self.now.locals.items) (world c.args.self.now records)
    c.args.self.now.stack.items c.clear.new.self.items c.args.why c.args.self.now.front (plain_of c.args.self.now.code.now)
    (not_empty c.args.self.now.stack.items _ c.args.self.now.stack.ok.0 c.if-not-is_empty.ensures) c.clear.ensures.items c.requires

pub returns-then-not-is_empty-2-clause-goes : goal.returns-then-not-is_empty-2-clause-goes
returns-then-not-is_empty-2-clause-goes g c = λ records.
    trap_before (layers c.args.self.now.levels.items) c.args.self.now.fuel (vals c.args.self.now.locals.items) (world c.args.self.now records)
    c.args.self.now.stack.items c.args.self.now.code.now c.args.why c.args.self.now.front
    (is_empty c.args.self.now.stack.items _ c.args.self.now.stack.ok.0 c.if-not-is_empty.ensures)
    (not_empty c.args.self.now.code.now _ refl c.if-not-is_empty-2.ensures) c.requires

pub returns-in-Block-clause-goes : goal.returns-in-Block-clause-goes
returns-in-Block-clause-goes g c = λ records.
    trap_label c.args.self.now.levels.items c.pop.new.self.items c.in-Some.level c.in-Block.before.items c.args.self.now.stack.items _ _
    c.args.self.now.code.now c.in-Block.after.now c.args.why c.args.self.now.front _ _ _ c.in-Some.ensures.items (ap layer_of c.in-Block.is)
    (is_empty c.args.self.now.stack.items _ c.args.self.now.stack.ok.0 c.if-not-is_empty.ensures)
    (is_empty c.args.self.now.code.now _ refl c.if-not-is_empty-2.ensures) c.requires

pub returns-in-Loop-clause-goes : goal.returns-in-Loop-clause-goes
returns-in-Loop-clause-goes g c = λ records.
    trap_label c.args.self.now.levels.items c.pop.new.self.items c.in-Some.level c.in-Loop.before.items c.args.self.now.stack.items _ _ c.args.self.now.code.now
    c.in-Loop.after.now c.args.why c.args.self.now.front _ _ _ c.in-Some.ensures.items (ap layer_of c.in-Loop.is)
    (is_empty c.args.self.now.stack.items _ c.args.self.now.stack.ok.0 c.if-not-is_empty.ensures)
    (is_empty c.args.self.now.code.now _ refl c.if-not-is_empty-2.ensures) c.requires

pub returns-in-Frame-clause-goes : goal.returns-in-Frame-clause-goes
returns-in-Frame-clause-goes g c = λ records.
    trap_frame c.args.self.now.levels.items c.pop.new.self.items c.in-Some.level c.in-Frame.before.items c.args.self.now.stack.items _ _
    c.args.self.now.code.now c.in-Frame.after.now c.args.why c.args.self.now.front _ _ _ c.in-Some.ensures.items (ap layer_of c.in-Frame.is)
    (is_empty c.args.self.now.stack.items _ c.args.self.now.stack.ok.0 c.if-not-is_empty.ensures)
    (is_empty c.args.self.now.code.now _ refl c.if-not-is_empty-2.ensures) c.requires
