use Rattle.std.proofs.Common.{cond, ap, ◌∙◌}
use Rattle.wasm_trace.specs.Reduction.{Stuck, at}
use Rattle.wasm_trace.specs.View.{vals, stack_of}
use Rattle.wasm_trace.proofs.variables.set_global.Goals as goal

pub returns-then-replace : goal.returns-then-replace
returns-then-replace g c = λ p f l memory records i.
    c.replace.ensures (λ gs s. at f l (record { memory = memory; globals = gs; records = records }) s i) ∙
    ap (λ b. cond b (at f l (record { memory = memory; globals = vals c.replace.new.slots.items; records = records }) (stack_of c.replace.new.stack.items)
    i) Stuck) c.if-replace.true

pub returns : goal.returns
returns g c = λ p f l memory records i.
    c.replace.ensures (λ gs s. at f l (record { memory = memory; globals = gs; records = records }) s i) ∙
    ap (λ b. cond b (at f l (record { memory = memory; globals = vals c.replace.new.slots.items; records = records }) (stack_of c.replace.new.stack.items)
    i) Stuck) c.if-replace.false
