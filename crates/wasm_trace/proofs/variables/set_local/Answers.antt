use Rattle.std.proofs.Common.{cond, ap, ◌∙◌}
use Rattle.wasm_trace.specs.Reduction.{Stuck, at}
use Rattle.wasm_trace.specs.View.{vals, stack_of}
use Rattle.wasm_trace.proofs.variables.set_local.Goals as goal

pub returns-then-replace : goal.returns-then-replace
returns-then-replace g c = λ p f w i.
    c.replace.ensures (λ ls s. at f ls w s i) ∙
    ap (λ b. cond b (at f (vals c.replace.new.slots.items) w (stack_of c.replace.new.stack.items) i) Stuck) c.if-replace.true

pub returns : goal.returns
returns g c = λ p f w i.
    c.replace.ensures (λ ls s. at f ls w s i) ∙
    ap (λ b. cond b (at f (vals c.replace.new.slots.items) w (stack_of c.replace.new.stack.items) i) Stuck) c.if-replace.false
