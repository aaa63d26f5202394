use Rattle.std.proofs.Common.{sym, ap, ◌∙◌}
use Rattle.std.specs.Prelude.{slice_get, option_map}
use Rattle.wasm_trace.specs.View.{val_of, vals}
use Rattle.wasm_trace.proofs.Taking.{replaced}
use Rattle.wasm_trace.proofs.variables.replace.Goals as goal

pub returns-else-not-are_same : goal.returns-else-not-are_same
returns-else-not-are_same g c = λ go.
    replaced c.args.k c.args.stack.now.items c.pop.new.self.items c.args.slots.now.items c.in-Some.value c.in-Some-read.old go c.in-Some.ensures.items
    (ap (λ ls. slice_get (vals ls) c.args.k) (sym c.deref.ensures.value) ∙ c.read.ensures ∙ ap (option_map val_of) c.in-Some-read.is)
    (sym c.are_same.ensures ∙ c.if-not-are_same.false)
