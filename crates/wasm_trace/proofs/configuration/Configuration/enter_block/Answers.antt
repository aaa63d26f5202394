use Rattle.std.proofs.Common.{ap, ◌∙◌, refl}
use Rattle.wasm_trace.proofs.Stepping.{entered_label}
use Rattle.wasm_trace.proofs.configuration.Configuration.enter_block.Goals as goal

pub returns-clause-goes : goal.returns-clause-goes
returns-clause-goes g c = λ records.
    entered_label c.args.self.now.levels.items c.push.new.self.items _ c.args.self.now.stack.items c.replace-before.new.dest.items c.replace-before.result.items
    _ _ _ c.args.body.now _ _ _ _ c.in_ok-push.ensures.items refl (ap (λ v. v.items) c.replace-before.ensures.value)
    (ap (λ v. v.items) c.replace-before.ensures.after ∙ c.new.ensures.items) refl
