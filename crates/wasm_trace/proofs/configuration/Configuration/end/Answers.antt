use Rattle.std.proofs.Common.{sym, ap, ◌∙◌, arith}
use Rattle.wasm_trace.specs.View.{layer_of}
use Rattle.wasm_trace.proofs.Stepping.{end_label, end_frame, end_frame_bad}
use Rattle.wasm_trace.proofs.configuration.Configuration.end.Goals as goal

pub returns-in_ok-put_back-in-Block-clause-goes : goal.returns-in_ok-put_back-in-Block-clause-goes
returns-in_ok-put_back-in-Block-clause-goes g c = λ records.
    end_label c.args.self.now.levels.items c.pop.new.self.items c.in-Some.level c.in-Block.before.items c.args.self.now.stack.items c.put_back.new.stack.items _
    _ c.in-Block.after.now c.args.self.now.front _ _ _ c.in-Some.ensures.items (ap layer_of c.in-Block.is) c.in_ok-put_back-in-Block.ensures c.requires

pub returns-in_ok-put_back-in-Loop-clause-goes : goal.returns-in_ok-put_back-in-Loop-clause-goes
returns-in_ok-put_back-in-Loop-clause-goes g c = λ records.
    end_label c.args.self.now.levels.items c.pop.new.self.items c.in-Some.level c.in-Loop.before.items c.args.self.now.stack.items
    c.put_back-in-Loop.new.stack.items _ _ c.in-Loop.after.now c.args.self.now.front _ _ _ c.in-Some.ensures.items (ap layer_of c.in-Loop.is)
    c.in_ok-put_back-in-Loop.ensures c.requires

pub returns-in_ok-put_back-in-Frame-clause-goes : goal.returns-in_ok-put_back-in-Frame-clause-goes
returns-in_ok-put_back-in-Frame-clause-goes g c = λ records.
    end_frame c.args.self.now.levels.items c.pop.new.self.items c.in-Some.level c.in-Frame.before.items c.args.self.now.stack.items
    c.put_back-in-Frame.new.stack.items _ _ c.in-Frame.after.now c.args.self.now.front _ _ _ c.in-Some.ensures.items (ap layer_of c.in-Frame.is)
    c.in_ok-put_back-in-Frame.ensures c.requires
    (sym c.args.self.now.stack.ok.0 ∙ sym c.len.ensures ∙ omega (arith, c.if-len-count.false) ∙ c.count.ensures)

pub returns-then-len-count-clause-goes : goal.returns-then-len-count-clause-goes
returns-then-len-count-clause-goes g c = λ records.
    end_frame_bad c.args.self.now.levels.items c.pop.new.self.items c.in-Some.level _ c.args.self.now.stack.items _ _ _ _ _ _ c.in-Some.ensures.items
    (ap layer_of c.in-Frame.is) (λ e. c.if-len-count.true (c.len.ensures ∙ c.args.self.now.stack.ok.0 ∙ e ∙ sym c.count.ensures))
