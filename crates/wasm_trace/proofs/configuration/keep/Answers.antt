use Rattle.wasm_trace.proofs.Stepping.{kept_one}
use Rattle.wasm_trace.proofs.configuration.keep.Goals as goal

pub returns-in_ok-push-in-Some-pop : goal.returns-in_ok-push-in-Some-pop
returns-in_ok-push-in-Some-pop c =
    kept_one c.args.leaves c.in-Some.field-0 c.args.stack.now.items c.pop.new.self.items c.args.before.items c.push.new.self.items c.in-Some-pop.value
    c.in-Some.is c.in-Some-pop.ensures.items c.in_ok-push-in-Some-pop.ensures.items
