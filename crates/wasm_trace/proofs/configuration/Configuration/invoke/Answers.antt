use Rattle.std.proofs.Common.{◌++◌, ◌-◌, length, take, drop, ap, ◌∙◌, arith}
use Rattle.wasm_meaning.specs.Values.{zeros}
use Rattle.wasm_trace.specs.Context.{InFrame, frames}
use Rattle.wasm_trace.specs.View.{vals, stack_of, plain_of, layers, world}
use Rattle.wasm_trace.proofs.Calling.{too_few, rest_all, too_deep, framed}
use Rattle.wasm_trace.proofs.configuration.Configuration.invoke.Goals as goal

pub returns-then-len-count-clause-goes : goal.returns-then-len-count-clause-goes
returns-then-len-count-clause-goes g c = λ records.
    let m = c.args.self.now in
    too_few (layers m.levels.items) (frames (layers m.levels.items))
    (record { type = c.args.function_type.now; locals = c.args.function.now.locals; body = c.args.function.now.body }) m.stack.items m.fuel
    (vals m.locals.items) (world m records) (plain_of m.code.now)
    (omega (arith, c.if-len-count.true, c.len.ensures, m.stack.ok.0, c.len-count.ensures.exact))

pub returns-then-frames-ge-GREATEST_DEPTH-clause-goes : goal.returns-then-frames-ge-GREATEST_DEPTH-clause-goes
returns-then-frames-ge-GREATEST_DEPTH-clause-goes g c = λ records.
    let m = c.args.self.now in
    too_deep (layers m.levels.items) (frames (layers m.levels.items)) c.len-count.result (c.len-2.result - c.len-count.result)
    (record { type = c.args.function_type.now; locals = c.args.function.now.locals; body = c.args.function.now.body }) m.stack.items
    c.truncate.new.self.items m.fuel (vals m.locals.items) (world m records) (plain_of m.code.now) c.len-count.ensures.exact
    (omega (arith, c.if-len-count.false, c.len.ensures, m.stack.ok.0)) (ap (λ n. n - c.len-count.result) (c.len-2.ensures ∙ m.stack.ok.0))
    (omega (arith, c.if-frames-ge-GREATEST_DEPTH.true, c.frames.ensures ∙ ap (λ ms. frames (layers ms)) c.deref.ensures.value)) c.truncate.ensures.items

pub returns-clause-goes : goal.returns-clause-goes
returns-clause-goes g c = λ records.
    let m = c.args.self.now in
    framed m.levels.items c.push.new.self.items _ (frames (layers m.levels.items)) c.len-count.result (c.len-2.result - c.len-count.result)
    (record { type = c.args.function_type.now; locals = c.args.function.now.locals; body = c.args.function.now.body }) m.stack.items
    c.replace-before.new.dest.items c.replace-outer.new.dest.items c.items.result.now m.fuel (vals m.locals.items) (world m records) (plain_of m.code.now)
    c.len-count.ensures.exact (omega (arith, c.if-len-count.false, c.len.ensures, m.stack.ok.0))
    (ap (λ n. n - c.len-count.result) (c.len-2.ensures ∙ m.stack.ok.0))
    (omega (arith, c.if-frames-ge-GREATEST_DEPTH.false, c.frames.ensures ∙ ap (λ ms. frames (layers ms)) c.deref.ensures.value)) c.in_ok-push.ensures.items
    (ap (λ o. InFrame c.args.function_type.now.result (vals o) (stack_of c.replace-before.result.items) (plain_of m.code.now))
    (ap (λ v. v.items) c.replace-outer.ensures.value) ∙
    ap (λ s. InFrame c.args.function_type.now.result (vals m.locals.items) (stack_of s) (plain_of m.code.now))
    (ap (λ v. v.items) c.replace-before.ensures.value ∙ c.truncate-2.ensures.items))
    (ap (λ v. v.items) c.replace-before.ensures.after ∙ c.new.ensures.items)
    (ap (λ v. vals v.items) c.replace-outer.ensures.after ∙ c.in_ok-add_zeros.ensures ∙
    ap (λ ts. vals c.extend_from_slice.new.self.items ++ zeros ts) c.as_slice.ensures ∙
    ap (λ vs. vals vs ++ zeros c.args.function.now.locals)
    (c.in_ok-extend_from_slice.ensures.items ∙
    ap (λ vs. vs ++ take (length c.deref-2.result.now - (c.len-2.result - c.len-count.result))
    (drop (c.len-2.result - c.len-count.result) c.deref-2.result.now)) c.new-locals.ensures.items ∙
    rest_all (c.len-2.result - c.len-count.result) c.deref-2.result.now ∙ ap (drop (c.len-2.result - c.len-count.result)) c.deref-2.ensures.value))
    c.items.ensures
