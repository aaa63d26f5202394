use Rattle.std.proofs.Common.{◌≡◌, ◌-◌, None, Some, sym, ap, ◌∙◌, subst, arith, length, take, drop}
use Rattle.std.specs.Prelude.{option_map}
use Rattle.std.proofs.lemmas.Result.{IfOk-weaker}
use Rattle.wasm_typing.specs.HostCalls.{arity}
use Rattle.wasm_trace.specs.Calls.{AreWords, ask_step}
use Rattle.wasm_trace.specs.View.{vals, stack_of, world}
use Rattle.wasm_trace.proofs.Calling.{rest_all, length_drop}
use Rattle.wasm_trace.proofs.Executing.{host_asks, host_wants}
use Rattle.wasm_trace.proofs.configuration.Configuration.call_host.Goals as goal

pub returns-in-None-clause-becomes : goal.returns-in-None-clause-becomes
returns-in-None-clause-becomes g c = λ p e i.
    let m = c.args.self.now in
    let lower = c.len-2.result - c.arity-count.result in
    let slice = rest_all lower c.deref.result.now ∙ ap (drop lower) c.deref.ensures.value in
    let words : AreWords g.H.Host.Records (vals (drop lower m.stack.items)) None =
    subst (λ vs. AreWords g.H.Host.Records (vals vs) None) slice
    (subst (λ o. AreWords g.H.Host.Records (vals (take (length c.deref.result.now - lower) (drop lower c.deref.result.now))) (option_map (λ v. v.items) o))
    c.in-None.is c.in_ok-words_of.ensures.words) in
    let h = length_drop lower m.stack.items in
    let count : length (drop lower m.stack.items) ≡ arity c.args.which =
    omega (arith, h, c.len-2.ensures, c.len.ensures, m.stack.ok.0, c.arity-count.ensures, c.if-len-count.false) in
    host_wants p c.args.which m.fuel (vals m.locals.items) (world m (g.H.Host.records c.args.host.now)) m.stack.items lower i count words

pub returns-in-Some-clause-becomes : goal.returns-in-Some-clause-becomes
returns-in-Some-clause-becomes g c =
    let m = c.args.self.now in
    let lower = c.len-2.result - c.arity-count.result in
    let slice = rest_all lower c.deref.result.now ∙ ap (drop lower) c.deref.ensures.value in
    let words : AreWords g.H.Host.Records (vals (drop lower m.stack.items)) (Some c.in-Some.args.items) =
    subst (λ vs. AreWords g.H.Host.Records (vals vs) (Some c.in-Some.args.items)) slice
    (subst (λ o. AreWords g.H.Host.Records (vals (take (length c.deref.result.now - lower) (drop lower c.deref.result.now))) (option_map (λ v. v.items) o))
    c.in-Some.is c.in_ok-words_of.ensures.words) in
    let h = length_drop lower m.stack.items in
    let count : length (drop lower m.stack.items) ≡ arity c.args.which =
    omega (arith, h, c.len-2.ensures, c.len.ensures, m.stack.ok.0, c.arity-count.ensures, c.if-len-count.false) in
    let w = world m (g.H.Host.records c.args.host.now) in
    let l = vals m.locals.items in
    let answers = g.H.Host.answers c.args.host.now in
    IfOk-weaker c.ask.result _ _
    (λ t k p e i. host_asks p c.args.which m.fuel l w m.stack.items lower c.in-Some.args.items i count words ∙
    ap (λ a. ask_step a c.args.which c.in-Some.args.items m.fuel l w (stack_of (take lower m.stack.items)) i) e ∙
    ap (λ vs. ask_step answers c.args.which c.in-Some.args.items m.fuel l w (stack_of vs) i) (sym c.truncate.ensures.items) ∙
    ap (λ ns. ask_step answers c.args.which ns m.fuel l w (stack_of c.truncate.new.self.items) i) (sym c.deref-in-Some.ensures.value) ∙ k i)
    c.ask.ensures.becomes
