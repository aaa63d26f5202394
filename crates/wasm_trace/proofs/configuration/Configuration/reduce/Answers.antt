use Rattle.std.proofs.Common.{ap, ◌∙◌, subst}
use Rattle.std.proofs.lemmas.Result.{IfOk-weaker}
use Rattle.wasm_meaning.specs.Program.{program_of}
use Rattle.wasm_trace.specs.declared.parts.Act.TheVariants as act
use Rattle.wasm_trace.specs.declared.parts.Front.{Front}
use Rattle.wasm_trace.specs.View.{vals, stack_of, plain_of, layers, world, out_of, IsFree}
use Rattle.wasm_trace.proofs.Executing.{reduce_front, is_from, acted, rests_by, rests_going, rests_fuel}
use Rattle.wasm_trace.proofs.configuration.Configuration.reduce.Goals as goal

pub returns-in-Branch-clause-goes : goal.returns-in-Branch-clause-goes
returns-in-Branch-clause-goes g c =
    let p = program_of c.args.valid.now (g.H.Host.answers c.args.host.now) in
    let r = g.H.Host.records c.args.host.now in
    IfOk-weaker c.branch-self.result _ _ (λ way h. is_from _ _ way _ (reduce_front p c.args.self.now r _ c.in-Branch.is) (h r)) c.branch-self.ensures.goes

pub returns-in-Set-clause-goes : goal.returns-in-Set-clause-goes
returns-in-Set-clause-goes g c =
    let m = c.args.self.now in
    let p = program_of c.args.valid.now (g.H.Host.answers c.args.host.now) in
    let r = g.H.Host.records c.args.host.now in
    is_from _ _ c.turn.result _
    (reduce_front p m r _ c.in-Set.is ∙
    ap (out_of (layers m.levels.items) m.fuel (vals m.locals.items) (world m r)) (c.set_local-turn.ensures p m.fuel (world m r) (plain_of m.code.now)) ∙
    acted (layers m.levels.items) m.fuel m (record m { stack = c.set_local-turn.new.stack; locals = c.set_local-turn.new.locals }) r r
    (act.Become c.set_local-turn.result) (stack_of c.set_local-turn.new.stack.items) (plain_of m.code.now) tt) (c.turn.ensures.goes r)

pub returns-in_ok-enter_block-in-Body-clause-goes : goal.returns-in_ok-enter_block-in-Body-clause-goes
returns-in_ok-enter_block-in-Body-clause-goes g c =
    let p = program_of c.args.valid.now (g.H.Host.answers c.args.host.now) in
    let r = g.H.Host.records c.args.host.now in
    reduce_front p c.args.self.now r _ c.in-Body.is ∙ c.in_ok-enter_block-in-Body.ensures.goes r

pub returns-in-Again-clause-goes : goal.returns-in-Again-clause-goes
returns-in-Again-clause-goes g c =
    let p = program_of c.args.valid.now (g.H.Host.answers c.args.host.now) in
    let r = g.H.Host.records c.args.host.now in
    IfOk-weaker c.again.result _ _ (λ way h. is_from _ _ way _ (reduce_front p c.args.self.now r _ c.in-Again.is) (h r)) c.again.ensures.goes

pub returns-in-Invoke-clause-goes : goal.returns-in-Invoke-clause-goes
returns-in-Invoke-clause-goes g c =
    let p = program_of c.args.valid.now (g.H.Host.answers c.args.host.now) in
    let r = g.H.Host.records c.args.host.now in
    IfOk-weaker c.invoke.result _ _ (λ way h. is_from _ _ way _ (reduce_front p c.args.self.now r _ c.in-Invoke.is) (h r)) c.invoke.ensures.goes

pub returns-in-Trap-clause-goes : goal.returns-in-Trap-clause-goes
returns-in-Trap-clause-goes g c =
    let p = program_of c.args.valid.now (g.H.Host.answers c.args.host.now) in
    let r = g.H.Host.records c.args.host.now in
    is_from _ _ c.trap.result _ (reduce_front p c.args.self.now r _ c.in-Trap.is) (c.trap.ensures.goes r)

pub returns-in-Branch-clause-rests : goal.returns-in-Branch-clause-rests
returns-in-Branch-clause-rests g c =
    IfOk-weaker c.branch-self.result _ _ (λ way h. rests_going c.args.self.now c.branch-self.new.self (g.H.Host.records c.args.host.now) way h)
    c.branch-self.ensures.going

pub returns-in-Again-clause-rests : goal.returns-in-Again-clause-rests
returns-in-Again-clause-rests g c =
    IfOk-weaker c.again.result _ _ (λ way h. rests_by c.args.self.now c.again.new.self (g.H.Host.records c.args.host.now) way h) c.again.ensures.spends

pub returns-in-Invoke-clause-rests : goal.returns-in-Invoke-clause-rests
returns-in-Invoke-clause-rests g c =
    IfOk-weaker c.invoke.result _ _ (λ way h. rests_going c.args.self.now c.invoke.new.self (g.H.Host.records c.args.host.now) way h) c.invoke.ensures.going

pub returns-in-Trap-clause-rests : goal.returns-in-Trap-clause-rests
returns-in-Trap-clause-rests g c =
    rests_fuel c.args.self.now c.trap.new.self (g.H.Host.records c.args.host.now) c.trap.result c.trap.ensures.fuel

pub returns-in-Nothing-clause-free : goal.returns-in-Nothing-clause-free
returns-in-Nothing-clause-free g c = λ h.
    c.next.ensures.free (subst (λ (fr : Front). IsFree fr c.args.self.now.code.now) c.in-Nothing.is h)

pub returns-in-Again-clause-free : goal.returns-in-Again-clause-free
returns-in-Again-clause-free g c = λ h. absurd (subst (λ (fr : Front). IsFree fr c.args.self.now.code.now) c.in-Again.is h)
