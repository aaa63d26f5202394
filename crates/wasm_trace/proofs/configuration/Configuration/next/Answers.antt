use Rattle.std.proofs.Common.{◌-◌, refl}
use Rattle.std.proofs.lemmas.Result.{IfOk-weaker}
use Rattle.wasm_meaning.specs.Program.{program_of}
use Rattle.wasm_trace.proofs.Executing.{reduce_end, next_spent, next_acts, no_code, is_from, rests_fuel, rests_spent}
use Rattle.wasm_trace.proofs.configuration.Configuration.next.Goals as goal

pub returns-then-self-eq0-clause-goes : goal.returns-then-self-eq0-clause-goes
returns-then-self-eq0-clause-goes g c =
    let p = program_of c.args.valid.now (g.H.Host.answers c.args.host.now) in
    next_spent p c.args.self.now (g.H.Host.records c.args.host.now) c.in-Some.first.now c.in-Some.rest.now c.requires.nothing c.in-Some.ensures.cases.0
    c.if-self-eq0.true

pub returns-in-None-clause-goes : goal.returns-in-None-clause-goes
returns-in-None-clause-goes g c =
    let p = program_of c.args.valid.now (g.H.Host.answers c.args.host.now) in
    let r = g.H.Host.records c.args.host.now in
    IfOk-weaker c.end.result _ _ (λ way h. is_from _ _ way _ (reduce_end p c.args.self.now r c.requires.nothing (no_code _ c.in-None.ensures.cases)) (h r))
    c.end.ensures.goes

pub returns-in_ok-act-in-Some-clause-goes : goal.returns-in_ok-act-in-Some-clause-goes
returns-in_ok-act-in-Some-clause-goes g c =
    let p = program_of c.args.valid.now (g.H.Host.answers c.args.host.now) in
    let r = g.H.Host.records c.args.host.now in
    let r' = g.H.Host.records c.execute.new.host in
    let m = c.args.self.now in
    IfOk-weaker c.act.result _ _
    (λ way h. is_from _ _ way _
    (next_acts p m (record m { fuel = m.fuel - 1; code = c.in-Some.rest }) c.execute.new.self r r' c.in-Some.first.now c.in-Some.rest.now
    c.in_ok-act-in-Some.act c.requires.nothing c.in-Some.ensures.cases.0 c.if-self-eq0.false refl refl refl refl refl refl c.in_ok-act-in-Some.ensures.does
    c.in_ok-act-in-Some.ensures.jumps c.in_ok-act-in-Some.ensures.stands.0 c.in_ok-act-in-Some.ensures.stands.1) (h r')) c.act.ensures.goes

pub returns-in-None-clause-rests : goal.returns-in-None-clause-rests
returns-in-None-clause-rests g c =
    IfOk-weaker c.end.result _ _ (λ way h. rests_fuel c.args.self.now c.end.new.self (g.H.Host.records c.args.host.now) way c.end.ensures.fuel)
    c.end.ensures.goes

pub returns-in_ok-act-in-Some-clause-rests : goal.returns-in_ok-act-in-Some-clause-rests
returns-in_ok-act-in-Some-clause-rests g c =
    IfOk-weaker c.act.result _ _
    (λ way h. rests_spent c.args.self.now c.act.new.self (g.H.Host.records c.args.host.now) (g.H.Host.records c.execute.new.host) c.in_ok-act-in-Some.act
    way h c.in_ok-act-in-Some.ensures.spent) c.act.ensures.spends
