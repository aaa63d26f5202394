use Rattle.std.proofs.Common.{refl, ◌∙◌, subst}
use Rattle.wasm_meaning.specs.Program.{program_of}
use Rattle.wasm_trace.specs.Standing.{standing, with_records, Goes}
use Rattle.wasm_trace.proofs.Running.{begins, stepped, goes_runs, goes_falls, goes_ends}
use Rattle.wasm_trace.proofs.runs.run_by_reduction.Goals as goal

pub loop-stepper-init : goal.loop-stepper-init
loop-stepper-init g c =
    let m = c.args.valid.now in
    let host = g.H.Host.answers c.args.host.now in
    let records = g.H.Host.records c.args.host.now in
    let b = c.in_ok-stepper.ensures in
    let runs = begins m host records c.args.fuel (standing c.in_ok-stepper.stepper) c.module-module.ensures.valid b in
    (refl, refl, b.valid, b.given, b.ended, runs)

pub returns-in-Some-clause-ends : goal.returns-in-Some-clause-ends
returns-in-Some-clause-ends g c =
    let m = c.args.valid.now in
    let host = g.H.Host.answers c.args.host.now in
    let records = g.H.Host.records c.args.host.now in
    let f = c.args.fuel in
    let i = c.loop-stepper.invariant in
    let s = standing c.loop-stepper.stepper in
    let s' = standing c.step.new.self in
    let r = g.H.Host.records c.loop-stepper.host in
    let r' = g.H.Host.records c.step.new.host in
    let x = with_records s.at r in
    let y = with_records s'.at r' in
    let o = c.in_ok-step.field-0 in
    let e = c.in_ok-step.ensures in
    let goes = stepped m host records f (g.H.Host.answers c.loop-stepper.host) s s' r r' o i.2 i.0 i.3 i.4 e.goes in
    let ended = subst (λ o. Goes (program_of m host) f x y o) c.in-Some.is goes in
    goes_ends m host records f x y c.in-Some.outcome i.5 ended

pub loop-stepper-smaller : goal.loop-stepper-smaller
loop-stepper-smaller g c =
    let m = c.args.valid.now in
    let host = g.H.Host.answers c.args.host.now in
    let records = g.H.Host.records c.args.host.now in
    let f = c.args.fuel in
    let i = c.loop-stepper.invariant in
    let s = standing c.loop-stepper.stepper in
    let s' = standing c.step.new.self in
    let r = g.H.Host.records c.loop-stepper.host in
    let r' = g.H.Host.records c.step.new.host in
    let x = with_records s.at r in
    let y = with_records s'.at r' in
    let o = c.in_ok-step.field-0 in
    let e = c.in_ok-step.ensures in
    let goes = stepped m host records f (g.H.Host.answers c.loop-stepper.host) s s' r r' o i.2 i.0 i.3 i.4 e.goes in
    let on = subst (λ o. Goes (program_of m host) f x y o) c.in-None.is goes in
    goes_falls m host records f x y c.module-module.ensures.valid i.5 on

pub loop-stepper-preserved : goal.loop-stepper-preserved
loop-stepper-preserved g c =
    let m = c.args.valid.now in
    let host = g.H.Host.answers c.args.host.now in
    let records = g.H.Host.records c.args.host.now in
    let f = c.args.fuel in
    let i = c.loop-stepper.invariant in
    let s = standing c.loop-stepper.stepper in
    let s' = standing c.step.new.self in
    let r = g.H.Host.records c.loop-stepper.host in
    let r' = g.H.Host.records c.step.new.host in
    let x = with_records s.at r in
    let y = with_records s'.at r' in
    let o = c.in_ok-step.field-0 in
    let e = c.in_ok-step.ensures in
    let goes = stepped m host records f (g.H.Host.answers c.loop-stepper.host) s s' r r' o i.2 i.0 i.3 i.4 e.goes in
    let on = subst (λ o. Goes (program_of m host) f x y o) c.in-None.is goes in
    let runs = goes_runs m host records f x y c.module-module.ensures.valid i.5 on in
    (e.stays ∙ i.0, e.keeps ∙ i.1, e.valid ∙ i.2, e.given ∙ i.3, e.ends ∙ c.in-None.is, runs)
