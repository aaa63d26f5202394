use Rattle.std.proofs.Common.{inl, refl, ◌∙◌, subst}
use Rattle.wasm_meaning.specs.Program.{program_of}
use Rattle.wasm_trace.specs.Standing.{standing, with_records, Goes}
use Rattle.wasm_trace.proofs.Running.{begins, stepped, goes_runs, goes_falls}
use Rattle.cli_lines.proofs.Printing.{nothing_same, on_err, printed_on_ok}
use Rattle.cli_lines.specs.Told.{Prints}
use Rattle.ledger_model.specs.Chain.{Bytes}
use Rattle.cli_show.specs.Tracing.{IsTrace, outcome_text}
use Rattle.cli_show.proofs.Traces.{step_named, traced_begun, traced_none, traced_step, traced_end}
use Rattle.cli_show.proofs.tracing.trace_on.Goals as goal

pub loop-stepper-init : goal.loop-stepper-init
loop-stepper-init g c =
    let m = c.args.chaincode.now.«module» in
    let host = g.H.Host.answers c.args.host.now in
    let records = g.H.Host.records c.args.host.now in
    let fuel = c.args.chaincode.now.fuel in
    let b = c.in_ok-stepper.ensures in
    let s = standing c.in_ok-stepper.stepper in
    record {
      answers = refl;
      valid = b.valid;
      given = b.given;
      ended = b.ended;
      runs = begins m host records fuel s c.module-module.ensures.valid b;
      traced = traced_none m host records fuel c.args.most s c.args.out.now b;
    }

pub returns-in-Some-clause-traces : goal.returns-in-Some-clause-traces
returns-in-Some-clause-traces g c =
    let m = c.args.chaincode.now.«module» in
    let host = g.H.Host.answers c.args.host.now in
    let records = g.H.Host.records c.args.host.now in
    let fuel = c.args.chaincode.now.fuel in
    let i = c.loop-stepper.invariant in
    let s = standing c.loop-stepper.stepper in
    let s' = standing c.step.new.self in
    let r = g.H.Host.records c.loop-stepper.host in
    let r' = g.H.Host.records c.step.new.host in
    let x = with_records s.at r in
    let y = with_records s'.at r' in
    let goes =
    stepped m host records fuel (g.H.Host.answers c.loop-stepper.host) s s' r r' c.in_ok-step.field-0 i.valid i.answers i.given i.ended
    c.in_ok-step.ensures.goes in
    let ends = subst (λ o. Goes (program_of m host) fuel x y o) c.in-Some.is goes in
    let before = c.args.out.now in
    let mid = c.loop-stepper.out in
    let after = c.print_outcome.new.out in
    let o = c.in-Some.outcome in
    printed_on_ok c.print_outcome.result (Prints mid after (outcome_text o))
    ((text : Bytes) × IsTrace m host records fuel c.args.most text × Prints before after text)
    (λ p. traced_end m host records fuel c.args.most x o r' c.loop-stepper.printed before mid after i.traced ends p) c.print_outcome.ensures.prints

pub loop-stepper-smaller : goal.loop-stepper-smaller
loop-stepper-smaller g c =
    let m = c.args.chaincode.now.«module» in
    let host = g.H.Host.answers c.args.host.now in
    let records = g.H.Host.records c.args.host.now in
    let fuel = c.args.chaincode.now.fuel in
    let i = c.loop-stepper.invariant in
    let s = standing c.loop-stepper.stepper in
    let s' = standing c.step.new.self in
    let r = g.H.Host.records c.loop-stepper.host in
    let r' = g.H.Host.records c.step.new.host in
    let x = with_records s.at r in
    let y = with_records s'.at r' in
    let goes =
    stepped m host records fuel (g.H.Host.answers c.loop-stepper.host) s s' r r' c.in_ok-step.field-0 i.valid i.answers i.given i.ended
    c.in_ok-step.ensures.goes in
    let on = subst (λ o. Goes (program_of m host) fuel x y o) c.in-None.is goes in
    goes_falls m host records fuel x y c.module-module.ensures.valid i.runs on

pub loop-stepper-preserved : goal.loop-stepper-preserved
loop-stepper-preserved g c =
    let m = c.args.chaincode.now.«module» in
    let host = g.H.Host.answers c.args.host.now in
    let records = g.H.Host.records c.args.host.now in
    let fuel = c.args.chaincode.now.fuel in
    let i = c.loop-stepper.invariant in
    let s = standing c.loop-stepper.stepper in
    let s' = standing c.step.new.self in
    let r = g.H.Host.records c.loop-stepper.host in
    let r' = g.H.Host.records c.step.new.host in
    let x = with_records s.at r in
    let y = with_records s'.at r' in
    let e = c.in_ok-step.ensures in
    let goes =
    stepped m host records fuel (g.H.Host.answers c.loop-stepper.host) s s' r r' c.in_ok-step.field-0 i.valid i.answers i.given i.ended e.goes in
    let on = subst (λ o. Goes (program_of m host) fuel x y o) c.in-None.is goes in
    let valid = c.module-module.ensures.valid in
    let named = step_named s s' c.in_ok-step.field-0 c.in-None.is e.shows in
    let told = c.in_ok-printed-in-None.ensures.prints in
    record {
      answers = e.stays ∙ i.answers;
      valid = e.valid ∙ i.valid;
      given = e.given ∙ i.given;
      ended = e.ends ∙ c.in-None.is;
      runs = goes_runs m host records fuel x y valid i.runs on;
      traced =
          traced_step m host records fuel c.args.most s s' r r' c.loop-stepper.printed c.in_ok-printed-in-None.printed told.0 c.args.out.now
          c.loop-stepper.out c.print_step.new.out valid i.runs i.traced on named told.1 told.2;
    }

pub returns-in_err-step-clause-begins : goal.returns-in_err-step-clause-begins
returns-in_err-step-clause-begins g c =
    let m = c.args.chaincode.now.«module» in
    let host = g.H.Host.answers c.args.host.now in
    let records = g.H.Host.records c.args.host.now in
    let fuel = c.args.chaincode.now.fuel in
    let s = standing c.loop-stepper.stepper in
    traced_begun m host records fuel c.args.most (with_records s.at (g.H.Host.records c.loop-stepper.host)) c.loop-stepper.printed
    c.args.out.now c.loop-stepper.out c.loop-stepper.out c.from_residual-in_err-step.result c.loop-stepper.invariant.traced
    (on_err c.from_residual-in_err-step.result _ (nothing_same c.loop-stepper.out))

pub returns-in_err-printed-in-None-clause-begins : goal.returns-in_err-printed-in-None-clause-begins
returns-in_err-printed-in-None-clause-begins g c =
    let m = c.args.chaincode.now.«module» in
    let host = g.H.Host.answers c.args.host.now in
    let records = g.H.Host.records c.args.host.now in
    let fuel = c.args.chaincode.now.fuel in
    let s = standing c.loop-stepper.stepper in
    traced_begun m host records fuel c.args.most (with_records s.at (g.H.Host.records c.loop-stepper.host)) c.loop-stepper.printed
    c.args.out.now c.loop-stepper.out c.print_step.new.out c.from_residual-in_err-printed-in-None.result c.loop-stepper.invariant.traced
    (on_err c.from_residual-in_err-printed-in-None.result _ c.in_err-printed-in-None.ensures.nothing)

pub returns-in-Some-clause-begins : goal.returns-in-Some-clause-begins
returns-in-Some-clause-begins g c =
    let m = c.args.chaincode.now.«module» in
    let host = g.H.Host.answers c.args.host.now in
    let records = g.H.Host.records c.args.host.now in
    let fuel = c.args.chaincode.now.fuel in
    let s = standing c.loop-stepper.stepper in
    traced_begun m host records fuel c.args.most (with_records s.at (g.H.Host.records c.loop-stepper.host)) c.loop-stepper.printed
    c.args.out.now c.loop-stepper.out c.print_outcome.new.out c.print_outcome.result c.loop-stepper.invariant.traced c.print_outcome.ensures.nothing

pub returns-in_err-stepper-clause-begins : goal.returns-in_err-stepper-clause-begins
returns-in_err-stepper-clause-begins g c = λ broken. inl (nothing_same c.args.out.now)
