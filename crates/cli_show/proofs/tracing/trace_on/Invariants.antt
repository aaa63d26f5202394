use Rattle.std.proofs.Common.{◌≡◌, None}
use Rattle.wasm_trace.specs.Standing.{standing, with_records}
use Rattle.wasm_trace.proofs.Running.{Runs, measure}
use Rattle.cli_show.proofs.Traces.{Traced}
use Rattle.cli_show.proofs.tracing.trace_on.Given as goal

abbrev pub invariant-loop-stepper : goal.invariant-loop-stepper
invariant-loop-stepper g l =
    let m = l.chaincode.«module» in
    let host = g.H.Host.answers l.fn.host in
    let records = g.H.Host.records l.fn.host in
    let at = with_records (standing l.stepper).at (g.H.Host.records l.host) in
    record {
      answers : g.H.Host.answers l.host ≡ host;
      valid : l.stepper.valid.now ≡ m;
      given : l.stepper.given ≡ l.chaincode.fuel;
      ended : l.stepper.ended ≡ None;
      runs : Runs m host records l.chaincode.fuel at;
      traced : Traced m host records l.chaincode.fuel l.most at l.printed l.fn.out l.out;
    }

abbrev pub decreases-loop-stepper : goal.decreases-loop-stepper
decreases-loop-stepper g l =
    measure l.chaincode.«module» (g.H.Host.answers l.fn.host) (g.H.Host.records l.fn.host) l.chaincode.fuel
    (with_records (standing l.stepper).at (g.H.Host.records l.host))
