use Rattle.std.proofs.Common.{◌≡◌, None}
use Rattle.wasm_trace.specs.Standing.{standing, with_records}
use Rattle.wasm_trace.proofs.Running.{Runs, measure}
use Rattle.wasm_trace.proofs.runs.run_by_reduction.Given as goal

abbrev pub invariant-loop-stepper : goal.invariant-loop-stepper
invariant-loop-stepper g l =
    (g.H.Host.answers l.host ≡ g.H.Host.answers l.fn.host)
    × (g.H.Host.context l.host ≡ g.H.Host.context l.fn.host)
    × (l.stepper.valid.now ≡ l.valid)
    × (l.stepper.given ≡ l.fn.fuel)
    × (l.stepper.ended ≡ None)
    × Runs l.valid (g.H.Host.answers l.fn.host) (g.H.Host.records l.fn.host) l.fn.fuel (with_records (standing l.stepper).at (g.H.Host.records l.host))

abbrev pub decreases-loop-stepper : goal.decreases-loop-stepper
decreases-loop-stepper g l =
    measure l.valid (g.H.Host.answers l.fn.host) (g.H.Host.records l.fn.host) l.fn.fuel (with_records (standing l.stepper).at (g.H.Host.records l.host))
