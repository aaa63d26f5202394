use Rattle.std.proofs.Common.{◌↔◌, drop}
use Rattle.wasm_typing.specs.Breaks.{AnyMissing}
use Rattle.wasm_typing.proofs.labels.Labels.have_all.Given as goal

abbrev pub invariant-loop-label : goal.invariant-loop-label
invariant-loop-label l =
    AnyMissing l.self (drop l.label-index l.labels) ↔ AnyMissing l.self l.labels
