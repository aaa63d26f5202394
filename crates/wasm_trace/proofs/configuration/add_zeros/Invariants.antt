use Rattle.std.proofs.Common.{◌≡◌, ◌++◌, drop}
use Rattle.wasm_meaning.specs.Values.{zeros}
use Rattle.wasm_trace.specs.View.{vals}
use Rattle.wasm_trace.proofs.configuration.add_zeros.Given as goal

abbrev pub invariant-loop-value_type : goal.invariant-loop-value_type
invariant-loop-value_type l =
    vals l.locals.items ++ zeros (drop l.value_type-index l.types) ≡ vals l.initial.locals.items ++ zeros l.types
