use Rattle.std.proofs.Common.{◌≡◌, ◌++◌, drop, map}
use Rattle.wasm_meaning.specs.Program.{fresh_global}
use Rattle.wasm_trace.specs.View.{vals}
use Rattle.wasm_trace.proofs.configuration.start.fresh_globals.Given as goal

abbrev pub invariant-loop-global : goal.invariant-loop-global
invariant-loop-global l =
    vals l.values.items ++ map fresh_global (drop l.global-index l.globals) ≡ map fresh_global l.globals
