use Rattle.std.proofs.Common.{◌≡◌, ◌+◌, drop}
use Rattle.wasm_meaning.specs.Program.{with_functions}
use Rattle.wasm_instance.proofs.fresh.set_functions.Given as goal

abbrev pub invariant-loop-i : goal.invariant-loop-i
invariant-loop-i l = with_functions l.table (l.at + l.i) (drop l.i l.functions) ≡ with_functions l.initial.table l.at l.functions
