use Rattle.std.proofs.Common.{◌≡◌, ◌++◌, drop, map}
use Rattle.wasm_meaning.specs.Program.{fresh_global}
use Rattle.wasm_instance.specs.State.{words_of}
use Rattle.wasm_instance.proofs.fresh.fresh_globals.Given as goal

abbrev pub invariant-loop-global : goal.invariant-loop-global
invariant-loop-global l = l.words.items ++ words_of (map fresh_global (drop l.global-index l.globals)) ≡ words_of (map fresh_global l.globals)
