use Rattle.std.proofs.Common.{◌≡◌, drop}
use Rattle.wasm_typing.specs.ModuleRules.{invoke_in}
use Rattle.wasm_typing.proofs.exports.invoke_in.Given as goal

abbrev pub invariant-loop-export : goal.invariant-loop-export
invariant-loop-export l = invoke_in (drop l.export-index l.exports) ≡ invoke_in l.exports
