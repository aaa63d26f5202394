use Rattle.std.proofs.Common.{◌≡◌, ◌++◌, drop}
use Rattle.wasm_typing.specs.ModuleRules.{imported_functions}
use Rattle.wasm_typing.proofs.imports.imported_indices.Given as goal

abbrev pub invariant-loop-import : goal.invariant-loop-import
invariant-loop-import l =
    l.indices.items ++ imported_functions (drop l.import-index l.given.imports) ≡ imported_functions l.given.imports
