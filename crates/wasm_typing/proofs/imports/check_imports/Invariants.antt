use Rattle.std.proofs.Common.{◌≡◌, ◌<◌, ◌++◌, ℕ, Some, drop}
use Rattle.wasm_ast.specs.declared.module.Import.{Import}
use Rattle.wasm_typing.specs.Typing.{at}
use Rattle.wasm_typing.specs.HostCalls.{host_calls}
use Rattle.wasm_typing.specs.ModuleRules.{IsValidImport}
use Rattle.wasm_typing.proofs.imports.check_imports.Given as goal

abbrev pub invariant-loop-import : goal.invariant-loop-import
invariant-loop-import l =
    record {
      calls : l.calls.items ++ host_calls (drop l.import-index l.given.imports) ≡ host_calls l.given.imports;
      imports : (k : ℕ) → k < l.import-index →
          (i : Import) → at l.given.imports k ≡ Some i → IsValidImport l.given.types i;
    }
