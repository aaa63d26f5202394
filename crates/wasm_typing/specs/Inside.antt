-- The context that a scope and its labels are.
use Rattle.std.specs.Prelude.{List, map}
use Rattle.wasm_ast.specs.declared.module.Global.{Global}
use Rattle.wasm_ast.specs.Code.{BlockType}
use Rattle.wasm_typing.specs.declared.scope.Scope.{Scope}
use Rattle.wasm_typing.specs.Typing.{Context}
use Rattle.wasm_typing.specs.ModuleRules.{type_at}

abbrev pub context_of : Scope → List BlockType → Context
context_of s labels =
    record {
      types = s.types.now;
      functions = map (type_at s.types.now) s.functions.now;
      tables = s.tables.now;
      memories = s.memories.now;
      globals = map (λ (g : Global). g.global_type) s.globals.now;
      locals = s.locals.now;
      labels = labels;
      result = s.result;
    }
