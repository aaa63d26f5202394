-- The parts of a module that is being read.
use Rattle.std.specs.Prelude.{ℕ, List, []}
use Rattle.wasm_ast.specs.declared.types.FuncType.{FuncType}
use Rattle.wasm_ast.specs.declared.types.Limits.{Limits}
use Rattle.wasm_ast.specs.declared.module.Import.{Import}
use Rattle.wasm_ast.specs.declared.module.Func.{Func}
use Rattle.wasm_ast.specs.declared.module.Global.{Global}
use Rattle.wasm_ast.specs.declared.module.Export.{Export}
use Rattle.wasm_ast.specs.declared.module.ElementSegment.{ElementSegment}
use Rattle.wasm_ast.specs.declared.module.DataSegment.{DataSegment}
use Rattle.wasm_ast.specs.declared.module.Module.{Module}
use Rattle.wasm_decode.specs.declared.sections.Parts.{Parts}

abbrev pub no_module : Module
no_module = record { types = []; imports = []; functions = []; tables = []; memories = []; globals = []; exports = []; elements = []; «data» = [] }

abbrev pub no_parts : Parts
no_parts = record { type_indices = []; «module» = no_module }

-- ---- the parts with another list of a kind

abbrev pub with_types : Parts → List FuncType → Parts
with_types p x = record p { «module» = record p.«module» { types = x } }

abbrev pub with_imports : Parts → List Import → Parts
with_imports p x = record p { «module» = record p.«module» { imports = x } }

abbrev pub with_type_indices : Parts → List ℕ → Parts
with_type_indices p x = record p { type_indices = x }

abbrev pub with_tables : Parts → List Limits → Parts
with_tables p x = record p { «module» = record p.«module» { tables = x } }

abbrev pub with_memories : Parts → List Limits → Parts
with_memories p x = record p { «module» = record p.«module» { memories = x } }

abbrev pub with_globals : Parts → List Global → Parts
with_globals p x = record p { «module» = record p.«module» { globals = x } }

abbrev pub with_exports : Parts → List Export → Parts
with_exports p x = record p { «module» = record p.«module» { exports = x } }

abbrev pub with_elements : Parts → List ElementSegment → Parts
with_elements p x = record p { «module» = record p.«module» { elements = x } }

abbrev pub with_functions : Parts → List Func → Parts
with_functions p x = record p { «module» = record p.«module» { functions = x } }

abbrev pub with_data : Parts → List DataSegment → Parts
with_data p x = record p { «module» = record p.«module» { «data» = x } }
