-- When a module is valid (Core 1.0, section 3.4), cut to the profile.
use Rattle.std.specs.Prelude.{◌≡◌, ◌<◌, ◌≤◌, ◌+◌, ◌*◌, ◌==◌, ℕ, List, [], ◌∷◌, ◌++◌, map, length, Option, Some, None, IfSome, codes, Bool, true, false}
use Rattle.std.specs.Prelude.{if◌then◌else◌, ◌&&◌}
use Rattle.std.specs.Cmp.Lexicographic.{pointwise}
use Rattle.wasm_ast.specs.declared.types.ValueType.TheVariants.{I32}
use Rattle.wasm_ast.specs.declared.types.FuncType.{FuncType}
use Rattle.wasm_ast.specs.declared.types.GlobalType.{GlobalType}
use Rattle.wasm_ast.specs.declared.types.Limits.{Limits}
use Rattle.wasm_ast.specs.declared.host_call.HostCall.{HostCall}
use Rattle.wasm_ast.specs.declared.module.ImportKind.TheVariants as kind
use Rattle.wasm_ast.specs.declared.module.ExternalKind.{ExternalKind}
use Rattle.wasm_ast.specs.declared.module.ExternalKind.TheVariants as external
use Rattle.wasm_ast.specs.declared.module.Import.{Import}
use Rattle.wasm_ast.specs.declared.module.Func.{Func}
use Rattle.wasm_ast.specs.declared.module.Global.{Global}
use Rattle.wasm_ast.specs.declared.module.Export.{Export}
use Rattle.wasm_ast.specs.declared.module.ElementSegment.{ElementSegment}
use Rattle.wasm_ast.specs.declared.module.DataSegment.{DataSegment}
use Rattle.wasm_ast.specs.declared.module.Module.{Module}
use Rattle.wasm_ast.specs.Types.{words}
pub use Rattle.wasm_ast.specs.Functions.{no_type, type_at}
use Rattle.wasm_ast.specs.Op.{Const}
use Rattle.wasm_ast.specs.Code.{End, Do}
use Rattle.wasm_typing.specs.Typing.{Context, Types, at, under, results}
use Rattle.wasm_typing.specs.HostCalls.{call_type, fabric, call_named}

-- the type indices of imported functions, in order
abbrev pub imported_functions : List Import → List ℕ
imported_functions [] = []
imported_functions (i ∷ is) = elim i.kind [ kind.Function t ↦ t ∷ imported_functions is | _ ↦ imported_functions is ]

-- the type indices of all functions, the imported ones first
abbrev pub type_indices : Module → List ℕ
type_indices m = imported_functions m.imports ++ map (λ (f : Func). f.type_index) m.functions

abbrev pub function_types : Module → List FuncType
function_types m = map (type_at m.types) (type_indices m)

abbrev pub global_types : Module → List GlobalType
global_types m = map (λ (g : Global). g.global_type) m.globals

-- an import is a host call, by its name and with its type
pub record IsValidImport (types : List FuncType) (i : Import) : Type 0 where
  pub call : HostCall
  pub type_index : ℕ
  pub function : i.kind ≡ kind.Function type_index
  pub type : at types type_index ≡ Some (call_type call)
  pub module_name : i.module ≡ fabric
  pub name : call_named i.name ≡ Some call

-- the context of a function's body: a branch out of all blocks returns (section 3.4.1)
abbrev pub function_context : Module → Func → Context
function_context m f =
    let t = type_at m.types f.type_index in
    under t.result (record {
      types = m.types;
      functions = function_types m;
      tables = m.tables;
      memories = m.memories;
      globals = global_types m;
      locals = t.params ++ f.locals;
      labels = [];
      result = t.result;
    })

pub record IsFunction (m : Module) (f : Func) : Type 0 where
  pub type : f.type_index < length m.types
  pub body : Types (function_context m f) f.body [] (results (type_at m.types f.type_index).result)

-- a table's limits (sections 3.2.1 and 3.2.3)
abbrev pub IsTable : Limits → Type 0
IsTable l = IfSome l.greatest (λ g. l.least ≤ g)

-- a memory's limits, in pages of 65,536 bytes (sections 3.2.1 and 3.2.4)
pub record IsMemory (l : Limits) : Type 0 where
  pub addressable : l.least ≤ 65536
  pub ordered : IfSome l.greatest (λ g. l.least ≤ g)
  pub small : IfSome l.greatest (λ g. g ≤ 65536)

-- how many a module has of what an export may name
abbrev pub count_of : Module → ExternalKind → ℕ
count_of m external.Function = length (type_indices m)
count_of m external.Table = length m.tables
count_of m external.Memory = length m.memories
count_of m external.Global = length m.globals

abbrev pub is_function : ExternalKind → Bool
is_function external.Function = true
is_function _ = false

-- the index of the first function that some exports name `invoke`
abbrev pub invoke_in : List Export → Option ℕ
invoke_in [] = None
invoke_in (e ∷ es) = if (is_function e.kind && pointwise ◌==◌ e.name (codes "invoke")) then Some e.index else invoke_in es

-- the index of the function that a module exports as `invoke`
abbrev pub invoke_of : Module → Option ℕ
invoke_of m = invoke_in m.exports

abbrev pub invoke_type : FuncType
invoke_type = record { params = []; result = Some I32 }

-- a global starts as one constant of its type (sections 3.4.4 and 3.3.7)
pub record IsValidGlobal (g : Global) : Type 0 where
  pub word : ℕ
  pub constant : g.initializer ≡ Do (Const g.global_type.value_type word) End
  pub bound : word < words g.global_type.value_type

-- functions that lie in the least size of the table, from one constant on (section 3.4.5)
pub record IsElement (m : Module) (e : ElementSegment) : Type 0 where
  pub table : Limits
  pub exists : at m.tables e.table ≡ Some table
  pub functions : (k f : ℕ) → at e.functions k ≡ Some f → f < length (type_indices m)
  pub offset : ℕ
  pub constant : e.offset ≡ Do (Const I32 offset) End
  pub within : offset + length e.functions ≤ table.least

-- bytes that lie in the least size of the memory, from one constant on (section 3.4.6)
pub record IsData (m : Module) (d : DataSegment) : Type 0 where
  pub memory : Limits
  pub exists : at m.memories d.memory ≡ Some memory
  pub offset : ℕ
  pub constant : d.offset ≡ Do (Const I32 offset) End
  pub within : offset + length d.bytes ≤ 65536 * memory.least

pub record IsValid (m : Module) : Type 0 where
  pub imports : (k : ℕ) (i : Import) → at m.imports k ≡ Some i → IsValidImport m.types i
  pub functions : (k : ℕ) (f : Func) → at m.functions k ≡ Some f → IsFunction m f
  pub one_table : length m.tables ≤ 1
  pub tables : (k : ℕ) (l : Limits) → at m.tables k ≡ Some l → IsTable l
  pub one_memory : length m.memories ≤ 1
  pub memories : (k : ℕ) (l : Limits) → at m.memories k ≡ Some l → IsMemory l
  pub globals : (k : ℕ) (g : Global) → at m.globals k ≡ Some g → IsValidGlobal g
  pub exports : (k : ℕ) (e : Export) → at m.exports k ≡ Some e → e.index < count_of m e.kind
  pub names : (j k : ℕ) (d e : Export) → at m.exports j ≡ Some d → at m.exports k ≡ Some e → d.name ≡ e.name → j ≡ k
  pub entry : ℕ
  pub invokes : invoke_of m ≡ Some entry
  pub entry_type : at (function_types m) entry ≡ Some invoke_type
  pub elements : (k : ℕ) (e : ElementSegment) → at m.elements k ≡ Some e → IsElement m e
  pub segments : (k : ℕ) (d : DataSegment) → at m.data k ≡ Some d → IsData m d
