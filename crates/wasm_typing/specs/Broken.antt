-- The rule that each fault says is broken.
use Rattle.std.specs.Prelude.{◌≡◌, ◌≢◌, ◌<◌, ◌≤◌, ◌+◌, ◌*◌, ℕ, [], length, Some, None}
use Rattle.wasm_ast.specs.declared.types.ValueType.TheVariants.{I32}
use Rattle.wasm_ast.specs.declared.types.Limits.{Limits}
use Rattle.wasm_ast.specs.declared.module.ImportKind.TheVariants as kind
use Rattle.wasm_ast.specs.declared.module.Import.{Import}
use Rattle.wasm_ast.specs.declared.module.Func.{Func}
use Rattle.wasm_ast.specs.declared.module.Global.{Global}
use Rattle.wasm_ast.specs.declared.module.Export.{Export}
use Rattle.wasm_ast.specs.declared.module.ElementSegment.{ElementSegment}
use Rattle.wasm_ast.specs.declared.module.DataSegment.{DataSegment}
use Rattle.wasm_ast.specs.declared.module.Module.{Module}
use Rattle.wasm_ast.specs.Op.{Const}
use Rattle.wasm_ast.specs.Code.{Code, End, Do}
use Rattle.wasm_typing.specs.declared.fault.ValidateFault.{ValidateFault}
use Rattle.wasm_typing.specs.declared.fault.ValidateFault.TheVariants as fault
use Rattle.wasm_typing.specs.Typing.{Types, at, results}
use Rattle.wasm_typing.specs.ModuleRules.{IsValidImport, IsTable, IsMemory, type_at, type_indices, function_types, function_context, count_of, invoke_of}
use Rattle.wasm_typing.specs.ModuleRules.{invoke_type}
use Rattle.wasm_typing.specs.Breaks.{BreaksIn, BreaksNone}
use Rattle.wasm_typing.specs.Front.{IsFront}

-- some function's body breaks, in some instruction, the rule that a fault names
pub record BrokenBody (e : ValidateFault) (m : Module) : Type 0 where
  pub place : ℕ
  pub function : Func
  pub exists : at m.functions place ≡ Some function
  pub breaks : BreaksIn e (function_context m function) function.body

-- something is named that does not exist
pub data MissingIndex (m : Module) : Type 0 where
  ImportType : (k : ℕ) (i : Import) (t : ℕ) → at m.imports k ≡ Some i → i.kind ≡ kind.Function t → at m.types t ≡ None → MissingIndex m
  FunctionType : (k : ℕ) (f : Func) → at m.functions k ≡ Some f → at m.types f.type_index ≡ None → MissingIndex m
  Exported : (k : ℕ) (e : Export) → at m.exports k ≡ Some e → count_of m e.kind ≤ e.index → MissingIndex m
  ElementTable : (k : ℕ) (e : ElementSegment) → at m.elements k ≡ Some e → at m.tables e.table ≡ None → MissingIndex m
  ElementFunction : (k : ℕ) (e : ElementSegment) (j f : ℕ) → at m.elements k ≡ Some e → at e.functions j ≡ Some f → length (type_indices m) ≤ f → MissingIndex m
  InBody : BrokenBody fault.Index m → MissingIndex m
  DataMemory : (k : ℕ) (d : DataSegment) → at m.data k ≡ Some d → at m.memories d.memory ≡ None → MissingIndex m

-- code is a body of the function: it takes nothing and leaves the function's result
abbrev pub IsBody : Module → Func → Code → Type 0
IsBody m f code =
    Types (function_context m f) code [] (results (type_at m.types f.type_index).result)

-- Some function's body has no typing: neither has a front of it in which each instruction keeps
-- the rules that have a fault of their own. What breaks one of those stands behind that front.
pub record MistypedBody (m : Module) : Type 0 where
  pub place : ℕ
  pub function : Func
  pub exists : at m.functions place ≡ Some function
  pub untyped : ¬ IsBody m function function.body
  pub front : Code
  pub begins : IsFront function.body front
  pub mistyped : ¬ IsBody m function front
  pub keeps : BreaksNone (function_context m function) front

abbrev pub UnlistedImport : Module → Type 0
UnlistedImport m = (k : ℕ) × (i : Import) × (at m.imports k ≡ Some i) × ¬ IsValidImport m.types i

-- two exports have one name
abbrev pub SameName : Module → Type 0
SameName m =
    (j : ℕ) × (k : ℕ) × (d : Export) × (e : Export) × (at m.exports j ≡ Some d) × (at m.exports k ≡ Some e) × (d.name ≡ e.name) × (j ≢ k)

abbrev pub NoEntry : Module → Type 0
NoEntry m = (entry : ℕ) → invoke_of m ≡ Some entry → at (function_types m) entry ≢ Some invoke_type

-- there is more than one table or memory, or one has limits out of order or range
pub data BadLimits (m : Module) : Type 0 where
  Tables : 1 < length m.tables → BadLimits m
  Table : (k : ℕ) (l : Limits) → at m.tables k ≡ Some l → ¬ IsTable l → BadLimits m
  Memories : 1 < length m.memories → BadLimits m
  Memory : (k : ℕ) (l : Limits) → at m.memories k ≡ Some l → ¬ IsMemory l → BadLimits m

-- a body is not one i32 constant
abbrev pub NoPlace : Code → Type 0
NoPlace c = (n : ℕ) → c ≢ Do (Const I32 n) End

-- a global's value is not one constant of its type, or a segment's place not one i32 constant
pub data NotConstant (m : Module) : Type 0 where
  GlobalValue : (k : ℕ) (g : Global) → at m.globals k ≡ Some g → ((n : ℕ) → g.initializer ≢ Do (Const g.global_type.value_type n) End) → NotConstant m
  ElementPlace : (k : ℕ) (e : ElementSegment) → at m.elements k ≡ Some e → NoPlace e.offset → NotConstant m
  DataPlace : (k : ℕ) (d : DataSegment) → at m.data k ≡ Some d → NoPlace d.offset → NotConstant m

-- a segment passes the least size of its table or memory
pub data PassesEnd (m : Module) : Type 0 where
  ElementsPass : (k : ℕ) (e : ElementSegment) (l : Limits) (n : ℕ) → at m.elements k ≡ Some e → at m.tables e.table ≡ Some l → e.offset ≡ Do (Const I32 n) End →
      l.least < n + length e.functions → PassesEnd m
  DataPasses : (k : ℕ) (d : DataSegment) (l : Limits) (n : ℕ) → at m.data k ≡ Some d → at m.memories d.memory ≡ Some l → d.offset ≡ Do (Const I32 n) End →
      65536 * l.least < n + length d.bytes → PassesEnd m

-- want of memory says nothing of the module
abbrev pub Broken : ValidateFault → Module → Type 0
Broken fault.Memory m = Unit {0}
Broken fault.TypeMismatch m = MistypedBody m
Broken fault.Index m = MissingIndex m
Broken fault.ImmutableGlobal m = BrokenBody fault.ImmutableGlobal m
Broken fault.Alignment m = BrokenBody fault.Alignment m
Broken fault.DuplicateExport m = SameName m
Broken fault.Import m = UnlistedImport m
Broken fault.NoInvoke m = NoEntry m
Broken fault.Segment m = PassesEnd m
Broken fault.Initializer m = NotConstant m
Broken fault.Limits m = BadLimits m

-- a module breaks the rule of one fault and of no other
abbrev pub BreaksAlone : ValidateFault → Module → Type 0
BreaksAlone e m = (other : ValidateFault) → Broken other m → other ≢ fault.Memory → other ≡ e
