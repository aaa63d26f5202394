-- Which bytes spell which global, function, element segment and data segment (Core 1.0, sections 5.5.9 and 5.5.12 to 5.5.14), within the limits of the profile.
use Rattle.std.specs.Prelude.{◌≡◌, ℕ, ◌≤◌, ◌^◌, ◌-◌, List, [], ◌∷◌, ◌++◌, length, map, replicate}
use Rattle.wasm_profile.specs.declared.profile.Profile.{Profile}
use Rattle.grammar.specs.Spelling.{◌⟫◌, IsByte, Repeats}
use Rattle.wasm_bytes.specs.Spelling.{IsU32, IsList, IsSized}
use Rattle.wasm_ast.specs.declared.types.ValueType.{ValueType}
use Rattle.wasm_ast.specs.declared.module.Func.{Func}
use Rattle.wasm_ast.specs.declared.module.Global.{Global}
use Rattle.wasm_ast.specs.declared.module.ElementSegment.{ElementSegment}
use Rattle.wasm_ast.specs.declared.module.DataSegment.{DataSegment}
use Rattle.wasm_decode.specs.TypeSpelling.{IsValueType, IsGlobalType}
use Rattle.wasm_decode.specs.CodeSpelling.{IsExpression}

-- 5.5.9
abbrev pub IsGlobal : Profile → Global → List ℕ → Type 0
IsGlobal profile g = IsGlobalType g.global_type ⟫ IsExpression profile g.initializer

-- 5.5.12, with at most 1,024 functions
abbrev pub IsElementSegment : Profile → ElementSegment → List ℕ → Type 0
IsElementSegment profile e = IsU32 e.table ⟫ IsExpression profile e.offset ⟫ IsList 1024 IsU32 e.functions

-- so many locals of a type
abbrev pub Group : Type 0
Group = ℕ × ValueType

abbrev pub IsGroup : Group → List ℕ → Type 0
IsGroup g = IsU32 g.0 ⟫ IsValueType g.1

-- the types of the locals, one by one
abbrev pub locals_of : List Group → List ValueType
locals_of [] = []
locals_of (g ∷ gs) = replicate g.0 g.1 ++ locals_of gs

-- at most 192 locals, in groups
abbrev pub IsLocals : List ValueType → List ℕ → Type 0
IsLocals locals text = (groups : List Group) × (locals ≡ locals_of groups) × (length locals ≤ 192) × (IsU32 (length groups) ⟫ Repeats IsGroup groups) text

-- 5.5.13, the code of a function: its size, its locals and its body
abbrev pub IsFunctionCode : Profile → Func → List ℕ → Type 0
IsFunctionCode profile f = IsSized (IsLocals f.locals ⟫ IsExpression profile f.body)

-- the code of at most 1,024 functions, whose types are given elsewhere
abbrev pub IsFunctions : Profile → List ℕ → List Func → List ℕ → Type 0
IsFunctions profile type_indices functions text = (map (λ f. f.type_index) functions ≡ type_indices) × IsList 1024 (IsFunctionCode profile) functions text

-- 5.5.14; bytes have no limit of their own: a count is below 2 ^ 32
abbrev pub IsDataSegment : Profile → DataSegment → List ℕ → Type 0
IsDataSegment profile d = IsU32 d.memory ⟫ IsExpression profile d.offset ⟫ IsList (2 ^ 32 - 1) IsByte d.bytes
