-- Which bytes spell which type (Core 1.0, section 5.3), within the limits of the profile.
use Rattle.std.specs.Prelude.{◌≡◌, ℕ, Bool, true, false, List, Option, Some, None}
use Rattle.grammar.specs.Spelling.{◌⟫◌, IsByte, IsAtMost}
use Rattle.grammar.specs.Table.{IsRowByte, IsByRow}
use Rattle.wasm_bytes.specs.Spelling.{IsU32, IsList}
use Rattle.wasm_ast.specs.Code.{BlockType}
use Rattle.wasm_ast.specs.declared.types.ValueType.{ValueType}
use Rattle.wasm_ast.specs.declared.types.FuncType.{FuncType}
use Rattle.wasm_ast.specs.declared.types.Limits.{Limits}
use Rattle.wasm_ast.specs.declared.types.GlobalType.{GlobalType}
use Rattle.wasm_decode.specs.Tables.{value_type_rows, block_type_rows, flag_rows}

-- 5.3.1
abbrev pub IsValueType : ValueType → List ℕ → Type 0
IsValueType = IsRowByte value_type_rows

-- 5.3.2
abbrev pub IsBlockType : BlockType → List ℕ → Type 0
IsBlockType = IsRowByte block_type_rows

-- a list of at most one type
abbrev pub IsResult : Option ValueType → List ℕ → Type 0
IsResult None = IsU32 0
IsResult (Some t) = IsU32 1 ⟫ IsValueType t

-- 5.3.3, with at most 64 parameters
abbrev pub IsFuncType : FuncType → List ℕ → Type 0
IsFuncType t = IsByte 0x60 ⟫ IsList 64 IsValueType t.params ⟫ IsResult t.result

-- after the byte that says whether there is a greatest size
abbrev pub IsAfterFlag : ℕ → Bool → Limits → List ℕ → Type 0
IsAfterFlag most false l text = (l.greatest ≡ None) × IsAtMost most IsU32 l.least text
IsAfterFlag most true l text = (greatest : ℕ) × (l.greatest ≡ Some greatest) × (IsAtMost most IsU32 l.least ⟫ IsU32 greatest) text

-- 5.3.4, with a least size that is at most so large
abbrev pub IsLimits : ℕ → Limits → List ℕ → Type 0
IsLimits most = IsByRow flag_rows (IsAfterFlag most)

-- 5.3.5, with at most 16 pages
abbrev pub IsMemoryType : Limits → List ℕ → Type 0
IsMemoryType = IsLimits 16

-- 5.3.6, with at most 1,024 entries
abbrev pub IsTableType : Limits → List ℕ → Type 0
IsTableType l = IsByte 0x70 ⟫ IsLimits 1024 l

-- 5.3.7
abbrev pub IsGlobalType : GlobalType → List ℕ → Type 0
IsGlobalType g = IsValueType g.value_type ⟫ IsRowByte flag_rows g.is_variable
