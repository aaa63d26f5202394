-- Initializers that are constants, and segments that lie in what they fill (Core 1.0, sections 3.4.4 to 3.4.6).
use Rattle.std.specs.Prelude.{◌≡◌, ◌≤◌, ◌+◌, ℕ, List, length, slice_get, Some}
use Rattle.wasm_ast.specs.declared.types.ValueType.{ValueType}
use Rattle.wasm_ast.specs.declared.types.ValueType.TheVariants.{I32}
use Rattle.wasm_ast.specs.declared.module.Global.{Global}
use Rattle.wasm_ast.specs.declared.module.DataSegment.{DataSegment}
use Rattle.wasm_ast.specs.declared.module.ElementSegment.{ElementSegment}
use Rattle.wasm_ast.specs.Op.{Const}
use Rattle.wasm_ast.specs.Code.{Code, End, Do}

-- one constant
pub record IsConstant (c : Code) : Type 0 where
  pub type : ValueType
  pub word : ℕ
  pub is : c ≡ Do (Const type word) End

abbrev pub AreConstants : List Global → Type 0
AreConstants gs = (k : ℕ) (g : Global) → slice_get gs k ≡ Some g → IsConstant g.initializer

-- so many items from a constant place on, among n
pub record IsWithin (place : Code) (count n : ℕ) : Type 0 where
  pub offset : ℕ
  pub constant : place ≡ Do (Const I32 offset) End
  pub within : offset + count ≤ n

-- segments in a memory of n bytes
abbrev pub AreData : List DataSegment → ℕ → Type 0
AreData ds n = (k : ℕ) (d : DataSegment) → slice_get ds k ≡ Some d → IsWithin d.offset (length d.bytes) n

-- segments in a table of n entries
abbrev pub AreElements : List ElementSegment → ℕ → Type 0
AreElements es n = (k : ℕ) (e : ElementSegment) → slice_get es k ≡ Some e → IsWithin e.offset (length e.functions) n
