-- The instructions with no instruction inside (Core 1.0, section 5.4): their opcodes, and what comes after an opcode.
use Rattle.std.specs.Prelude.{◌≡◌, ℕ, ℤ, List, [], ◌∷◌, ◌++◌, map}
use Rattle.std.specs.Int.{cast_unsigned, w32, w64}
use Rattle.wasm_profile.specs.declared.profile.Profile.{Profile}
use Rattle.grammar.specs.Spelling.{◌⟫◌, IsByte, IsEmpty, IsMade}
use Rattle.grammar.specs.Table.{IsByRow}
use Rattle.wasm_bytes.specs.Spelling.{IsU32, IsS32, IsS64, IsList}
use Rattle.wasm_ast.specs.declared.types.ValueType.TheVariants.{I32, I64}
use Rattle.wasm_ast.specs.declared.body.MemoryArgument.{MemoryArgument}
use Rattle.wasm_ast.specs.declared.operators.LoadOp.{LoadOp}
use Rattle.wasm_ast.specs.declared.operators.StoreOp.{StoreOp}
use Rattle.wasm_ast.specs.Op.{Op, Unreachable, Nop, Drop, Select, Return, Br, BrIf, Call, CallIndirect, LocalGet, LocalSet, LocalTee, GlobalGet, GlobalSet}
use Rattle.wasm_ast.specs.Op.{BrTable, MemorySize, MemoryGrow, Load, Store, Const}
use Rattle.wasm_operators.specs.Operators.{load_rows, store_rows, operator_rows}

-- what comes after an opcode
pub data Form : Type 0 where
  -- nothing
  bare : Op → Form
  -- an index
  indexed : (ℕ → Op) → Form
  -- labels, at most 1,024, and the one for operands past them
  labelled : Form
  -- the index of a type, and a byte 0
  indirect : Form
  -- a byte 0
  reserved : Op → Form
  -- where memory is accessed
  access : (MemoryArgument → Op) → Form
  -- a signed number of 32 or of 64 bits
  constant_32 : Form
  constant_64 : Form

-- control, parametric and variable instructions, the size of memory, and constants (5.4.1 to 5.4.5)
unfoldable pub other_rows : List (ℕ × Form)
other_rows =
    (0x00, bare Unreachable)
    ∷ (0x01, bare Nop)
    ∷ (0x0c, indexed Br)
    ∷ (0x0d, indexed BrIf)
    ∷ (0x0e, labelled)
    ∷ (0x0f, bare Return)
    ∷ (0x10, indexed Call)
    ∷ (0x11, indirect)
    ∷ (0x1a, bare Drop)
    ∷ (0x1b, bare Select)
    ∷ (0x20, indexed LocalGet)
    ∷ (0x21, indexed LocalSet)
    ∷ (0x22, indexed LocalTee)
    ∷ (0x23, indexed GlobalGet)
    ∷ (0x24, indexed GlobalSet)
    ∷ (0x3f, reserved MemorySize)
    ∷ (0x40, reserved MemoryGrow)
    ∷ (0x41, constant_32)
    ∷ (0x42, constant_64)
    ∷ []

-- a load where memory is accessed
abbrev pub load_of : LoadOp → MemoryArgument → Op
load_of o a = Load o a.align a.offset

-- a store where memory is accessed
abbrev pub store_of : StoreOp → MemoryArgument → Op
store_of o a = Store o a.align a.offset

-- the opcodes of a table, with the form that follows each
abbrev pub with_form : {K : Type 0} → (K → Form) → List (ℕ × K) → List (ℕ × Form)
with_form form rows = map (λ r. (r.0, form r.1)) rows

-- the opcodes of a profile
unfoldable pub opcodes : Profile → List (ℕ × Form)
opcodes profile =
    with_form bare (operator_rows profile) ++ (with_form (λ o. access (load_of o)) load_rows ++ (with_form (λ o. access (store_of o)) store_rows ++ other_rows))

-- a constant is the word with the bits of the number that is spelled
abbrev pub constant_32_of : ℤ → Op
constant_32_of z = Const I32 (cast_unsigned w32 z)

abbrev pub constant_64_of : ℤ → Op
constant_64_of z = Const I64 (cast_unsigned w64 z)

-- labels, and the one for operands past them
abbrev pub branch_table_of : List ℕ × ℕ → Op
branch_table_of t = BrTable t.0 t.1

-- 5.4.1
abbrev pub IsBranchTable : List ℕ × ℕ → List ℕ → Type 0
IsBranchTable t = IsList 1024 IsU32 t.0 ⟫ IsU32 t.1

-- 5.4.4
abbrev pub IsMemoryArgument : MemoryArgument → List ℕ → Type 0
IsMemoryArgument a = IsU32 a.align ⟫ IsU32 a.offset

-- an index, and a byte 0
abbrev pub IsReservedIndex : ℕ → List ℕ → Type 0
IsReservedIndex n = IsU32 n ⟫ IsByte 0x00

-- what comes after the opcode, as its form says
abbrev pub IsAfter : Form → Op → List ℕ → Type 0
IsAfter (bare p) o text = (o ≡ p) × IsEmpty text
IsAfter (indexed make) o text = IsMade make IsU32 o text
IsAfter labelled o text = IsMade branch_table_of IsBranchTable o text
IsAfter indirect o text = IsMade CallIndirect IsReservedIndex o text
IsAfter (reserved p) o text = (o ≡ p) × IsByte 0x00 text
IsAfter (access make) o text = IsMade make IsMemoryArgument o text
IsAfter constant_32 o text = IsMade constant_32_of IsS32 o text
IsAfter constant_64 o text = IsMade constant_64_of IsS64 o text

-- an opcode, and what comes after it
abbrev pub IsOp : Profile → Op → List ℕ → Type 0
IsOp profile = IsByRow (opcodes profile) IsAfter
