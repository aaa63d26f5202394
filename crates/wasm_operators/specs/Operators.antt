-- The opcodes of operators on integers and of accesses to memory (Core 1.0, sections 5.4.4 and 5.4.5), and those that a
-- profile adds.
use Rattle.std.specs.Prelude.{ℕ, List, [], ◌∷◌, ◌++◌}
use Rattle.wasm_profile.specs.declared.profile.Profile.{Profile}
use Rattle.wasm_profile.specs.declared.profile.Profile.TheVariants.{Core1, SignExtension}
use Rattle.wasm_ast.specs.declared.types.ValueType.TheVariants.{I32, I64}
use Rattle.wasm_ast.specs.declared.operators.LoadOp.{LoadOp}
use Rattle.wasm_ast.specs.declared.operators.LoadOp.TheVariants as load
use Rattle.wasm_ast.specs.declared.operators.StoreOp.{StoreOp}
use Rattle.wasm_ast.specs.declared.operators.StoreOp.TheVariants as store
use Rattle.wasm_ast.specs.declared.operators.UnaryOp.TheVariants.{Clz, Ctz, Popcnt, Extend8S, Extend16S, Extend32S}
use Rattle.wasm_ast.specs.declared.operators.CompareOp.TheVariants.{Eq, Ne, LtS, LtU, GtS, GtU, LeS, LeU, GeS, GeU}
use Rattle.wasm_ast.specs.declared.operators.BinaryOp.TheVariants.{Add, Sub, Mul, DivS, DivU, RemS, RemU, And, Or, Xor, Shl, ShrS, ShrU, Rotl, Rotr}
use Rattle.wasm_ast.specs.declared.operators.ConvertOp.TheVariants.{WrapI64, ExtendI32S, ExtendI32U}
use Rattle.wasm_ast.specs.Op.{Op, Eqz, Unary, Compare, Binary, Convert}
use Rattle.wasm_ast.specs.Code.{Code, Do, End}

-- loads
unfoldable pub load_rows : List (ℕ × LoadOp)
load_rows =
    (0x28, load.I32)
    ∷ (0x29, load.I64)
    ∷ (0x2c, load.I32From8S)
    ∷ (0x2d, load.I32From8U)
    ∷ (0x2e, load.I32From16S)
    ∷ (0x2f, load.I32From16U)
    ∷ (0x30, load.I64From8S)
    ∷ (0x31, load.I64From8U)
    ∷ (0x32, load.I64From16S)
    ∷ (0x33, load.I64From16U)
    ∷ (0x34, load.I64From32S)
    ∷ (0x35, load.I64From32U)
    ∷ []

-- stores
unfoldable pub store_rows : List (ℕ × StoreOp)
store_rows =
    (0x36, store.I32)
    ∷ (0x37, store.I64)
    ∷ (0x3a, store.I32To8)
    ∷ (0x3b, store.I32To16)
    ∷ (0x3c, store.I64To8)
    ∷ (0x3d, store.I64To16)
    ∷ (0x3e, store.I64To32)
    ∷ []

-- tests and comparisons
unfoldable pub comparison_rows : List (ℕ × Op)
comparison_rows =
    (0x45, Eqz I32)
    ∷ (0x46, Compare I32 Eq)
    ∷ (0x47, Compare I32 Ne)
    ∷ (0x48, Compare I32 LtS)
    ∷ (0x49, Compare I32 LtU)
    ∷ (0x4a, Compare I32 GtS)
    ∷ (0x4b, Compare I32 GtU)
    ∷ (0x4c, Compare I32 LeS)
    ∷ (0x4d, Compare I32 LeU)
    ∷ (0x4e, Compare I32 GeS)
    ∷ (0x4f, Compare I32 GeU)
    ∷ (0x50, Eqz I64)
    ∷ (0x51, Compare I64 Eq)
    ∷ (0x52, Compare I64 Ne)
    ∷ (0x53, Compare I64 LtS)
    ∷ (0x54, Compare I64 LtU)
    ∷ (0x55, Compare I64 GtS)
    ∷ (0x56, Compare I64 GtU)
    ∷ (0x57, Compare I64 LeS)
    ∷ (0x58, Compare I64 LeU)
    ∷ (0x59, Compare I64 GeS)
    ∷ (0x5a, Compare I64 GeU)
    ∷ []

-- operators on words of 32 bits
unfoldable pub arithmetic_32_rows : List (ℕ × Op)
arithmetic_32_rows =
    (0x67, Unary I32 Clz)
    ∷ (0x68, Unary I32 Ctz)
    ∷ (0x69, Unary I32 Popcnt)
    ∷ (0x6a, Binary I32 Add)
    ∷ (0x6b, Binary I32 Sub)
    ∷ (0x6c, Binary I32 Mul)
    ∷ (0x6d, Binary I32 DivS)
    ∷ (0x6e, Binary I32 DivU)
    ∷ (0x6f, Binary I32 RemS)
    ∷ (0x70, Binary I32 RemU)
    ∷ (0x71, Binary I32 And)
    ∷ (0x72, Binary I32 Or)
    ∷ (0x73, Binary I32 Xor)
    ∷ (0x74, Binary I32 Shl)
    ∷ (0x75, Binary I32 ShrS)
    ∷ (0x76, Binary I32 ShrU)
    ∷ (0x77, Binary I32 Rotl)
    ∷ (0x78, Binary I32 Rotr)
    ∷ []

-- operators on words of 64 bits
unfoldable pub arithmetic_64_rows : List (ℕ × Op)
arithmetic_64_rows =
    (0x79, Unary I64 Clz)
    ∷ (0x7a, Unary I64 Ctz)
    ∷ (0x7b, Unary I64 Popcnt)
    ∷ (0x7c, Binary I64 Add)
    ∷ (0x7d, Binary I64 Sub)
    ∷ (0x7e, Binary I64 Mul)
    ∷ (0x7f, Binary I64 DivS)
    ∷ (0x80, Binary I64 DivU)
    ∷ (0x81, Binary I64 RemS)
    ∷ (0x82, Binary I64 RemU)
    ∷ (0x83, Binary I64 And)
    ∷ (0x84, Binary I64 Or)
    ∷ (0x85, Binary I64 Xor)
    ∷ (0x86, Binary I64 Shl)
    ∷ (0x87, Binary I64 ShrS)
    ∷ (0x88, Binary I64 ShrU)
    ∷ (0x89, Binary I64 Rotl)
    ∷ (0x8a, Binary I64 Rotr)
    ∷ []

-- conversions between the widths
unfoldable pub conversion_rows : List (ℕ × Op)
conversion_rows =
    (0xa7, Convert WrapI64)
    ∷ (0xac, Convert ExtendI32S)
    ∷ (0xad, Convert ExtendI32U)
    ∷ []

-- sign extensions (Core 2.0, section 5.4.7)
unfoldable pub sign_extension_rows : List (ℕ × Op)
sign_extension_rows =
    (0xc0, Unary I32 Extend8S)
    ∷ (0xc1, Unary I32 Extend16S)
    ∷ (0xc2, Unary I64 Extend8S)
    ∷ (0xc3, Unary I64 Extend16S)
    ∷ (0xc4, Unary I64 Extend32S)
    ∷ []

-- what a profile has beyond Core 1.0
abbrev pub added_rows : Profile → List (ℕ × Op)
added_rows Core1 = []
added_rows SignExtension = sign_extension_rows

-- all operators of a profile
unfoldable pub operator_rows : Profile → List (ℕ × Op)
operator_rows profile =
    comparison_rows ++ (arithmetic_32_rows ++ (arithmetic_64_rows ++ (conversion_rows ++ added_rows profile)))

-- an instruction and nothing else
abbrev pub alone : Op → Code
alone o = Do o End
