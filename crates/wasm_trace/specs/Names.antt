-- The names of instructions in the text format (Core 1.0, section 6.5), and that of the next reduction.
use Rattle.std.specs.Prelude.{◌≡◌, ◌<◌, ◌≤◌, ℕ, List, ◌++◌, Option, Some, None, codes}
use Rattle.wasm_ast.specs.declared.types.ValueType.{ValueType}
use Rattle.wasm_ast.specs.declared.types.ValueType.TheVariants as type
use Rattle.wasm_ast.specs.declared.operators.UnaryOp.{UnaryOp}
use Rattle.wasm_ast.specs.declared.operators.UnaryOp.TheVariants.{Clz, Ctz, Popcnt, Extend8S, Extend16S, Extend32S}
use Rattle.wasm_ast.specs.declared.operators.BinaryOp.{BinaryOp}
use Rattle.wasm_ast.specs.declared.operators.BinaryOp.TheVariants.{Add, Sub, Mul, DivS, DivU, RemS, RemU, And, Or, Xor, Shl, ShrS, ShrU, Rotl, Rotr}
use Rattle.wasm_ast.specs.declared.operators.CompareOp.{CompareOp}
use Rattle.wasm_ast.specs.declared.operators.CompareOp.TheVariants.{Eq, Ne, LtS, LtU, GtS, GtU, LeS, LeU, GeS, GeU}
use Rattle.wasm_ast.specs.declared.operators.ConvertOp.{ConvertOp}
use Rattle.wasm_ast.specs.declared.operators.ConvertOp.TheVariants.{WrapI64, ExtendI32S, ExtendI32U}
use Rattle.wasm_ast.specs.declared.operators.LoadOp.{LoadOp}
use Rattle.wasm_ast.specs.declared.operators.LoadOp.TheVariants as load
use Rattle.wasm_ast.specs.declared.operators.StoreOp.{StoreOp}
use Rattle.wasm_ast.specs.declared.operators.StoreOp.TheVariants as store
use Rattle.wasm_ast.specs.declared.body.Instr.{Instr}
use Rattle.wasm_ast.specs.Op.{Op, Unreachable, Nop, Drop, Select, Return, Br, BrIf, BrTable, Call, CallIndirect, LocalGet, LocalSet, LocalTee, GlobalGet}
use Rattle.wasm_ast.specs.Op.{GlobalSet, MemorySize, MemoryGrow, Load, Store, Const, Eqz, Unary, Compare, Binary, Convert}
use Rattle.wasm_ast.specs.Code.{Code}
use Rattle.wasm_ast.specs.View.{then_code}
use Rattle.wasm_trace.specs.declared.names.Mnemonic.{Mnemonic}
use Rattle.wasm_trace.specs.Reduction.{Seq, Nil, Put, Do, Block, Loop, If, Free, FreeBlock, Invoke, Label, Frame, Traps, plain}

abbrev pub load_name : LoadOp → List ℕ
load_name load.I32 = codes "i32.load"
load_name load.I64 = codes "i64.load"
load_name load.I32From8S = codes "i32.load8_s"
load_name load.I32From8U = codes "i32.load8_u"
load_name load.I32From16S = codes "i32.load16_s"
load_name load.I32From16U = codes "i32.load16_u"
load_name load.I64From8S = codes "i64.load8_s"
load_name load.I64From8U = codes "i64.load8_u"
load_name load.I64From16S = codes "i64.load16_s"
load_name load.I64From16U = codes "i64.load16_u"
load_name load.I64From32S = codes "i64.load32_s"
load_name load.I64From32U = codes "i64.load32_u"

abbrev pub store_name : StoreOp → List ℕ
store_name store.I32 = codes "i32.store"
store_name store.I64 = codes "i64.store"
store_name store.I32To8 = codes "i32.store8"
store_name store.I32To16 = codes "i32.store16"
store_name store.I64To8 = codes "i64.store8"
store_name store.I64To16 = codes "i64.store16"
store_name store.I64To32 = codes "i64.store32"

abbrev pub convert_name : ConvertOp → List ℕ
convert_name WrapI64 = codes "i32.wrap_i64"
convert_name ExtendI32S = codes "i64.extend_i32_s"
convert_name ExtendI32U = codes "i64.extend_i32_u"

-- of an operator of either type, behind the type and a dot
abbrev pub compare_name : CompareOp → List ℕ
compare_name Eq = codes "eq"
compare_name Ne = codes "ne"
compare_name LtS = codes "lt_s"
compare_name LtU = codes "lt_u"
compare_name GtS = codes "gt_s"
compare_name GtU = codes "gt_u"
compare_name LeS = codes "le_s"
compare_name LeU = codes "le_u"
compare_name GeS = codes "ge_s"
compare_name GeU = codes "ge_u"

abbrev pub unary_name : UnaryOp → List ℕ
unary_name Clz = codes "clz"
unary_name Ctz = codes "ctz"
unary_name Popcnt = codes "popcnt"
unary_name Extend8S = codes "extend8_s"
unary_name Extend16S = codes "extend16_s"
unary_name Extend32S = codes "extend32_s"

abbrev pub binary_name : BinaryOp → List ℕ
binary_name Add = codes "add"
binary_name Sub = codes "sub"
binary_name Mul = codes "mul"
binary_name DivS = codes "div_s"
binary_name DivU = codes "div_u"
binary_name RemS = codes "rem_s"
binary_name RemU = codes "rem_u"
binary_name And = codes "and"
binary_name Or = codes "or"
binary_name Xor = codes "xor"
binary_name Shl = codes "shl"
binary_name ShrS = codes "shr_s"
binary_name ShrU = codes "shr_u"
binary_name Rotl = codes "rotl"
binary_name Rotr = codes "rotr"

abbrev pub typed : ValueType → List ℕ → List ℕ
typed type.I32 name = codes "i32." ++ name
typed type.I64 name = codes "i64." ++ name

abbrev pub op_name : Op → List ℕ
op_name Unreachable = codes "unreachable"
op_name Nop = codes "nop"
op_name Drop = codes "drop"
op_name Select = codes "select"
op_name Return = codes "return"
op_name (Br k) = codes "br"
op_name (BrIf k) = codes "br_if"
op_name (BrTable ks k) = codes "br_table"
op_name (Call k) = codes "call"
op_name (CallIndirect k) = codes "call_indirect"
op_name (LocalGet k) = codes "local.get"
op_name (LocalSet k) = codes "local.set"
op_name (LocalTee k) = codes "local.tee"
op_name (GlobalGet k) = codes "global.get"
op_name (GlobalSet k) = codes "global.set"
op_name MemorySize = codes "memory.size"
op_name MemoryGrow = codes "memory.grow"
op_name (Load o align offset) = load_name o
op_name (Store o align offset) = store_name o
op_name (Const t n) = typed t (codes "const")
op_name (Eqz t) = typed t (codes "eqz")
op_name (Unary t o) = typed t (unary_name o)
op_name (Compare t o) = typed t (compare_name o)
op_name (Binary t o) = typed t (binary_name o)
op_name (Convert o) = convert_name o

-- the name of the instruction that the next reduction executes and pays for: the first behind the values, within the innermost label or frame
abbrev pub next_name : Seq → Option (List ℕ)
next_name Nil = None
next_name (Put x i) = next_name i
next_name (Do o i) = Some (op_name o)
next_name (Block t b i) = Some (codes "block")
next_name (Loop t b i) = Some (codes "loop")
next_name (If t a b i) = Some (codes "if")
next_name (Free o i) = None
next_name (FreeBlock t b i) = None
next_name (Invoke fn i) = None
next_name (Label t c j i) = next_name j
next_name (Frame t l j i) = next_name j
next_name (Traps why i) = None

-- what is told of a step from this sequence and fuel that left this fuel: the name of what it executed, exactly where that cost fuel
abbrev pub Named : Seq → (fuel left : ℕ) → Option (List ℕ) → Type 0
Named i fuel left (Some name) = (left < fuel) × (next_name i ≡ Some name)
Named i fuel left None = fuel ≤ left

abbrev pub text_of : Mnemonic → List ℕ
text_of m = m.prefix.now ++ m.rest.now

-- the name of an instruction, whatever follows it
abbrev pub IsNameOf : Instr → List ℕ → Type 0
IsNameOf x name = (after : Code) → next_name (plain (then_code x after) Nil) ≡ Some name
