-- The declarative typing of code (Core 1.0, chapter 3). A stack of operands is a list of types, the top first.
use Rattle.std.specs.Prelude.{◌≡◌, ◌<◌, ◌≤◌, ◌^◌, true, ℕ, List, [], ◌∷◌, ◌++◌, reverse, Option, Some, None, slice_get}
use Rattle.wasm_ast.specs.declared.types.ValueType.{ValueType}
use Rattle.wasm_ast.specs.declared.types.ValueType.TheVariants.{I32}
use Rattle.wasm_ast.specs.declared.types.FuncType.{FuncType}
use Rattle.wasm_ast.specs.declared.types.GlobalType.{GlobalType}
use Rattle.wasm_ast.specs.declared.types.Limits.{Limits}
use Rattle.wasm_ast.specs.Types.{words}
use Rattle.wasm_ast.specs.Access.{load_type, load_width, store_type, store_width}
use Rattle.wasm_ast.specs.Conversions.{operand_type, result_type}
use Rattle.wasm_ast.specs.Op.{Op, Unreachable, Nop, Drop, Select, Return, Br, BrIf, BrTable, Call, CallIndirect, LocalGet, LocalSet, LocalTee, GlobalGet}
use Rattle.wasm_ast.specs.Op.{GlobalSet, MemorySize, MemoryGrow, Load, Store, Const, Eqz, Unary, Compare, Binary, Convert}
use Rattle.wasm_ast.specs.Code.{BlockType, Code, End, Do, Block, Loop, If}

-- what code may refer to (section 3.1.1)
pub record Context : Type 0 where
  pub types : List FuncType
  -- the type of each function, the imported ones first
  pub functions : List FuncType
  pub tables : List Limits
  pub memories : List Limits
  pub globals : List GlobalType
  -- the types of the parameters and of the other locals
  pub locals : List ValueType
  -- what a branch to each label carries, the innermost label first
  pub labels : List BlockType
  -- what the function returns
  pub result : BlockType

-- the n-th of a list
abbrev pub at : {A : Type 0} → List A → ℕ → Option A
at xs n = slice_get xs n

-- what a block leaves, as a stack
abbrev pub results : BlockType → List ValueType
results None = []
results (Some t) = t ∷ []

-- the context inside a block to whose label a branch carries l
abbrev pub under : BlockType → Context → Context
under l c = record c { labels = l ∷ c.labels }

-- a function's arguments as a stack: the last is on top
abbrev pub arguments : FuncType → List ValueType
arguments f = reverse f.params

-- each label carries l
abbrev pub EachLabel : Context → List ℕ → BlockType → Type 0
EachLabel c [] l = Unit {0}
EachLabel c (n ∷ ns) l = (at c.labels n ≡ Some l) × EachLabel c ns l

-- C ⊢ op : ins → outs (sections 3.3.1 to 3.3.5). After an unconditional branch anything may stand, so `outs` is free there.
abbrev pub TypingRule : Context → Op → (ins outs : List ValueType) → Type 0
TypingRule c Unreachable ins outs = Unit {0}
TypingRule c Nop ins outs = (ins ≡ []) × (outs ≡ [])
TypingRule c Drop ins outs = (t : ValueType) × (ins ≡ t ∷ []) × (outs ≡ [])
TypingRule c Select ins outs = (t : ValueType) × (ins ≡ I32 ∷ t ∷ t ∷ []) × (outs ≡ t ∷ [])
TypingRule c (Const t n) ins outs = (n < words t) × (ins ≡ []) × (outs ≡ t ∷ [])
TypingRule c (Eqz t) ins outs = (ins ≡ t ∷ []) × (outs ≡ I32 ∷ [])
TypingRule c (Unary t o) ins outs = (ins ≡ t ∷ []) × (outs ≡ t ∷ [])
TypingRule c (Compare t o) ins outs = (ins ≡ t ∷ t ∷ []) × (outs ≡ I32 ∷ [])
TypingRule c (Binary t o) ins outs = (ins ≡ t ∷ t ∷ []) × (outs ≡ t ∷ [])
TypingRule c (Convert o) ins outs = (ins ≡ operand_type o ∷ []) × (outs ≡ result_type o ∷ [])
TypingRule c (LocalGet x) ins outs = (t : ValueType) × (at c.locals x ≡ Some t) × (ins ≡ []) × (outs ≡ t ∷ [])
TypingRule c (LocalSet x) ins outs = (t : ValueType) × (at c.locals x ≡ Some t) × (ins ≡ t ∷ []) × (outs ≡ [])
TypingRule c (LocalTee x) ins outs = (t : ValueType) × (at c.locals x ≡ Some t) × (ins ≡ t ∷ []) × (outs ≡ t ∷ [])
TypingRule c (GlobalGet x) ins outs = (g : GlobalType) × (at c.globals x ≡ Some g) × (ins ≡ []) × (outs ≡ g.value_type ∷ [])
TypingRule c (GlobalSet x) ins outs = (g : GlobalType) × (at c.globals x ≡ Some g) × (g.is_variable ≡ true) × (ins ≡ g.value_type ∷ []) × (outs ≡ [])
TypingRule c (Load o align offset) ins outs =
    (l : Limits) × (at c.memories 0 ≡ Some l) × (2 ^ align ≤ load_width o) × (ins ≡ I32 ∷ []) × (outs ≡ load_type o ∷ [])
TypingRule c (Store o align offset) ins outs =
    (l : Limits) × (at c.memories 0 ≡ Some l) × (2 ^ align ≤ store_width o) × (ins ≡ store_type o ∷ I32 ∷ []) × (outs ≡ [])
TypingRule c MemorySize ins outs = (l : Limits) × (at c.memories 0 ≡ Some l) × (ins ≡ []) × (outs ≡ I32 ∷ [])
TypingRule c MemoryGrow ins outs = (l : Limits) × (at c.memories 0 ≡ Some l) × (ins ≡ I32 ∷ []) × (outs ≡ I32 ∷ [])
TypingRule c (Br n) ins outs = (l : BlockType) × (at c.labels n ≡ Some l) × (below : List ValueType) × (ins ≡ results l ++ below)
TypingRule c (BrIf n) ins outs = (l : BlockType) × (at c.labels n ≡ Some l) × (ins ≡ I32 ∷ results l) × (outs ≡ results l)
TypingRule c (BrTable ns n) ins outs =
    (l : BlockType) × (at c.labels n ≡ Some l) × EachLabel c ns l × (below : List ValueType) × (ins ≡ I32 ∷ results l ++ below)
TypingRule c Return ins outs = (below : List ValueType) × (ins ≡ results c.result ++ below)
TypingRule c (Call f) ins outs = (t : FuncType) × (at c.functions f ≡ Some t) × (ins ≡ arguments t) × (outs ≡ results t.result)
TypingRule c (CallIndirect x) ins outs =
    (l : Limits) × (at c.tables 0 ≡ Some l) × (t : FuncType) × (at c.types x ≡ Some t) × (ins ≡ I32 ∷ arguments t) × (outs ≡ results t.result)

-- C ⊢ code : from → to (section 3.3.6), each instruction above a lower stack that it leaves alone.
-- The bodies of a block start on an empty stack and leave its result; a branch to a loop carries nothing.
abbrev pub Types : Context → Code → (from to : List ValueType) → Type 0
Types c End from to = from ≡ to
Types c (Do o rest) from to =
    (ins : List ValueType) × (outs : List ValueType) × (lower : List ValueType) × TypingRule c o ins outs × (from ≡ ins ++ lower) ×
    Types c rest (outs ++ lower) to
Types c (Block t b rest) from to = Types (under t c) b [] (results t) × Types c rest (results t ++ from) to
Types c (Loop t b rest) from to = Types (under None c) b [] (results t) × Types c rest (results t ++ from) to
Types c (If t a b rest) from to =
    (lower : List ValueType) × (from ≡ I32 ∷ lower) × Types (under t c) a [] (results t) × Types (under t c) b [] (results t) ×
    Types c rest (results t ++ lower) to
