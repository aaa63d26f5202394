-- Where code breaks a rule that has a fault of its own.
use Rattle.std.specs.Prelude.{◌≡◌, ◌<◌, ◌^◌, ◌⊎◌, ℕ, List, [], ◌∷◌, None, Some, false}
use Rattle.wasm_ast.specs.declared.types.GlobalType.{GlobalType}
use Rattle.wasm_ast.specs.declared.body.Instr.{Instr}
use Rattle.wasm_ast.specs.Access.{load_width, store_width}
use Rattle.wasm_ast.specs.Op.{Op, Br, BrIf, BrTable, Call, CallIndirect, LocalGet, LocalSet, LocalTee, GlobalGet, GlobalSet, MemorySize, MemoryGrow, Load}
use Rattle.wasm_ast.specs.Op.{Store}
use Rattle.wasm_ast.specs.Code.{BlockType, Code, End, Do, Block, Loop, If}
use Rattle.wasm_ast.specs.View.{then_code}
use Rattle.wasm_typing.specs.declared.fault.ValidateFault.{ValidateFault}
use Rattle.wasm_typing.specs.declared.fault.ValidateFault.TheVariants as fault
use Rattle.wasm_typing.specs.Typing.{Context, at, under}

-- one of these is no label
abbrev pub AnyMissing : List BlockType → List ℕ → Type 0
AnyMissing labels [] = ⊥
AnyMissing labels (n ∷ ns) = (at labels n ≡ None) ⊎ AnyMissing labels ns

-- the instruction names a label, a local, a global, a function, a type, a table or a memory that the context does not have
abbrev pub NamesMissing : Context → Op → Type 0
NamesMissing c (Br n) = at c.labels n ≡ None
NamesMissing c (BrIf n) = at c.labels n ≡ None
NamesMissing c (BrTable ns n) = (at c.labels n ≡ None) ⊎ AnyMissing c.labels ns
NamesMissing c (Call f) = at c.functions f ≡ None
NamesMissing c (CallIndirect x) = (at c.tables 0 ≡ None) ⊎ (at c.types x ≡ None)
NamesMissing c (LocalGet x) = at c.locals x ≡ None
NamesMissing c (LocalSet x) = at c.locals x ≡ None
NamesMissing c (LocalTee x) = at c.locals x ≡ None
NamesMissing c (GlobalGet x) = at c.globals x ≡ None
NamesMissing c (GlobalSet x) = at c.globals x ≡ None
NamesMissing c (Load o align offset) = at c.memories 0 ≡ None
NamesMissing c (Store o align offset) = at c.memories 0 ≡ None
NamesMissing c MemorySize = at c.memories 0 ≡ None
NamesMissing c MemoryGrow = at c.memories 0 ≡ None
NamesMissing c _ = ⊥

-- the instruction writes a global that is constant
abbrev pub SetsConstant : Context → Op → Type 0
SetsConstant c (GlobalSet x) = (g : GlobalType) × (at c.globals x ≡ Some g) × (g.is_variable ≡ false)
SetsConstant c _ = ⊥

-- the instruction's address is said to be aligned beyond the width of what it moves
abbrev pub OverAligned : Context → Op → Type 0
OverAligned c (Load o align offset) = load_width o < 2 ^ align
OverAligned c (Store o align offset) = store_width o < 2 ^ align
OverAligned c _ = ⊥

-- the instruction breaks the rule that a fault names
abbrev pub Breaks : ValidateFault → Context → Op → Type 0
Breaks fault.Index c o = NamesMissing c o
Breaks fault.ImmutableGlobal c o = SetsConstant c o
Breaks fault.Alignment c o = OverAligned c o
Breaks _ c o = ⊥

-- some instruction of the code does
abbrev pub BreaksIn : ValidateFault → Context → Code → Type 0
BreaksIn e c End = ⊥
BreaksIn e c (Do o rest) = Breaks e c o ⊎ BreaksIn e c rest
BreaksIn e c (Block t b rest) = BreaksIn e (under t c) b ⊎ BreaksIn e c rest
BreaksIn e c (Loop t b rest) = BreaksIn e (under None c) b ⊎ BreaksIn e c rest
BreaksIn e c (If t a b rest) = (BreaksIn e (under t c) a ⊎ BreaksIn e (under t c) b) ⊎ BreaksIn e c rest

-- the first does, or one inside it
abbrev pub BreaksFirst : ValidateFault → Context → Code → Type 0
BreaksFirst e c End = ⊥
BreaksFirst e c (Do o rest) = Breaks e c o
BreaksFirst e c (Block t b rest) = BreaksIn e (under t c) b
BreaksFirst e c (Loop t b rest) = BreaksIn e (under None c) b
BreaksFirst e c (If t a b rest) = BreaksIn e (under t c) a ⊎ BreaksIn e (under t c) b

abbrev pub BreaksInstr : ValidateFault → Context → Instr → Type 0
BreaksInstr e c i = BreaksFirst e c (then_code i End)

-- the instruction breaks none of the rules that have a fault of their own
abbrev pub KeepsOwn : Context → Op → Type 0
KeepsOwn c o = (¬ NamesMissing c o) × (¬ SetsConstant c o) × (¬ OverAligned c o)

-- no instruction of the code breaks one
abbrev pub BreaksNone : Context → Code → Type 0
BreaksNone c code = (e : ValidateFault) → ¬ BreaksIn e c code
