-- Validation of code as a function (Core 1.0, appendix A.3): the operands after it, or None where it is refused.
use Rattle.std.specs.Prelude.{ℕ, ◌^◌, List, [], ◌∷◌, Bool, true, nat_lt, nat_le, ◌&&◌, Option, Some, None}
use Rattle.wasm_ast.specs.declared.types.ValueType.{ValueType}
use Rattle.wasm_ast.specs.declared.types.ValueType.TheVariants.{I32}
use Rattle.wasm_ast.specs.declared.types.GlobalType.{GlobalType}
use Rattle.wasm_ast.specs.declared.body.Instr.{Instr}
use Rattle.wasm_ast.specs.Access.{load_type, load_width, store_type, store_width}
use Rattle.wasm_ast.specs.Conversions.{operand_type, result_type}
use Rattle.wasm_ast.specs.Types.{words}
use Rattle.wasm_ast.specs.Op.{Op, Unreachable, Nop, Drop, Select, Return, Br, BrIf, BrTable, Call, CallIndirect, LocalGet, LocalSet, LocalTee, GlobalGet}
use Rattle.wasm_ast.specs.Op.{GlobalSet, MemorySize, MemoryGrow, Load, Store, Const, Eqz, Unary, Compare, Binary, Convert}
use Rattle.wasm_ast.specs.Code.{BlockType, Code, End, Do, Block, Loop, If}
use Rattle.wasm_ast.specs.View.{then_code}
use Rattle.wasm_typing.specs.Typing.{Context, at, under, arguments}
use Rattle.wasm_typing.specs.Operands.{Operands, then, if_true, no_operands, from_here, push, pop, pop_as, apply, shared, push_result, pop_result, finish}
use Rattle.wasm_typing.specs.Operands.{named_is}

-- whether each label carries this
abbrev pub each_label : List BlockType → List ℕ → BlockType → Bool
each_label labels [] l = true
each_label labels (n ∷ ns) l = named_is (at labels n) l && each_label labels ns l

abbrev pub constant : ValueType → ℕ → Operands → Option Operands
constant t n s = if_true (nat_lt n (words t)) (push (Some t) s)

-- the third is an i32, and the first two have one type
abbrev pub select : Operands → Option Operands
select s = then (pop_as I32 s) (λ s. then (pop s) (λ p. then (pop p.1) (λ q. then (shared p.0 q.0) (λ o. Some (push o q.1)))))

-- where there is a memory
abbrev pub with_memory : Context → List ValueType → BlockType → Operands → Option Operands
with_memory c ins out s = then (at c.memories 0) (λ _. apply ins out s)

-- an access of so many bytes
abbrev pub access : Context → (align width : ℕ) → List ValueType → BlockType → Operands → Option Operands
access c align width ins out s = then (at c.memories 0) (λ _. then (if_true (nat_le (2 ^ align) width) s) (apply ins out))

-- the value of a global, where it is variable
abbrev pub set_global : GlobalType → Operands → Option Operands
set_global g s = then (if_true g.is_variable s) (apply (g.value_type ∷ []) None)

-- an instruction with none inside
abbrev pub step : Context → Op → Operands → Option Operands
step c Unreachable s = Some from_here
step c Nop s = Some s
step c Drop s = then (pop s) (λ p. Some p.1)
step c Select s = select s
step c (Const t n) s = constant t n s
step c (Eqz t) s = apply (t ∷ []) (Some I32) s
step c (Unary t o) s = apply (t ∷ []) (Some t) s
step c (Compare t o) s = apply (t ∷ t ∷ []) (Some I32) s
step c (Binary t o) s = apply (t ∷ t ∷ []) (Some t) s
step c (Convert o) s = apply (operand_type o ∷ []) (Some (result_type o)) s
step c (LocalGet x) s = then (at c.locals x) (λ t. apply [] (Some t) s)
step c (LocalSet x) s = then (at c.locals x) (λ t. apply (t ∷ []) None s)
step c (LocalTee x) s = then (at c.locals x) (λ t. apply (t ∷ []) (Some t) s)
step c (GlobalGet x) s = then (at c.globals x) (λ g. apply [] (Some g.value_type) s)
step c (GlobalSet x) s = then (at c.globals x) (λ g. set_global g s)
step c (Load o align offset) s = access c align (load_width o) (I32 ∷ []) (Some (load_type o)) s
step c (Store o align offset) s = access c align (store_width o) (store_type o ∷ I32 ∷ []) None s
step c MemorySize s = with_memory c [] (Some I32) s
step c MemoryGrow s = with_memory c (I32 ∷ []) (Some I32) s
step c (Br n) s = then (at c.labels n) (λ l. then (pop_result l s) (λ _. Some from_here))
step c (BrIf n) s = then (at c.labels n) (λ l. then (pop_as I32 s) (λ s. then (pop_result l s) (λ s. Some (push_result l s))))
step c (BrTable ns n) s =
    then (at c.labels n) (λ l. then (pop_as I32 s) (λ s. then (pop_result l s) (λ _. if_true (each_label c.labels ns l) from_here)))
step c Return s = then (pop_result c.result s) (λ _. Some from_here)
step c (Call f) s = then (at c.functions f) (λ t. apply (arguments t) t.result s)
step c (CallIndirect x) s =
    then (at c.tables 0) (λ _. then (at c.types x) (λ t. then (pop_as I32 s) (apply (arguments t) t.result)))

-- code to its end; the body of a block starts on operands of its own
abbrev pub check : Context → Code → Operands → Option Operands
check c End s = Some s
check c (Do o rest) s = then (step c o s) (check c rest)
check c (Block t b rest) s = then (then (check (under t c) b no_operands) (finish t)) (λ _. check c rest (push_result t s))
check c (Loop t b rest) s = then (then (check (under None c) b no_operands) (finish t)) (λ _. check c rest (push_result t s))
check c (If t a b rest) s =
    then (pop_as I32 s) (λ s. then
    (then (check (under t c) a no_operands) (finish t))
    (λ _. then (then (check (under t c) b no_operands) (finish t)) (λ _. check c rest (push_result t s))))

-- a body to its end, which must leave t
abbrev pub whole_body : Context → BlockType → Code → Option Operands
whole_body c t b = then (check c b no_operands) (finish t)

-- an if, by its parts
abbrev pub conditional : Context → BlockType → (yes no : Code) → Operands → Option Operands
conditional c t a b s =
    then (pop_as I32 s) (λ s. then (whole_body (under t c) t a) (λ _. then (whole_body (under t c) t b) (λ _. Some (push_result t s))))

-- the first instruction of some code, with its bodies
abbrev pub first : Context → Code → Operands → Option Operands
first c End s = Some s
first c (Do o rest) s = step c o s
first c (Block t b rest) s = then (whole_body (under t c) t b) (λ _. Some (push_result t s))
first c (Loop t b rest) s = then (whole_body (under None c) t b) (λ _. Some (push_result t s))
first c (If t a b rest) s = conditional c t a b s

abbrev pub instruction : Context → Instr → Operands → Option Operands
instruction c i s = first c (then_code i End) s
