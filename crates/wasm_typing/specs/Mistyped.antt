-- What 201 says of code while it is checked.
use Rattle.std.specs.Prelude.{◌≡◌, ◌⊎◌, None, IsSome}
use Rattle.wasm_ast.specs.declared.types.ValueType.TheVariants.{I32}
use Rattle.wasm_ast.specs.Code.{BlockType, Code, End, Do, Block, Loop, If}
use Rattle.wasm_typing.specs.declared.fault.ValidateFault.{ValidateFault}
use Rattle.wasm_typing.specs.declared.fault.ValidateFault.TheVariants.{TypeMismatch}
use Rattle.wasm_typing.specs.Typing.{Context, under}
use Rattle.wasm_typing.specs.Operands.{Operands, then, pop_as, no_operands, finish}
use Rattle.wasm_typing.specs.Algorithm.{check, whole_body}
use Rattle.wasm_typing.specs.Breaks.{KeepsOwn, BreaksNone}
use Rattle.wasm_typing.specs.Front.{IsFront}

-- where the fault is 201, P holds
abbrev pub Mismatch : ValidateFault → Type 0 → Type 0
Mismatch TypeMismatch P = P
Mismatch _ P = Unit {0}

-- Some front of the code breaks no rule with a fault of its own, and validation gives no operands
-- for it, or none of the type at its end.
abbrev pub Mistyped : Context → BlockType → Code → Operands → Type 0
Mistyped c t code s =
    (front : Code) × IsFront code front × (then (check c front s) (finish t) ≡ None)
    × BreaksNone c front

-- of an if, whose operand is tested first
abbrev pub MistypedIf : Context → BlockType → (yes no : Code) → Operands → Type 0
MistypedIf c t a b s =
    (pop_as I32 s ≡ None)
    ⊎ Mistyped (under t c) t a no_operands
    ⊎ (IsSome (whole_body (under t c) t a) × Mistyped (under t c) t b no_operands)

-- the first instruction keeps the rules with faults of their own, or one inside it is mistyped
abbrev pub MistypedFirst : Context → Code → Operands → Type 0
MistypedFirst c End s = ⊥
MistypedFirst c (Do o rest) s = KeepsOwn c o
MistypedFirst c (Block t b rest) s = Mistyped (under t c) t b no_operands
MistypedFirst c (Loop t b rest) s = Mistyped (under None c) t b no_operands
MistypedFirst c (If t a b rest) s = MistypedIf c t a b s
