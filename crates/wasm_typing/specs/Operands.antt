-- The operands that validation keeps (Core 1.0, appendix A.3): types, of which some are unknown.
use Rattle.std.specs.Prelude.{List, [], ◌∷◌, Bool, true, false, Option, Some, None}
use Rattle.wasm_ast.specs.declared.types.ValueType.{ValueType}
use Rattle.wasm_ast.specs.Types.{same_type}
use Rattle.wasm_ast.specs.Code.{BlockType}

-- the types of a block's operands, the top first, None for an unknown one; and whether what follows is unreachable
pub record Operands : Type 0 where
  pub types : List (Option ValueType)
  pub unreachable : Bool

-- the operands of the block that is checked, above those of the blocks round it
pub record Frames : Type 0 where
  pub here : Operands
  pub lower : List (Option ValueType)

-- goes on with a value, if there is one
abbrev pub then : {A B : Type 0} → Option A → (A → Option B) → Option B
then None f = None
then (Some a) f = f a

abbrev pub if_true : {A : Type 0} → Bool → A → Option A
if_true true a = Some a
if_true false a = None

-- an unknown operand may have any type
abbrev pub matches : Option ValueType → ValueType → Bool
matches None t = true
matches (Some t') t = same_type t' t

abbrev pub no_operands : Operands
no_operands = record { types = []; unreachable = false }

-- after an unconditional branch
abbrev pub from_here : Operands
from_here = record { types = []; unreachable = true }

abbrev pub push : Option ValueType → Operands → Operands
push o s = record s { types = o ∷ s.types }

abbrev pub pop_from : List (Option ValueType) → Bool → Option (Option ValueType × Operands)
pop_from [] false = None
pop_from [] true = Some (None, record { types = []; unreachable = true })
pop_from (o ∷ os) u = Some (o, record { types = os; unreachable = u })

abbrev pub pop : Operands → Option (Option ValueType × Operands)
pop s = pop_from s.types s.unreachable

abbrev pub pop_as : ValueType → Operands → Option Operands
pop_as t s = then (pop s) (λ p. if_true (matches p.0 t) p.1)

-- the given types, the top first
abbrev pub pop_all : List ValueType → Operands → Option Operands
pop_all [] s = Some s
pop_all (t ∷ ts) s = then (pop_as t s) (pop_all ts)

abbrev pub push_result : BlockType → Operands → Operands
push_result None s = s
push_result (Some t) s = push (Some t) s

abbrev pub pop_result : BlockType → Operands → Option Operands
pop_result None s = Some s
pop_result (Some t) s = pop_as t s

-- operands of the given types, the top first, for what is left in their place
abbrev pub apply : List ValueType → BlockType → Operands → Option Operands
apply ins out s = then (pop_all ins s) (λ s. Some (push_result out s))

-- the type that two operands have in common
abbrev pub shared : Option ValueType → Option ValueType → Option (Option ValueType)
shared None o = Some o
shared (Some t) None = Some (Some t)
shared (Some t) (Some t') = if_true (same_type t t') (Some t')

abbrev pub is_none : List (Option ValueType) → Bool
is_none [] = true
is_none (o ∷ os) = false

-- the end of a body: its result and nothing below
abbrev pub finish : BlockType → Operands → Option Operands
finish l s = then (pop_result l s) (λ s. if_true (is_none s.types) s)

abbrev pub label_is : BlockType → BlockType → Bool
label_is None None = true
label_is None (Some t) = false
label_is (Some t) None = false
label_is (Some t) (Some t') = same_type t t'

abbrev pub named_is : Option BlockType → BlockType → Bool
named_is None l = false
named_is (Some l') l = label_is l' l
