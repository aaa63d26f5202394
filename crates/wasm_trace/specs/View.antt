-- The configuration that a stepper stands for.
use Rattle.std.specs.Prelude.{◌≡◌, ◌≤◌, ℕ, List, [], ◌∷◌, ◌++◌, Option, Some, None, Result, Ok, Err, Bool, true, false, if◌then◌else◌, map, reverse, slice_get}
use Rattle.std.specs.Prelude.{slice_set}
use Rattle.wasm_ast.specs.declared.types.ValueType.TheVariants as type
use Rattle.wasm_ast.specs.declared.body.Instr.{Instr}
use Rattle.wasm_ast.specs.declared.trap.Trap.{Trap}
use Rattle.wasm_ast.specs.declared.types.FuncType.{FuncType}
use Rattle.wasm_ast.specs.declared.module.Func.{Func}
use Rattle.wasm_ast.specs.declared.module.Module.{Module}
use Rattle.wasm_ast.specs.declared.body.Conditional.{Conditional}
use Rattle.wasm_ast.specs.Op as op
use Rattle.wasm_ast.specs.Op.{Op, Br, LocalSet}
use Rattle.wasm_ast.specs.Types.{same_type}
use Rattle.wasm_ast.specs.declared.operators.BinaryOp.{BinaryOp}
use Rattle.wasm_num.specs.Operators.{binary}
use Rattle.wasm_ast.specs.declared.types.ValueType.{ValueType}
use Rattle.wasm_ast.specs.Code as tree
use Rattle.wasm_ast.specs.Code.{BlockType, Code}
use Rattle.wasm_ast.specs.View.{then_code, code_of}
use Rattle.wasm_meaning.specs.Values.{Val, value, World, Program, top_of}
use Rattle.wasm_meaning.specs.Program.{fresh_table, most_pages}
use Rattle.wasm_instance.specs.State.{State}
use Rattle.wasm_trace.specs.declared.parts.Value.{Value}
use Rattle.wasm_trace.specs.declared.parts.Value.TheVariants as val
use Rattle.wasm_trace.specs.declared.parts.Front.{Front}
use Rattle.wasm_trace.specs.declared.parts.Front.TheVariants as front
use Rattle.wasm_trace.specs.declared.parts.Level.{Level}
use Rattle.wasm_trace.specs.declared.parts.Level.TheVariants as level
use Rattle.wasm_trace.specs.declared.parts.Turn.{Turn}
use Rattle.wasm_trace.specs.declared.parts.Turn.TheVariants as turn
use Rattle.wasm_trace.specs.declared.parts.Act.{Act}
use Rattle.wasm_trace.specs.declared.parts.Act.TheVariants as act
use Rattle.wasm_trace.specs.declared.parts.Flow.{Flow}
use Rattle.wasm_trace.specs.declared.parts.Flow.TheVariants as flow
use Rattle.wasm_trace.specs.declared.configuration.Configuration.{Configuration}
use Rattle.wasm_trace.specs.Reduction.{Seq, Nil, Put, Do, Block, Loop, If, Free, FreeBlock, Invoke, Label, Frame, Traps, plain, values, Config, conf, at, paid}
use Rattle.wasm_trace.specs.Reduction.{Step, To, Ends, Breaks, Leaves, Trapped, Spent, Stuck, with_top, with_found, replacing, in_label, in_frame, op_step}
use Rattle.wasm_trace.specs.Reduction.{reduce, invoke_step, trap_step, block_step, loop_step, if_step}
use Rattle.wasm_trace.specs.Ending.{IsStart, IsNoResult, IsStuck}
use Rattle.interp.specs.declared.outcome.Outcome.{Outcome}
use Rattle.interp.specs.declared.outcome.Outcome.TheVariants as outcome
use Rattle.wasm_trace.specs.Context.{Layer, InLabel, InFrame, frames, plug}

abbrev pub val_of : Value → Val
val_of (val.I32 n) = value type.I32 n
val_of (val.I64 n) = value type.I64 n

abbrev pub vals : List Value → List Val
vals vs = map val_of vs

-- how many values a block leaves
abbrev pub arity_of : BlockType → ℕ
arity_of None = 0
arity_of (Some t) = 1

-- values in a sequence, the last first
abbrev pub stack_of : List Value → List Val
stack_of vs = reverse (map val_of vs)

abbrev pub plain_of : List Instr → Seq
plain_of is = plain (code_of is) Nil

abbrev pub before : Front → Seq → Seq
before front.Nothing i = i
before (front.Branch k) i = Free (Br k) i
before (front.Set k) i = Free (LocalSet k) i
before (front.Body t b) i = FreeBlock t (code_of b.now) i
before (front.Again b) i = Loop b.now.result b.now.body i
before (front.Invoke t fn) i =
    Invoke (record { type = t.now; locals = fn.now.locals; body = fn.now.body }) i
before (front.Trap why) i = Traps why i

abbrev pub layer_of : Level → Layer
layer_of (level.Block t s a) = InLabel t tree.End (stack_of s.items) (plain_of a.now)
layer_of (level.Loop b s a) = InLabel None (tree.Loop b.now.result b.now.body tree.End) (stack_of s.items) (plain_of a.now)
layer_of (level.Frame t l s a) = InFrame t (vals l.items) (stack_of s.items) (plain_of a.now)

-- the innermost first
abbrev pub layers : List Level → List Layer
layers ms = reverse (map layer_of ms)

module _ {R : Type 0} where
  abbrev pub world : Configuration → R → World R
  world m records = record { memory = m.instance.memory; globals = vals m.globals.items; records = records }

  -- the configuration, with these records of the host
  abbrev pub config : Configuration → R → Config R
  config m records =
      plug (layers m.levels.items)
      (conf m.fuel (vals m.locals.items) (world m records) (values (stack_of m.stack.items) (before m.front (plain_of m.code.now))))

  -- one step of the whole, by what one step within the layers is: with this fuel, locals and world there
  abbrev pub out_of : List Layer → ℕ → List Val → World R → Step R → Step R
  out_of [] f l w r = r
  out_of (InLabel t c s i ∷ ks) f l w r = out_of ks f l w (in_label f l w s t c i r)
  out_of (InFrame t l' s i ∷ ks) f l w r = out_of ks f l' w (in_frame f l' w s t i r)

  -- one step of the whole is this flow, to this configuration
  abbrev pub Is : Step R → Flow → Config R → Type 0
  Is r flow.Continue y = r ≡ To y
  Is r (flow.Returned n) y = r ≡ Ends (value type.I32 n ∷ [])
  Is r (flow.Trapped why) y = r ≡ Trapped why
  Is r flow.Spent y = r ≡ Spent
  Is r flow.Stuck y = IsStuck r

  -- what an instruction became, before what follows it
  abbrev pub step_of : Turn → ℕ → List Val → World R → List Val → Seq → Step R
  step_of (turn.On new) f l w s i = at f l w s (before new i)
  step_of turn.Spent f l w s i = Spent
  step_of turn.Stuck f l w s i = Stuck

  -- what an instruction does, before what follows it
  abbrev pub act_step : Act → ℕ → List Val → World R → List Val → Seq → Step R
  act_step (act.Become t) f l w s i = step_of t f l w s i
  act_step (act.Enter t b) f l w s i = block_step t (code_of b.now) f l w s i
  act_step (act.Repeat b) f l w s i = loop_step b.now.result b.now.body f l w s i
  act_step (act.Branch k) f l w s i = Breaks k f s
  act_step act.Return f l w s i = Leaves f s

  -- one step of the whole, by what one step within its labels and frames is
  abbrev pub outward : Configuration → R → Step R → Step R
  outward m records r = out_of (layers m.levels.items) m.fuel (vals m.locals.items) (world m records) r

-- the sequence of the configuration
abbrev pub seq_of : Configuration → Seq
seq_of m = (config m (tt {0})).seq

-- how the whole ends where these values alone are left
abbrev pub EndsIn : List Val → Flow → Type 0
EndsIn s flow.Continue = ⊥
EndsIn s (flow.Returned n) = s ≡ value type.I32 n ∷ []
EndsIn s (flow.Trapped why) = ⊥
EndsIn s flow.Spent = ⊥
EndsIn s flow.Stuck = IsNoResult s

-- the table and the greatest size of the memory are those of the module
abbrev pub Linked : Module → Configuration → Type 0
Linked m c = (c.instance.table ≡ fresh_table m) × (c.instance.most_pages ≡ most_pages m)

-- they stay, and no fuel is gained
abbrev pub Within : Configuration → Configuration → Type 0
Within c c' = (c'.instance.table ≡ c.instance.table) × (c'.instance.most_pages ≡ c.instance.most_pages) × (c'.fuel ≤ c.fuel)

-- the labels and frames stay, and so do the instructions that are left
abbrev pub Stands : Configuration → Configuration → Type 0
Stands c c' = (c'.levels.items ≡ c.levels.items) × (c'.code.now ≡ c.code.now)

-- from m to m' the whole takes the step that this inner step makes it take
abbrev pub Takes : (R : Type 0) → ((records : R) → Step R) → Configuration → Configuration → Flow → Type 0
Takes R r m m' way = (records : R) → Is (outward m records (r records)) way (config m' records)

-- at the end of the instructions
abbrev pub Ended : (R : Type 0) → Configuration → Configuration → Flow → Type 0
Ended R m m' way = Takes R (λ records. Ends (stack_of m.stack.items)) m m' way

abbrev pub Broken : (R : Type 0) → ℕ → Configuration → Configuration → Flow → Type 0
Broken R k m m' way = Takes R (λ records. Breaks k m.fuel (stack_of m.stack.items)) m m' way

abbrev pub Left : (R : Type 0) → Configuration → Configuration → Flow → Type 0
Left R m m' way = Takes R (λ records. Leaves m.fuel (stack_of m.stack.items)) m m' way

abbrev pub Acted : (R : Type 0) → Act → Configuration → Configuration → Flow → Type 0
Acted R a m m' way =
    Takes R (λ records. act_step a m.fuel (vals m.locals.items) (world m records) (stack_of m.stack.items) (plain_of m.code.now)) m m' way

abbrev pub Became : (R : Type 0) → Turn → Configuration → Configuration → Flow → Type 0
Became R t m m' way =
    Takes R (λ records. step_of t m.fuel (vals m.locals.items) (world m records) (stack_of m.stack.items) (plain_of m.code.now)) m m' way

abbrev pub BlockEntered : (R : Type 0) → BlockType → Code → Configuration → Configuration → Type 0
BlockEntered R t b m m' =
    Takes R (λ records. block_step t b m.fuel (vals m.locals.items) (world m records) (stack_of m.stack.items) (plain_of m.code.now)) m m' flow.Continue

abbrev pub LoopEntered : (R : Type 0) → BlockType → Code → Configuration → Configuration → Type 0
LoopEntered R t b m m' =
    Takes R (λ records. loop_step t b m.fuel (vals m.locals.items) (world m records) (stack_of m.stack.items) (plain_of m.code.now)) m m' flow.Continue

-- a loop is executed again
abbrev pub Repeated : (R : Type 0) → BlockType → Code → Configuration → Configuration → Flow → Type 0
Repeated R t b m m' way =
    Takes R (λ records. paid 1 m.fuel (λ f. loop_step t b f (vals m.locals.items) (world m records) (stack_of m.stack.items) (plain_of m.code.now))) m m' way

abbrev pub Trapping : (R : Type 0) → Trap → Configuration → Configuration → Flow → Type 0
Trapping R why m m' way =
    Takes R (λ records. trap_step m.fuel (vals m.locals.items) (world m records) (stack_of m.stack.items) why (plain_of m.code.now)) m m' way

-- the results from the top of a stack on other values, if they were there
abbrev pub Kept : BlockType → (stack below : List Value) → Bool → List Value → Type 0
Kept t vs bs true kept = (r : List Val) × (top_of t (stack_of vs) ≡ Some r) × (stack_of kept ≡ r ++ stack_of bs)
Kept t vs bs false kept = top_of t (stack_of vs) ≡ None

-- the last value is not of this type
abbrev pub Lacks : ValueType → List Val → Type 0
Lacks t [] = Unit {0}
Lacks t (x ∷ s) = same_type x.type t ≡ false

-- the last value, if it is of this type
abbrev pub Popped : ValueType → List Value → Option Value → List Value → Type 0
Popped t vs (Some v) rest = (vs ≡ rest ++ v ∷ []) × ((val_of v).type ≡ t)
Popped t vs None rest = Lacks t (stack_of vs)

-- an instruction becomes this, where it changes the values alone
abbrev pub OnStack : (R : Type 0) → Op → (stack after : List Value) → Turn → Type 0
OnStack R o vs vs' t = (p : Program R) (f : ℕ) (l : List Val) (w : World R) (i : Seq) → op_step p o f l w (stack_of vs) i ≡ step_of t f l w (stack_of vs') i

abbrev pub PoppedWord : List Value → Option ℕ → List Value → Type 0
PoppedWord vs (Some n) rest = stack_of vs ≡ value type.I32 n ∷ stack_of rest
PoppedWord vs None rest = Lacks type.I32 (stack_of vs)

abbrev pub BinaryIs : BinaryOp → (a b : Value) → Result Value Trap → Type 0
BinaryIs o a b (Ok v) = (binary (val_of a).type o (val_of a).word (val_of b).word ≡ Ok (val_of v).word) × ((val_of v).type ≡ (val_of a).type)
BinaryIs o a b (Err why) = binary (val_of a).type o (val_of a).word (val_of b).word ≡ Err why

-- an instruction becomes this, where it changes the values and the locals alone
abbrev pub OnLocals : (R : Type 0) → Op → (stack locals after set : List Value) → Turn → Type 0
OnLocals R o vs ls vs' ls' t =
    (p : Program R) (f : ℕ) (w : World R) (i : Seq) → op_step p o f (vals ls) w (stack_of vs) i ≡ step_of t f (vals ls') w (stack_of vs') i

-- the last value takes the place of a local or a global of the same type
abbrev pub Replaced : (R : Type 0) → ℕ → (stack slots : List Value) → Bool → (after set : List Value) → Type 0
Replaced R k vs ls b vs' ls' =
    (go : List Val → List Val → Step R) →
    with_top (stack_of vs) (λ x s. with_found (slice_get (vals ls) k) (λ old. replacing x old (go (slice_set (vals ls) k x) s))) ≡
    (if b then go (vals ls') (stack_of vs') else Stuck)

-- the same with the globals
abbrev pub OnGlobals : (R : Type 0) → Op → (stack globals after set : List Value) → Turn → Type 0
OnGlobals R o vs gs vs' gs' t =
    (p : Program R) (f : ℕ) (l : List Val) (memory : List ℕ) (records : R) (i : Seq) →
    op_step p o f l (record { memory = memory; globals = vals gs; records = records }) (stack_of vs) i ≡
    step_of t f l (record { memory = memory; globals = vals gs'; records = records }) (stack_of vs') i

-- the same with the memory
abbrev pub OnMemory : (R : Type 0) → Op → (stack : List Value) → (memory : List ℕ) → (after : List Value) → (set : List ℕ) → Turn → Type 0
OnMemory R o vs m vs' m' t =
    (p : Program R) (f : ℕ) (l globals : List Val) (records : R) (i : Seq) →
    op_step p o f l (record { memory = m; globals = globals; records = records }) (stack_of vs) i ≡
    step_of t f l (record { memory = m'; globals = globals; records = records }) (stack_of vs') i

abbrev pub Invoked : (R : Type 0) → FuncType → Func → Configuration → Configuration → Flow → Type 0
Invoked R t fn m m' way =
    Takes R (λ records. invoke_step (frames (layers m.levels.items)) (record { type = t; locals = fn.locals; body = fn.body }) m.fuel (vals m.locals.items)
    (world m records) (stack_of m.stack.items) (plain_of m.code.now)) m m' way

-- the same with the memory, the greatest size of which is the program's, and with the fuel
abbrev pub OnGrowth : (R : Type 0) → (stack : List Value) → (j : State) → (fuel : ℕ) → (after : List Value) → (j' : State) → (left : ℕ) → Turn → Type 0
OnGrowth R vs j f vs' j' f' t =
    (p : Program R) → p.most_pages ≡ j.most_pages → (l globals : List Val) (records : R) (i : Seq) →
    op_step p op.MemoryGrow f l (record { memory = j.memory; globals = globals; records = records }) (stack_of vs) i ≡
    step_of t f' l (record { memory = j'.memory; globals = globals; records = records }) (stack_of vs') i

-- an `if` enters this
abbrev pub EntersEither : (R : Type 0) → Conditional → (stack after : List Value) → Act → Type 0
EntersEither R c vs vs' a =
    (f : ℕ) (l : List Val) (w : World R) (i : Seq) → if_step c.result c.yes c.no f l w (stack_of vs) i ≡ act_step a f l w (stack_of vs') i

abbrev pub IsNoJump : Act → Type 0
IsNoJump (act.Become t) = Unit {0}
IsNoJump (act.Enter t b) = Unit {0}
IsNoJump (act.Repeat b) = Unit {0}
IsNoJump (act.Branch k) = ⊥
IsNoJump act.Return = ⊥

module _ {R : Type 0} where
  -- what may change all but the labels, frames and instructions becomes this
  abbrev pub Turns : (ℕ → List Val → World R → List Val → Seq → Step R) → (c c' : Configuration) → (before after : R) → Turn → Type 0
  Turns go c c' r r' t =
      (i : Seq) → go c.fuel (vals c.locals.items) (world c r) (stack_of c.stack.items) i ≡
      step_of t c'.fuel (vals c'.locals.items) (world c' r') (stack_of c'.stack.items) i

  -- a branch or a return changes nothing else
  abbrev pub Jumps : (c c' : Configuration) → (before after : R) → Act → Type 0
  Jumps c c' r r' (act.Become t) = Unit {0}
  Jumps c c' r r' (act.Enter t b) = Unit {0}
  Jumps c c' r r' (act.Repeat b) = Unit {0}
  Jumps c c' r r' (act.Branch k) = (c' ≡ c) × (r' ≡ r)
  Jumps c c' r r' act.Return = (c' ≡ c) × (r' ≡ r)

-- how a part goes on that neither ends the run nor spends the fuel
abbrev pub IsGoing : Flow → Type 0
IsGoing flow.Continue = Unit {0}
IsGoing (flow.Returned n) = ⊥
IsGoing (flow.Trapped why) = ⊥
IsGoing flow.Spent = ⊥
IsGoing flow.Stuck = Unit {0}

-- the same, or the fuel is spent
abbrev pub NoEnd : Flow → Type 0
NoEnd flow.Continue = Unit {0}
NoEnd (flow.Returned n) = ⊥
NoEnd (flow.Trapped why) = ⊥
NoEnd flow.Spent = Unit {0}
NoEnd flow.Stuck = Unit {0}

abbrev pub flow_of : Turn → Flow
flow_of (turn.On x) = flow.Continue
flow_of turn.Spent = flow.Spent
flow_of turn.Stuck = flow.Stuck

-- the fuel is spent only where that is what an instruction became
abbrev pub Spends : Act → Flow → Type 0
Spends a flow.Continue = Unit {0}
Spends a (flow.Returned n) = ⊥
Spends a (flow.Trapped why) = ⊥
Spends a flow.Spent = a ≡ act.Become turn.Spent
Spends a flow.Stuck = Unit {0}

-- a reduction costs nothing where this stands before this code
abbrev pub IsFree : Front → (code : List Instr) → Type 0
IsFree front.Nothing is = is ≡ []
IsFree (front.Again b) is = ⊥
IsFree _ is = Unit {0}

-- the end of a run costs nothing and leaves the records of the host as they were
abbrev pub Rests : {R : Type 0} → Configuration → Configuration → (before after : R) → Flow → Type 0
Rests c c' r r' flow.Continue = Unit {0}
Rests c c' r r' (flow.Returned n) = (c'.fuel ≡ c.fuel) × (r' ≡ r)
Rests c c' r r' (flow.Trapped why) = (c'.fuel ≡ c.fuel) × (r' ≡ r)
Rests c c' r r' flow.Spent = r' ≡ r
Rests c c' r r' flow.Stuck = Unit {0}

module _ {R : Type 0} (p : Program R) where
  -- the plain instruction at the front, its cost of 1 taken
  abbrev pub paid_step : ℕ → List Val → World R → List Val → Seq → Step R
  paid_step f l w s (Do o i) = op_step p o f l w s i
  paid_step f l w s (Block t b i) = block_step t b f l w s i
  paid_step f l w s (Loop t b i) = loop_step t b f l w s i
  paid_step f l w s (If t a b i) = if_step t a b f l w s i
  paid_step f l w s Nil = Stuck
  paid_step f l w s (Put x i) = Stuck
  paid_step f l w s (Free o i) = Stuck
  paid_step f l w s (FreeBlock t b i) = Stuck
  paid_step f l w s (Invoke fn i) = Stuck
  paid_step f l w s (Label t c j i) = Stuck
  paid_step f l w s (Frame t l' j i) = Stuck
  paid_step f l w s (Traps why i) = Stuck

  -- an instruction that is paid for does this
  abbrev pub Does : Instr → (c c' : Configuration) → (before after : R) → Act → Type 0
  Does x c c' r r' a = paid_step c.fuel (vals c.locals.items) (world c r) (stack_of c.stack.items) (plain (then_code x (code_of c.code.now)) Nil) ≡
      act_step a c'.fuel (vals c'.locals.items) (world c' r') (stack_of c'.stack.items) (plain_of c.code.now)

  -- one reduction of the whole is this flow
  abbrev pub Reduced : (c c' : Configuration) → (before after : R) → Flow → Type 0
  Reduced c c' r r' way = Is (reduce p (config c r)) way (config c' r')

-- a configuration before the first reduction
pub record Starts (m : Module) (fuel : ℕ) (c : Configuration) : Type 0 where
  pub linked : Linked m c
  pub fuel_is : c.fuel ≡ fuel
  pub starts : IsStart m (tt {0}) fuel (config c (tt {0}))

-- the outcome of a run that used this fuel
abbrev pub outcome_of : Flow → (used : ℕ) → Option Outcome
outcome_of flow.Continue used = None
outcome_of (flow.Returned status) used = Some (outcome.Returned status used)
outcome_of (flow.Trapped kind) used = Some (outcome.Trapped kind used)
outcome_of flow.Spent used = Some outcome.Spent
outcome_of flow.Stuck used = None
