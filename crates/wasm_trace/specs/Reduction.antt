-- Reduction (Core 1.0, chapter 4): one instruction at a time, on nested labels and frames, its cost taken first.
use Rattle.std.specs.Prelude.{◌≡◌, ℕ, zero, suc, ◌+◌, ◌-◌, ◌%◌, List, [], ◌∷◌, ◌++◌, Option, Some, None, Result, Ok, Err, if◌then◌else◌, nat_lt, nat_eq, length}
use Rattle.std.specs.Prelude.{take, drop, reverse, slice_get, slice_set, get_or}
use Rattle.wasm_ast.specs.declared.types.ValueType.{ValueType}
use Rattle.wasm_ast.specs.declared.types.ValueType.TheVariants.{I32}
use Rattle.wasm_ast.specs.declared.types.FuncType.{FuncType}
use Rattle.wasm_ast.specs.declared.trap.Trap.{Trap}
use Rattle.wasm_ast.specs.declared.trap.Trap.TheVariants as trap
use Rattle.wasm_ast.specs.declared.host_call.HostCall.{HostCall}
use Rattle.wasm_ast.specs.declared.host_call.HostAnswer.{HostAnswer}
use Rattle.wasm_ast.specs.declared.host_call.HostAnswer.TheVariants as answer
use Rattle.wasm_ast.specs.Types.{words, same_type}
use Rattle.wasm_ast.specs.Op.{Op, Unreachable, Nop, Drop, Select, Return, Br, BrIf, BrTable, Call, CallIndirect, LocalGet, LocalSet, LocalTee, GlobalGet}
use Rattle.wasm_ast.specs.Op.{GlobalSet, MemorySize, MemoryGrow, Load, Store, Const, Eqz, Unary, Compare, Binary, Convert}
use Rattle.wasm_ast.specs.Code as code
use Rattle.wasm_ast.specs.Code.{BlockType, Code}
use Rattle.wasm_ast.specs.Access.{load_type, load_width, store_type, store_width}
use Rattle.wasm_num.specs.Operators.{binary, unary, compare, eqz, convert, operand_type, result_type}
use Rattle.wasm_typing.specs.HostCalls.{arity}
use Rattle.wasm_meaning.specs.Memory.{pages, size_word, with_pages, bytes_of, load_value, with_bytes}
use Rattle.wasm_meaning.specs.Values.{Val, value, World, Reply, Function, Program, all_of, top_of, zeros}
use Rattle.wasm_meaning.specs.Meaning.{host_cost, grow_cost, same_func_type, greatest_depth, type_of}

-- an instruction sequence: values, plain instructions and the administrative ones, each before what follows it
pub data Seq : Type 0 where
  Nil : Seq
  -- a value, `t.const n`
  Put : Val → Seq → Seq
  -- plain instructions
  Do : Op → Seq → Seq
  Block : BlockType → (body : Code) → (after : Seq) → Seq
  Loop : BlockType → (body : Code) → (after : Seq) → Seq
  If : BlockType → (yes no : Code) → (after : Seq) → Seq
  -- an instruction that another one became, and that costs nothing more
  Free : Op → Seq → Seq
  FreeBlock : BlockType → (body : Code) → (after : Seq) → Seq
  -- the call of a function of the module
  Invoke : Function → Seq → Seq
  -- `label_n{continuation} inner end`
  Label : (n : BlockType) → (continuation : Code) → (inner after : Seq) → Seq
  -- `frame_n{locals} inner end`
  Frame : (n : BlockType) → (locals : List Val) → (inner after : Seq) → Seq
  -- `trap`
  Traps : (why : Trap) → Seq → Seq

-- plain instructions before a sequence
abbrev pub plain : Code → Seq → Seq
plain code.End i = i
plain (code.Do o c) i = Do o (plain c i)
plain (code.Block t b c) i = Block t b (plain c i)
plain (code.Loop t b c) i = Loop t b (plain c i)
plain (code.If t a b c) i = If t a b (plain c i)

-- values before a sequence, the first of the list is the last of them
abbrev pub values : List Val → Seq → Seq
values [] i = i
values (x ∷ s) i = values s (Put x i)

-- the fuel, the locals of the frame, what lies outside it, and a sequence
pub record Config (R : Type 0) : Type 0 where
  pub fuel : ℕ
  pub locals : List Val
  pub world : World R
  pub seq : Seq

-- what one reduction is
pub data Step (R : Type 0) : Type 0 where
  To : Config R → Step R
  -- there is none: values alone, the last first
  Ends : List Val → Step R
  -- a `br k` leaves k labels more than are here, with this fuel and these values before it
  Breaks : (k fuel : ℕ) → List Val → Step R
  -- so does a `return` the frame
  Leaves : (fuel : ℕ) → List Val → Step R
  -- there is none: a trap alone
  Trapped : Trap → Step R
  -- the fuel is less than the next cost
  Spent : Step R
  -- an operand, local, label or function is missing or of another type
  Stuck : Step R

module _ {R : Type 0} where
  abbrev pub conf : ℕ → List Val → World R → Seq → Config R
  conf f l w i = record { fuel = f; locals = l; world = w; seq = i }

  -- these values and what follows, in place of the redex
  abbrev pub at : ℕ → List Val → World R → List Val → Seq → Step R
  at f l w s i = To (conf f l w (values s i))

  -- a cost is taken before anything else happens
  abbrev pub paid : ℕ → ℕ → (ℕ → Step R) → Step R
  paid cost f go = if nat_lt f cost then Spent else (go (f - cost))

  abbrev pub with_top : List Val → (Val → List Val → Step R) → Step R
  with_top [] go = Stuck
  with_top (x ∷ s) go = go x s

  -- the last value, which is to be of this type
  abbrev pub operand : ValueType → List Val → (ℕ → List Val → Step R) → Step R
  operand t [] go = Stuck
  operand t (x ∷ s) go = if same_type x.type t then go x.word s else Stuck

  -- the words of values that are to be i32
  abbrev pub with_words : List Val → (List ℕ → Step R) → Step R
  with_words [] go = go []
  with_words (x ∷ xs) go = if same_type x.type I32 then (with_words xs (λ ns. go (x.word ∷ ns))) else Stuck

  abbrev pub with_found : {A : Type 0} → Option A → (A → Step R) → Step R
  with_found None go = Stuck
  with_found (Some x) go = go x

  -- n values in order, and those before them
  abbrev pub with_last : ℕ → List Val → (List Val → List Val → Step R) → Step R
  with_last n s go = if nat_lt (length s) n then Stuck else go (reverse (take n s)) (drop n s)

  -- a value of the same type in place of an old one
  abbrev pub replacing : Val → Val → Step R → Step R
  replacing x old go = if same_type x.type old.type then go else Stuck

  -- `trap` alone, or within a sequence that it takes the place of
  abbrev pub trap_step : ℕ → List Val → World R → List Val → Trap → Seq → Step R
  trap_step f l w [] why Nil = Trapped why
  trap_step f l w [] why (Put x i) = at f l w [] (Traps why Nil)
  trap_step f l w [] why (Do x i) = at f l w [] (Traps why Nil)
  trap_step f l w [] why (Block t b i) = at f l w [] (Traps why Nil)
  trap_step f l w [] why (Loop t b i) = at f l w [] (Traps why Nil)
  trap_step f l w [] why (If t a b i) = at f l w [] (Traps why Nil)
  trap_step f l w [] why (Free o i) = at f l w [] (Traps why Nil)
  trap_step f l w [] why (FreeBlock t b i) = at f l w [] (Traps why Nil)
  trap_step f l w [] why (Invoke fn i) = at f l w [] (Traps why Nil)
  trap_step f l w [] why (Label t c j i) = at f l w [] (Traps why Nil)
  trap_step f l w [] why (Frame t c j i) = at f l w [] (Traps why Nil)
  trap_step f l w [] why (Traps other i) = at f l w [] (Traps why Nil)
  trap_step f l w (x ∷ s) why i = at f l w [] (Traps why Nil)

  -- `label_n{c} inner end`, by what one step of the inner sequence is
  abbrev pub in_label : ℕ → List Val → World R → List Val → BlockType → Code → Seq → Step R → Step R
  in_label f l w s t c i (To x) = at x.fuel x.locals x.world s (Label t c x.seq i)
  in_label f l w s t c i (Ends v) = at f l w s (values v i)
  in_label f l w s t c i (Breaks zero f' v) = with_found (top_of t v) (λ r. at f' l w s (values r (plain c i)))
  in_label f l w s t c i (Breaks (suc k) f' v) = Breaks k f' v
  in_label f l w s t c i (Leaves f' v) = Leaves f' v
  in_label f l w s t c i (Trapped why) = at f l w s (Traps why i)
  in_label f l w s t c i Spent = Spent
  in_label f l w s t c i Stuck = Stuck

  -- `frame_n{..} inner end`, where l are the locals outside
  abbrev pub in_frame : ℕ → List Val → World R → List Val → BlockType → Seq → Step R → Step R
  in_frame f l w s t i (To x) = at x.fuel l x.world s (Frame t x.locals x.seq i)
  in_frame f l w s t i (Ends v) = with_found (all_of t v) (λ r. at f l w s (values r i))
  in_frame f l w s t i (Breaks k f' v) = Stuck
  in_frame f l w s t i (Leaves f' v) = with_found (top_of t v) (λ r. at f' l w s (values r i))
  in_frame f l w s t i (Trapped why) = at f l w s (Traps why i)
  in_frame f l w s t i Spent = Spent
  in_frame f l w s t i Stuck = Stuck

  -- an operator's word, or its trap
  abbrev pub numbered : ValueType → Result ℕ Trap → ℕ → List Val → World R → List Val → Seq → Step R
  numbered t (Ok n) f l w s i = at f l w s (Put (value t n) i)
  numbered t (Err why) f l w s i = at f l w s (Traps why i)

  -- an access to so many bytes from a place on
  abbrev pub accessed : (place width : ℕ) → ℕ → List Val → World R → List Val → Seq → Step R → Step R
  accessed place width f l w s i go = if (nat_lt (length w.memory) (place + width)) then at f l w s (Traps trap.OutOfBounds i) else go

  abbrev pub grow_step : (most n : ℕ) → ℕ → List Val → World R → List Val → Seq → Step R
  grow_step most n f l w s i =
      if (nat_lt most (pages w.memory + n)) then (at f l w s (Put (value I32 (words I32 - 1)) i)) else
      at f l (record w { memory = with_pages n w.memory }) s (Put (value I32 (size_word w.memory)) i)

  -- what a host's answer becomes
  abbrev pub answered : HostAnswer → ℕ → List Val → World R → List Val → Seq → Step R
  answered (answer.Value n) f l w s i = at f l w s (Put (value I32 (n % words I32)) i)
  answered answer.OutOfBounds f l w s i = at f l w s (Traps trap.OutOfBounds i)

  abbrev pub after_host : Reply R → (globals : List Val) → ℕ → List Val → List Val → Seq → Step R
  after_host r g f l s i = answered r.answer f l (record { memory = r.memory; globals = g; records = r.records }) s i

  -- a frame round the function's body; at most 64 frames stand in one another
  abbrev pub invoke_step : ℕ → Function → ℕ → List Val → World R → List Val → Seq → Step R
  invoke_step d fn f l w s i =
      with_last (length fn.type.params) s
      (λ args s. if nat_lt d greatest_depth then (at f l w s (Frame fn.type.result (args ++ zeros fn.locals) (FreeBlock fn.type.result fn.body Nil) i)) else
      at f l w s (Traps trap.CallDepth i))

  abbrev pub block_step : BlockType → Code → ℕ → List Val → World R → List Val → Seq → Step R
  block_step t b f l w s i = at f l w s (Label t code.End (plain b Nil) i)

  abbrev pub loop_step : BlockType → Code → ℕ → List Val → World R → List Val → Seq → Step R
  loop_step t b f l w s i = at f l w s (Label None (code.Loop t b code.End) (plain b Nil) i)

  abbrev pub if_step : BlockType → Code → Code → ℕ → List Val → World R → List Val → Seq → Step R
  if_step t a b f l w s i =
      operand I32 s (λ n s. block_step t (if nat_eq n 0 then b else a) f l w s i)

module _ {R : Type 0} (p : Program R) where
  -- a call of the host is answered at once
  abbrev pub host_step : HostCall → ℕ → List Val → World R → List Val → Seq → Step R
  host_step which f l w s i =
      with_last (arity which) s
      (λ args s. with_words args (λ ns. paid (host_cost which ns) f (λ f. after_host (p.host which ns w.memory w.records) w.globals f l s i)))

  -- a call of a function by its index, the imported ones first
  abbrev pub call_step : ℕ → ℕ → List Val → World R → List Val → Seq → Step R
  call_step k f l w s i =
      if nat_lt k (length p.imports) then (with_found (slice_get p.imports k) (λ which. host_step which f l w s i)) else
      (with_found (slice_get p.functions (k - length p.imports)) (λ fn. at f l w s (Invoke fn i)))

  -- a call of a function of the type t by an entry of the table
  abbrev pub entry_step : FuncType → Option (Option ℕ) → ℕ → List Val → World R → List Val → Seq → Step R
  entry_step t None f l w s i = at f l w s (Traps trap.UndefinedElement i)
  entry_step t (Some None) f l w s i = at f l w s (Traps trap.UninitializedElement i)
  entry_step t (Some (Some k)) f l w s i =
      with_found (type_of p k) (λ u. if same_func_type t u then call_step k f l w s i else at f l w s (Traps trap.IndirectCallType i))

  -- an instruction with none inside, its cost taken: the fuel, the locals, the world, the values before it, the last first, and what follows
  abbrev pub op_step : Op → ℕ → List Val → World R → List Val → Seq → Step R
  op_step Unreachable f l w s i = at f l w s (Traps trap.Unreachable i)
  op_step Nop f l w s i = at f l w s i
  op_step Drop f l w s i = with_top s (λ x s. at f l w s i)
  op_step Select f l w s i =
      operand I32 s (λ n s. with_top s (λ y s. with_top s (λ x s. replacing x y (at f l w s (Put (if nat_eq n 0 then y else x) i)))))
  op_step Return f l w s i = Leaves f s
  op_step (Br k) f l w s i = Breaks k f s
  op_step (BrIf k) f l w s i =
      operand I32 s (λ n s. if nat_eq n 0 then at f l w s i else at f l w s (Free (Br k) i))
  op_step (BrTable ks k) f l w s i =
      operand I32 s (λ n s. at f l w s (Free (Br (get_or ks n k)) i))
  op_step (Call k) f l w s i = call_step k f l w s i
  op_step (CallIndirect x) f l w s i =
      operand I32 s (λ n s. with_found (slice_get p.types x) (λ t. entry_step t (slice_get p.table n) f l w s i))
  op_step (LocalGet k) f l w s i = with_found (slice_get l k) (λ x. at f l w s (Put x i))
  op_step (LocalSet k) f l w s i =
      with_top s (λ x s. with_found (slice_get l k) (λ old. replacing x old (at f (slice_set l k x) w s i)))
  op_step (LocalTee k) f l w s i = with_top s (λ x s. at f l w (x ∷ x ∷ s) (Free (LocalSet k) i))
  op_step (GlobalGet k) f l w s i = with_found (slice_get w.globals k) (λ x. at f l w s (Put x i))
  op_step (GlobalSet k) f l w s i =
      with_top s (λ x s. with_found (slice_get w.globals k) (λ old. replacing x old (at f l (record w { globals = slice_set w.globals k x }) s i)))
  op_step MemorySize f l w s i = at f l w s (Put (value I32 (size_word w.memory)) i)
  op_step MemoryGrow f l w s i =
      operand I32 s (λ n s. paid (grow_cost n) f (λ f. grow_step p.most_pages n f l w s i))
  op_step (Load o align offset) f l w s i =
      operand I32 s (λ a s. accessed (a + offset) (load_width o) f l w s i (at f l w s (Put (value (load_type o) (load_value o w.memory (a + offset))) i)))
  op_step (Store o align offset) f l w s i =
      operand (store_type o) s
      (λ n s. operand I32 s
      (λ a s. accessed (a + offset) (store_width o) f l w s i
      (at f l (record w { memory = with_bytes w.memory (a + offset) (bytes_of (store_width o) n) }) s i)))
  op_step (Const t n) f l w s i = at f l w s (Put (value t n) i)
  op_step (Eqz t) f l w s i = operand t s (λ a s. at f l w s (Put (value I32 (eqz a)) i))
  op_step (Unary t o) f l w s i = operand t s (λ a s. at f l w s (Put (value t (unary t o a)) i))
  op_step (Compare t o) f l w s i =
      operand t s (λ b s. operand t s (λ a s. at f l w s (Put (value I32 (compare t o a b)) i)))
  op_step (Binary t o) f l w s i =
      operand t s (λ b s. operand t s (λ a s. numbered t (binary t o a b) f l w s i))
  op_step (Convert o) f l w s i =
      operand (operand_type o) s (λ a s. at f l w s (Put (value (result_type o) (convert o a)) i))

  -- the first redex of a sequence within d frames, where these values stand before it, the last first
  abbrev pub step : ℕ → ℕ → List Val → World R → List Val → Seq → Step R
  step d f l w s Nil = Ends s
  step d f l w s (Put x i) = step d f l w (x ∷ s) i
  step d f l w s (Do o i) = paid 1 f (λ f. op_step o f l w s i)
  step d f l w s (Block t b i) = paid 1 f (λ f. block_step t b f l w s i)
  step d f l w s (Loop t b i) = paid 1 f (λ f. loop_step t b f l w s i)
  step d f l w s (If t a b i) = paid 1 f (λ f. if_step t a b f l w s i)
  step d f l w s (Free o i) = op_step o f l w s i
  step d f l w s (FreeBlock t b i) = block_step t b f l w s i
  step d f l w s (Invoke fn i) = invoke_step d fn f l w s i
  step d f l w s (Label t c j i) = in_label f l w s t c i (step d f l w [] j)
  step d f l w s (Frame t l' j i) = in_frame f l w s t i (step (d + 1) f l' w [] j)
  step d f l w s (Traps why i) = trap_step f l w s why i

  -- one reduction of a configuration within d frames
  abbrev pub reduce_in : ℕ → Config R → Step R
  reduce_in d x = step d x.fuel x.locals x.world [] x.seq

  abbrev pub reduce : Config R → Step R
  reduce x = reduce_in 0 x

  -- k reductions lead from one configuration to another
  abbrev pub Steps : ℕ → Config R → Config R → Type 0
  Steps zero x y = x ≡ y
  Steps (suc k) x y = (z : Config R) × (reduce x ≡ To z) × Steps k z y

  -- some number of reductions
  abbrev pub Reaches : Config R → Config R → Type 0
  Reaches x y = (k : ℕ) × Steps k x y
