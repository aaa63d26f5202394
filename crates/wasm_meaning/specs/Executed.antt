-- How many instructions the meaning of code executes: those whose cost of 1 is paid.
use Rattle.std.specs.Prelude.{ℕ, zero, suc, ◌+◌, ◌-◌, List, [], ◌∷◌, ◌++◌, Option, Some, None, if◌then◌else◌, ◌&&◌, nat_lt, nat_eq, length, take, reverse}
use Rattle.std.specs.Prelude.{slice_get, map}
use Rattle.wasm_ast.specs.declared.types.ValueType.{ValueType}
use Rattle.wasm_ast.specs.declared.types.ValueType.TheVariants.{I32}
use Rattle.wasm_ast.specs.declared.module.Module.{Module}
use Rattle.wasm_ast.specs.Types.{words, same_type}
use Rattle.wasm_ast.specs.declared.types.FuncType.{FuncType}
use Rattle.wasm_ast.specs.Op.{Op, Call, CallIndirect}
use Rattle.wasm_ast.specs.Code.{Code, End, Do, Block, Loop, If}
use Rattle.wasm_typing.specs.HostCalls.{host_calls}
use Rattle.wasm_typing.specs.ModuleRules.{invoke_of}
use Rattle.wasm_meaning.specs.Values.{Val, World, Answer, Next, Branch, Returns, Trapped, Spent, Stuck, Answering, Function, Program, zeros}
use Rattle.wasm_meaning.specs.Meaning.{greatest_depth, same_func_type, block_end, loop_end, type_of, leaf, tree, meaning}
use Rattle.wasm_meaning.specs.Program.{function_of, program_of, fresh_world}

-- a count for what comes next
abbrev pub Count : Type 0 → Type 0
Count R = (fuel : ℕ) (stack locals : List Val) (world : World R) → ℕ

-- a count for code in a function at a depth
abbrev pub Counts : Type 0 → Type 0
Counts R = (depth : ℕ) → Code → Count R

-- an instruction counts where its cost is paid, and so does what it leads to
abbrev pub count_paid : ℕ → (ℕ → ℕ) → ℕ
count_paid fuel go = if nat_lt fuel 1 then 0 else (1 + go (fuel - 1))

abbrev pub if_some : {A : Type 0} → Option A → (A → ℕ) → ℕ
if_some None go = 0
if_some (Some x) go = go x

abbrev pub if_top : List Val → (Val → List Val → ℕ) → ℕ
if_top [] go = 0
if_top (x ∷ s) go = go x s

abbrev pub if_word : ValueType → Val → (ℕ → ℕ) → ℕ
if_word t x go = if (same_type x.type t && nat_lt x.word (words t)) then go x.word else 0

module _ {R : Type 0} where
  -- what comes after code that went past its end
  abbrev pub if_next : Answer R → Count R → ℕ
  if_next (Next f s l w) go = go f s l w
  if_next (Branch k f s l w) go = 0
  if_next (Returns f s l w) go = 0
  if_next (Trapped why f w) go = 0
  if_next (Spent w) go = 0
  if_next Stuck go = 0

  -- a loop that was entered with this stack below it is executed again after a branch to it
  abbrev pub if_again : List Val → Answer R → Count R → ℕ
  if_again lower (Next f s l w) go = 0
  if_again lower (Branch zero f s l w) go = go f lower l w
  if_again lower (Branch (suc k) f s l w) go = 0
  if_again lower (Returns f s l w) go = 0
  if_again lower (Trapped why f w) go = 0
  if_again lower (Spent w) go = 0
  if_again lower Stuck go = 0

  -- the body of a function that is called
  abbrev pub in_function : Counts R → ℕ → Function → Count R
  in_function count d fn f s l w =
      let n = length fn.type.params in if nat_lt (length s) n then 0 else
      (if nat_lt d greatest_depth then (count (d + 1) fn.body f [] (reverse (take n s) ++ zeros fn.locals) w) else 0)

module _ {R : Type 0} (p : Program R) where
  -- a call of a function: only one of a module function executes instructions
  abbrev pub in_call : Counts R → ℕ → ℕ → Count R
  in_call count d i f s l w =
      if nat_lt i (length p.imports) then 0 else (if_some (slice_get p.functions (i - length p.imports)) (λ fn. in_function count d fn f s l w))

  -- a call by an entry of the table
  abbrev pub in_entry : Counts R → ℕ → FuncType → Option (Option ℕ) → Count R
  in_entry count d t None f s l w = 0
  in_entry count d t (Some None) f s l w = 0
  in_entry count d t (Some (Some i)) f s l w =
      if_some (type_of p i) (λ u. if same_func_type t u then in_call count d i f s l w else 0)

  -- only a call executes instructions beyond itself
  abbrev pub in_leaf : Counts R → ℕ → Op → Count R
  in_leaf count d (Call i) f s l w = in_call count d i f s l w
  in_leaf count d (CallIndirect x) f s l w =
      if_top s (λ v s. if_word I32 v (λ n. if_some (slice_get p.types x) (λ t. in_entry count d t (slice_get p.table n) f s l w)))
  in_leaf count d _ f s l w = 0

  -- a tree, where `count` is for loops that are executed again and for calls
  abbrev pub in_tree : Counts R → Counts R
  in_tree count d End f s l w = 0
  in_tree count d (Do o c) f s l w =
      count_paid f (λ f. in_leaf count d o f s l w + if_next (leaf p (meaning p) d o f s l w) (in_tree count d c))
  in_tree count d (Block t b c) f s l w =
      count_paid f (λ f. in_tree count d b f [] l w + if_next (block_end t s (tree p (meaning p) d b f [] l w)) (in_tree count d c))
  in_tree count d (Loop t b c) f s l w =
      count_paid f (λ f. (in_tree count d b f [] l w + if_again s (tree p (meaning p) d b f [] l w) (count d (Loop t b End))) +
      if_next (loop_end t s (meaning p d (Loop t b End)) (tree p (meaning p) d b f [] l w)) (in_tree count d c))
  in_tree count d (If t a b c) f s l w =
      count_paid f (λ f. if_top s
      (λ x s. if_word I32 x
      (λ n. (if nat_eq n 0 then in_tree count d b f [] l w else in_tree count d a f [] l w) +
      if_next (block_end t s (if nat_eq n 0 then tree p (meaning p) d b f [] l w else tree p (meaning p) d a f [] l w)) (in_tree count d c))))

  -- at most n loops and calls one in the other, as in the meaning
  abbrev pub in_bounded : ℕ → Counts R
  in_bounded zero d c f s l w = 0
  in_bounded (suc n) d c f s l w = in_tree (in_bounded n) d c f s l w

  -- how many instructions the meaning of a tree executes
  unfoldable pub executed : Counts R
  executed d c f s l w = in_bounded (suc f) d c f s l w

-- how many instructions `invoke` executes on a fresh instance
abbrev pub executed_by : {R : Type 0} → Module → Answering R → R → ℕ → ℕ
executed_by m host records fuel =
    if_some (invoke_of m)
    (λ i. if_some (slice_get (map (function_of m.types) m.functions) (i - length (host_calls m.imports)))
    (λ fn. in_function (executed (program_of m host)) 0 fn fuel [] [] (fresh_world m records)))
