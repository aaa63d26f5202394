-- No more instructions are executed than fuel is used: each pays at least 1.
use Rattle.std.proofs.Common.{◌≡◌, ℕ, zero, suc, ◌+◌, ◌-◌, ◌≤◌, Bool, true, false, cond, Option, Some, None, List, [], ◌∷◌, ◌++◌, length, refl, sym, subst}
use Rattle.std.proofs.Common.{arith, take, drop, reverse, map}
use Rattle.std.specs.Prelude.{◌&&◌, nat_lt, nat_eq, slice_get}
use Rattle.std.proofs.lemmas.Bool.Decides.{nat_tests}
use Rattle.wasm_ast.specs.declared.types.ValueType.{ValueType}
use Rattle.wasm_ast.specs.declared.types.ValueType.TheVariants.{I32}
use Rattle.wasm_ast.specs.declared.trap.Trap.TheVariants as trap
use Rattle.wasm_ast.specs.declared.module.Module.{Module}
use Rattle.wasm_ast.specs.declared.host_call.HostCall.{HostCall}
use Rattle.wasm_ast.specs.Types.{words, same_type}
use Rattle.wasm_ast.specs.declared.types.FuncType.{FuncType}
use Rattle.wasm_ast.specs.Op.{Op, Unreachable, Nop, Drop, Select, Return, Br, BrIf, BrTable, Call, CallIndirect, LocalGet, LocalSet, LocalTee, GlobalGet}
use Rattle.wasm_ast.specs.Op.{GlobalSet, MemorySize, MemoryGrow, Load, Store, Const, Eqz, Unary, Compare, Binary, Convert}
use Rattle.wasm_ast.specs.Code.{BlockType, Code, End, Do, Block, Loop, If}
use Rattle.wasm_typing.specs.HostCalls.{host_calls}
use Rattle.wasm_typing.specs.ModuleRules.{invoke_of}
use Rattle.wasm_meaning.specs.Values.{Val, World, Answer, Next, Branch, Returns, Trapped, Spent, Stuck, Answering, Function, Program, Then, all_of, top_of}
use Rattle.wasm_meaning.specs.Values.{zeros}
use Rattle.wasm_meaning.specs.Meaning.{greatest_depth, same_func_type, then_do, pay, on_top, as_word, with_some, block_end, loop_end, call_end, call_host}
use Rattle.wasm_meaning.specs.Meaning.{call_function, type_of, call, call_entry, leaf, tree, meaning}
use Rattle.wasm_meaning.specs.Program.{function_of, program_of, fresh_world, invocation}
use Rattle.wasm_meaning.specs.Fuel.{fuel_left}
use Rattle.wasm_meaning.specs.Laws.Unfold.{meaning-is, meaning-left, leaf_left, host_left}
use Rattle.wasm_meaning.specs.Executed.{Count, Counts, count_paid, if_some, if_top, if_word, if_next, if_again, in_function, in_call, in_entry, in_leaf}
use Rattle.wasm_meaning.specs.Executed.{in_tree, in_bounded, executed, executed_by}

module _ {R : Type 0} where
  -- k instructions were executed from fuel n to an answer
  pub record Fits (n k : ℕ) (a : Answer R) : Type 0 where
    pub fits : k + fuel_left a ≤ n

  none_fits : (n : ℕ) (a : Answer R) → fuel_left a ≤ n → Fits n 0 a
  none_fits n a h = record { fits = omega (arith, h) }

  some_fits : {A : Type 0} (n : ℕ) (o : Option A) (g : A → ℕ) (h : A → Answer R) → ((x : A) → Fits n (g x) (h x)) → Fits n (if_some o g) (with_some o h)
  some_fits n None g h k = record { fits = omega arith }
  some_fits n (Some x) g h k = k x

  cond_fits : (n : ℕ) (b : Bool) (j k : ℕ) (x y : Answer R) → Fits n j x → Fits n k y → Fits n (cond b j k) (cond b x y)
  cond_fits n true j k x y h i = h
  cond_fits n false j k x y h i = i

  top_fits : (n : ℕ) (s : List Val) (g : Val → List Val → ℕ) (h : Val → List Val → Answer R) → ((x : Val) (s : List Val) → Fits n (g x s) (h x s)) →
      Fits n (if_top s g) (on_top s h)
  top_fits n [] g h k = omega arith
  top_fits n (x ∷ s) g h k = k x s

  word_fits : (n : ℕ) (t : ValueType) (x : Val) (g : ℕ → ℕ) (h : ℕ → Answer R) → ((m : ℕ) → Fits n (g m) (h m)) → Fits n (if_word t x g) (as_word t x h)
  word_fits n t x g h k = cond_fits n (same_type x.type t && nat_lt x.word (words t)) (g x.word) 0 (h x.word) Stuck (k x.word) (record { fits = omega arith })

  pay_fits : (f : ℕ) (w : World R) (g : ℕ → ℕ) (h : ℕ → Answer R) → ((f : ℕ) → Fits f (g f) (h f)) → Fits f (count_paid f g) (pay 1 f w h)
  pay_fits f w g h k = go (nat_lt f 1) refl
    where
      go : (b : Bool) → nat_lt f 1 ≡ b → Fits f (cond b 0 (1 + g (f - 1))) (cond b (Spent w) (h (f - 1)))
      go true e = record { fits = omega arith }
      go false e = let one : 1 ≤ f = grind (arith, nat_tests) in let rest = k (f - 1) in record { fits = omega (arith, rest, one) }

  next_fits : (n k : ℕ) (a : Answer R) (g : Count R) (h : Then R) → Fits n k a → ((f : ℕ) (s l : List Val) (w : World R) → Fits f (g f s l w) (h f s l w)) →
      Fits n (k + if_next a g) (then_do a h)
  next_fits n k (Next f s l w) g h i j = let rest = j f s l w in record { fits = omega (arith, i, rest) }
  next_fits n k (Branch m f s l w) g h i j = record { fits = omega (arith, i) }
  next_fits n k (Returns f s l w) g h i j = record { fits = omega (arith, i) }
  next_fits n k (Trapped why f w) g h i j = record { fits = omega (arith, i) }
  next_fits n k (Spent w) g h i j = record { fits = omega (arith, i) }
  next_fits n k Stuck g h i j = record { fits = omega (arith, i) }

  -- the results leave the fuel as it is
  results_left : (f : ℕ) (o : Option (List Val)) (lower l : List Val) (w : World R) → fuel_left (with_some o (λ r. Next f (r ++ lower) l w)) ≤ f
  results_left f None lower l w = omega arith
  results_left f (Some r) lower l w = omega arith

  block_left : (t : BlockType) (lower : List Val) (a : Answer R) → fuel_left (block_end t lower a) ≤ fuel_left a
  block_left t lower (Next f s l w) = results_left f (all_of t s) lower l w
  block_left t lower (Branch zero f s l w) = results_left f (top_of t s) lower l w
  block_left t lower (Branch (suc k) f s l w) = omega arith
  block_left t lower (Returns f s l w) = omega arith
  block_left t lower (Trapped why f w) = omega arith
  block_left t lower (Spent w) = omega arith
  block_left t lower Stuck = omega arith

  call_left : (t : BlockType) (lower m : List Val) (a : Answer R) → fuel_left (call_end t lower m a) ≤ fuel_left a
  call_left t lower m (Next f s l w) = results_left f (all_of t s) lower m w
  call_left t lower m (Branch zero f s l w) = results_left f (top_of t s) lower m w
  call_left t lower m (Branch (suc k) f s l w) = omega arith
  call_left t lower m (Returns f s l w) = results_left f (top_of t s) lower m w
  call_left t lower m (Trapped why f w) = omega arith
  call_left t lower m (Spent w) = omega arith
  call_left t lower m Stuck = omega arith

  block_fits : (n k : ℕ) (t : BlockType) (lower : List Val) (a : Answer R) → Fits n k a → Fits n k (block_end t lower a)
  block_fits n k t lower a h = let left = block_left t lower a in record { fits = omega (arith, h, left) }

  loop_fits : (n k : ℕ) (t : BlockType) (lower : List Val) (a : Answer R) (g : Count R) (h : Then R) → Fits n k a →
      ((f : ℕ) (s l : List Val) (w : World R) → Fits f (g f s l w) (h f s l w)) → Fits n (k + if_again lower a g) (loop_end t lower h a)
  loop_fits n k t lower (Next f s l w) g h i j = let left = results_left f (all_of t s) lower l w in record { fits = omega (arith, i, left) }
  loop_fits n k t lower (Branch zero f s l w) g h i j = let rest = j f lower l w in record { fits = omega (arith, i, rest) }
  loop_fits n k t lower (Branch (suc m) f s l w) g h i j = record { fits = omega (arith, i) }
  loop_fits n k t lower (Returns f s l w) g h i j = record { fits = omega (arith, i) }
  loop_fits n k t lower (Trapped why f w) g h i j = record { fits = omega (arith, i) }
  loop_fits n k t lower (Spent w) g h i j = record { fits = omega (arith, i) }
  loop_fits n k t lower Stuck g h i j = record { fits = omega (arith, i) }

module _ {R : Type 0} (p : Program R) where
  -- counts of loops and calls fit the meaning
  abbrev pub AllFit : Counts R → Type 0
  AllFit count = (d : ℕ) (c : Code) (f : ℕ) (s l : List Val) (w : World R) → Fits f (count d c f s l w) (meaning p d c f s l w)

  function_fits : (count : Counts R) → AllFit count → (d : ℕ) (fn : Function) (f : ℕ) (s l : List Val) (w : World R) →
      Fits f (in_function count d fn f s l w) (call_function (meaning p) d fn f s l w)
  function_fits count k d fn f s l w =
      let n = length fn.type.params in
      let locals = reverse (take n s) ++ zeros fn.locals in
      let body = k (d + 1) fn.body f [] locals w in
      let left = call_left fn.type.result (drop n s) l (meaning p (d + 1) fn.body f [] locals w) in
      cond_fits f (nat_lt (length s) n) 0 _ Stuck _ (record { fits = omega arith })
      (cond_fits f (nat_lt d greatest_depth) _ 0 _ (Trapped trap.CallDepth f w) (record { fits = omega (arith, body.fits, left) })
      (record { fits = omega arith }))

  alone : (d : ℕ) (o : Op) (f : ℕ) (s l : List Val) (w : World R) → Fits f 0 (leaf p (meaning p) d o f s l w)
  alone d o f s l w = none_fits f (leaf p (meaning p) d o f s l w) (leaf_left p d o f s l w)

  call_fits : (count : Counts R) → AllFit count → (d i f : ℕ) (s l : List Val) (w : World R) →
      Fits f (in_call p count d i f s l w) (call p (meaning p) d i f s l w)
  call_fits count k d i f s l w =
      cond_fits f (nat_lt i (length p.imports)) 0 _ _ _ (imported (slice_get p.imports i))
      (some_fits f (slice_get p.functions (i - length p.imports)) _ _ (λ fn. function_fits count k d fn f s l w))
    where
      imported : (o : Option HostCall) → Fits f 0 (with_some o (λ which. call_host p.host which f s l w))
      imported None = record { fits = omega arith }
      imported (Some which) = none_fits f (call_host p.host which f s l w) (host_left f p.host which s l w)

  entry_fits : (count : Counts R) → AllFit count → (d : ℕ) (t : FuncType) (e : Option (Option ℕ)) (f : ℕ) (s l : List Val) (w : World R) →
      Fits f (in_entry p count d t e f s l w) (call_entry p (meaning p) d t e f s l w)
  entry_fits count k d t None f s l w = record { fits = omega arith }
  entry_fits count k d t (Some None) f s l w = record { fits = omega arith }
  entry_fits count k d t (Some (Some i)) f s l w =
      some_fits f (type_of p i) _ _
      (λ u. cond_fits f (same_func_type t u) _ 0 _ (Trapped trap.IndirectCallType f w) (call_fits count k d i f s l w) (record { fits = omega arith }))

  leaf_fits : (count : Counts R) → AllFit count → (d : ℕ) (o : Op) (f : ℕ) (s l : List Val) (w : World R) →
      Fits f (in_leaf p count d o f s l w) (leaf p (meaning p) d o f s l w)
  leaf_fits count k d (Call i) f s l w = call_fits count k d i f s l w
  leaf_fits count k d (CallIndirect x) f s l w =
      top_fits f s _ _ (λ v s. word_fits f I32 v _ _ (λ n. some_fits f (slice_get p.types x) _ _ (λ t. entry_fits count k d t (slice_get p.table n) f s l w)))
  leaf_fits count k d Unreachable f s l w = alone d Unreachable f s l w
  leaf_fits count k d Nop f s l w = alone d Nop f s l w
  leaf_fits count k d Drop f s l w = alone d Drop f s l w
  leaf_fits count k d Select f s l w = alone d Select f s l w
  leaf_fits count k d Return f s l w = alone d Return f s l w
  leaf_fits count k d (Br n) f s l w = alone d (Br n) f s l w
  leaf_fits count k d (BrIf n) f s l w = alone d (BrIf n) f s l w
  leaf_fits count k d (BrTable ns n) f s l w = alone d (BrTable ns n) f s l w
  leaf_fits count k d (LocalGet n) f s l w = alone d (LocalGet n) f s l w
  leaf_fits count k d (LocalSet n) f s l w = alone d (LocalSet n) f s l w
  leaf_fits count k d (LocalTee n) f s l w = alone d (LocalTee n) f s l w
  leaf_fits count k d (GlobalGet n) f s l w = alone d (GlobalGet n) f s l w
  leaf_fits count k d (GlobalSet n) f s l w = alone d (GlobalSet n) f s l w
  leaf_fits count k d MemorySize f s l w = alone d MemorySize f s l w
  leaf_fits count k d MemoryGrow f s l w = alone d MemoryGrow f s l w
  leaf_fits count k d (Load o align offset) f s l w = alone d (Load o align offset) f s l w
  leaf_fits count k d (Store o align offset) f s l w = alone d (Store o align offset) f s l w
  leaf_fits count k d (Const t n) f s l w = alone d (Const t n) f s l w
  leaf_fits count k d (Eqz t) f s l w = alone d (Eqz t) f s l w
  leaf_fits count k d (Unary t o) f s l w = alone d (Unary t o) f s l w
  leaf_fits count k d (Compare t o) f s l w = alone d (Compare t o) f s l w
  leaf_fits count k d (Binary t o) f s l w = alone d (Binary t o) f s l w
  leaf_fits count k d (Convert o) f s l w = alone d (Convert o) f s l w

  tree_fits : (count : Counts R) → AllFit count → (d : ℕ) (c : Code) (f : ℕ) (s l : List Val) (w : World R) →
      Fits f (in_tree p count d c f s l w) (tree p (meaning p) d c f s l w)
  tree_fits count k d End f s l w = record { fits = omega arith }
  tree_fits count k d (Do o c) f s l w =
      pay_fits f w _ _ (λ f. next_fits f _ _ _ _ (leaf_fits count k d o f s l w) (λ f s l w. tree_fits count k d c f s l w))
  tree_fits count k d (Block t b c) f s l w =
      pay_fits f w _ _ (λ f. next_fits f _ _ _ _ (block_fits f _ t s _ (tree_fits count k d b f [] l w)) (λ f s l w. tree_fits count k d c f s l w))
  tree_fits count k d (Loop t b c) f s l w =
      pay_fits f w _ _ (λ f.
      next_fits f _ _ _ _ (loop_fits f _ t s _ _ _ (tree_fits count k d b f [] l w) (λ f s l w. k d (Loop t b End) f s l w))
      (λ f s l w. tree_fits count k d c f s l w))
  tree_fits count k d (If t a b c) f s l w =
      pay_fits f w _ _ (λ f.
      top_fits f s _ _ (λ x s.
      word_fits f I32 x _ _
      (λ n. next_fits f _ _ _ _ (block_fits f _ t s _ (cond_fits f (nat_eq n 0) _ _ _ _ (tree_fits count k d b f [] l w) (tree_fits count k d a f [] l w)))
      (λ f s l w. tree_fits count k d c f s l w))))

  bounded_fits : (n : ℕ) → AllFit (in_bounded p n)
  bounded_fits zero d c f s l w = none_fits f (meaning p d c f s l w) (meaning-left p d c f s l w)
  bounded_fits (suc n) d c f s l w =
      subst (λ (a : Answer R). Fits f (in_bounded p (suc n) d c f s l w) a) (sym (meaning-is p d c f s l w))
      (tree_fits (in_bounded p n) (bounded_fits n) d c f s l w)

  pub executed_fits : AllFit (executed p)
  unfolding executed
  executed_fits d c f s l w = bounded_fits (suc f) d c f s l w

pub executed_by_fits : {R : Type 0} (m : Module) (host : Answering R) (records : R) (fuel : ℕ) →
    Fits fuel (executed_by m host records fuel) (invocation m host records fuel)
executed_by_fits m host records fuel =
    let p = program_of m host in
    some_fits fuel (invoke_of m) _ _
    (λ i. some_fits fuel (slice_get (map (function_of m.types) m.functions) (i - length (host_calls m.imports))) _ _
    (λ fn. function_fits p (executed p) (executed_fits p) 0 fn fuel [] [] (fresh_world m records)))
