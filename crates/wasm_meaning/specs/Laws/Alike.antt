-- An execution is the same on two hosts that answer alike along it.
use Rattle.std.proofs.Common.{◌≡◌, ℕ, zero, suc, ◌+◌, ◌-◌, Bool, true, false, cond, Option, Some, None, List, [], ◌∷◌, ◌++◌, length, refl, ap, ◌∙◌, take, drop}
use Rattle.std.proofs.Common.{reverse, map}
use Rattle.std.specs.Prelude.{Result, Ok, Err, ◌&&◌, nat_lt, nat_eq, slice_get, get_or}
use Rattle.wasm_ast.specs.declared.types.ValueType.{ValueType}
use Rattle.wasm_ast.specs.declared.types.ValueType.TheVariants.{I32}
use Rattle.wasm_ast.specs.declared.trap.Trap.{Trap}
use Rattle.wasm_ast.specs.declared.trap.Trap.TheVariants as trap
use Rattle.wasm_ast.specs.declared.host_call.HostCall.{HostCall}
use Rattle.wasm_ast.specs.declared.host_call.HostAnswer.{HostAnswer}
use Rattle.wasm_ast.specs.declared.host_call.HostAnswer.TheVariants as answer
use Rattle.wasm_ast.specs.declared.module.Module.{Module}
use Rattle.wasm_ast.specs.Types.{words, same_type}
use Rattle.wasm_ast.specs.declared.types.FuncType.{FuncType}
use Rattle.wasm_ast.specs.Access.{load_type, load_width, store_type, store_width}
use Rattle.wasm_ast.specs.Op.{Op, Unreachable, Nop, Drop, Select, Return, Br, BrIf, BrTable, Call, CallIndirect, LocalGet, LocalSet, LocalTee, GlobalGet}
use Rattle.wasm_ast.specs.Op.{GlobalSet, MemorySize, MemoryGrow, Load, Store, Const, Eqz, Unary, Compare, Binary, Convert}
use Rattle.wasm_ast.specs.Code.{BlockType, Code, End, Do, Block, Loop, If}
use Rattle.wasm_num.specs.Operators.{binary, unary, compare, eqz, convert, operand_type, result_type}
use Rattle.wasm_typing.specs.HostCalls.{arity, host_calls}
use Rattle.wasm_typing.specs.ModuleRules.{invoke_of}
use Rattle.wasm_meaning.specs.Memory.{pages, bytes_of, load_value, with_bytes}
use Rattle.wasm_meaning.specs.Values.{Val, value, World, Answer, Next, Branch, Returns, Trapped, Spent, Stuck, Reply, Answering, Function, Program, Then, Means}
use Rattle.wasm_meaning.specs.Values.{all_of, top_of, zeros}
use Rattle.wasm_meaning.specs.Meaning.{host_cost, grow_cost, same_func_type, greatest_depth, then_do, pay, on_top, as_word, with_some, block_end, loop_end}
use Rattle.wasm_meaning.specs.Meaning.{call_end, with_args, all_i32, number, replied, after_call, access, grow, call_host, call_function, type_of, call}
use Rattle.wasm_meaning.specs.Meaning.{call_entry, leaf, tree, bounded, meaning}
use Rattle.wasm_meaning.specs.Program.{function_of, program_of, fresh_world, invocation}
use Rattle.wasm_meaning.specs.Following.{Ends, Follows}

-- a program on another host
abbrev pub on : {R : Type 0} → Program R → Answering R → Program R
on p h = record p { host = h }

-- if P holds at the end it held at w, and the two ways are the same
abbrev pub Alike : {R : Type 0} → (R → Type 0) → World R → Answer R → Answer R → Type 0
Alike P w a b = Ends P a → P w.records × (a ≡ b)

abbrev pub AlikeThen : {R : Type 0} → (R → Type 0) → Then R → Then R → Type 0
AlikeThen {R} P g h = (f : ℕ) (s l : List Val) (w : World R) → Alike P w (g f s l w) (h f s l w)

module _ {R : Type 0} (P : R → Type 0) where
  abbrev MeansAlike : Means R → Means R → Type 0
  MeansAlike g h = (d : ℕ) (c : Code) → AlikeThen P (g d c) (h d c)

  then_alike : (w : World R) (a b : Answer R) (g h : Then R) → Alike P w a b → AlikeThen P g h → Alike P w (then_do a g) (then_do b h)
  then_alike w a b g h e k ends =
      let i = go a ends in
      let j = e i.0 in
      (j.0, i.1 ∙ ap (λ x. then_do x h) j.1)
    where
      go : (a : Answer R) → Ends P (then_do a g) → Ends P a × (then_do a g ≡ then_do a h)
      go (Next f s l w) n = k f s l w n
      go (Branch j f s l w) n = (n, refl)
      go (Returns f s l w) n = (n, refl)
      go (Trapped why f w) n = (n, refl)
      go (Spent w) n = (n, refl)
      go Stuck n = absurd n

  -- one way to end a list of instructions: it ends as they do
  end_alike : (w : World R) (a b : Answer R) (end : Answer R → Answer R) → ((a : Answer R) → Ends P (end a) → Ends P a) → Alike P w a b →
      Alike P w (end a) (end b)
  end_alike w a b end back e ends = let j = e (back a ends) in (j.0, ap end j.1)

  all_ends : (o : Option (List Val)) (f : ℕ) (lower l : List Val) (w : World R) → Ends P (with_some o (λ r. Next f (r ++ lower) l w)) → P w.records
  all_ends None f lower l w n = absurd n
  all_ends (Some r) f lower l w n = n

  block_ends : (t : BlockType) (lower : List Val) (a : Answer R) → Ends P (block_end t lower a) → Ends P a
  block_ends t lower (Next f s l w) n = all_ends (all_of t s) f lower l w n
  block_ends t lower (Branch zero f s l w) n = all_ends (top_of t s) f lower l w n
  block_ends t lower (Branch (suc k) f s l w) n = n
  block_ends t lower (Returns f s l w) n = n
  block_ends t lower (Trapped why f w) n = n
  block_ends t lower (Spent w) n = n
  block_ends t lower Stuck n = n

  call_ends : (t : BlockType) (lower l : List Val) (a : Answer R) → Ends P (call_end t lower l a) → Ends P a
  call_ends t lower l (Next f s l' w) n = all_ends (all_of t s) f lower l w n
  call_ends t lower l (Branch zero f s l' w) n = all_ends (top_of t s) f lower l w n
  call_ends t lower l (Branch (suc k) f s l' w) n = absurd n
  call_ends t lower l (Returns f s l' w) n = all_ends (top_of t s) f lower l w n
  call_ends t lower l (Trapped why f w) n = n
  call_ends t lower l (Spent w) n = n
  call_ends t lower l Stuck n = n

  loop_alike : (w : World R) (t : BlockType) (lower : List Val) (g h : Then R) (a b : Answer R) → AlikeThen P g h → Alike P w a b →
      Alike P w (loop_end t lower g a) (loop_end t lower h b)
  loop_alike w t lower g h a b k e ends =
      let i = go a ends in
      let j = e i.0 in
      (j.0, i.1 ∙ ap (loop_end t lower h) j.1)
    where
      go : (a : Answer R) → Ends P (loop_end t lower g a) → Ends P a × (loop_end t lower g a ≡ loop_end t lower h a)
      go (Next f s l w) n = (all_ends (all_of t s) f lower l w n, refl)
      go (Branch zero f s l w) n = k f lower l w n
      go (Branch (suc j) f s l w) n = (n, refl)
      go (Returns f s l w) n = (n, refl)
      go (Trapped why f w) n = (n, refl)
      go (Spent w) n = (n, refl)
      go Stuck n = absurd n

  cond_alike : (w : World R) (b : Bool) (a a' c c' : Answer R) → Alike P w a a' → Alike P w c c' → Alike P w (cond b a c) (cond b a' c')
  cond_alike w true a a' c c' h k = h
  cond_alike w false a a' c c' h k = k

  stuck_alike : (w : World R) → Alike P w Stuck Stuck
  stuck_alike w n = absurd n

  next_alike : (f : ℕ) (s l : List Val) (w : World R) → Alike P w (Next f s l w) (Next f s l w)
  next_alike f s l w n = (n, refl)

  on_top_alike : (w : World R) (s : List Val) (g h : Val → List Val → Answer R) → ((x : Val) (s : List Val) → Alike P w (g x s) (h x s)) →
      Alike P w (on_top s g) (on_top s h)
  on_top_alike w [] g h k = stuck_alike w
  on_top_alike w (x ∷ s) g h k = k x s

  word_alike : (w : World R) (t : ValueType) (x : Val) (g h : ℕ → Answer R) → ((n : ℕ) → Alike P w (g n) (h n)) → Alike P w (as_word t x g) (as_word t x h)
  word_alike w t x g h k =
      cond_alike w (same_type x.type t && nat_lt x.word (words t)) _ _ _ _ (k x.word) (stuck_alike w)

  some_alike : {A : Type 0} (w : World R) (o : Option A) (g h : A → Answer R) → ((x : A) → Alike P w (g x) (h x)) → Alike P w (with_some o g) (with_some o h)
  some_alike w None g h k = stuck_alike w
  some_alike w (Some x) g h k = k x

  number_alike : (r : Result ℕ Trap) (f : ℕ) (w : World R) (g h : ℕ → Answer R) → ((n : ℕ) → Alike P w (g n) (h n)) →
      Alike P w (number r f w g) (number r f w h)
  number_alike (Ok n) f w g h k = k n
  number_alike (Err why) f w g h k = λ n. (n, refl)

  all_i32_alike : (w : World R) (vs : List Val) (g h : List ℕ → Answer R) → ((ns : List ℕ) → Alike P w (g ns) (h ns)) → Alike P w (all_i32 vs g) (all_i32 vs h)
  all_i32_alike w [] g h k = k []
  all_i32_alike w (v ∷ vs) g h k = word_alike w I32 v _ _ (λ n. all_i32_alike w vs _ _ (λ ns. k (n ∷ ns)))

  args_alike : (w : World R) (n : ℕ) (s : List Val) (g h : List Val → List Val → Answer R) →
      ((args lower : List Val) → Alike P w (g args lower) (h args lower)) → Alike P w (with_args n s g) (with_args n s h)
  args_alike w n s g h k = cond_alike w (nat_lt (length s) n) _ _ _ _ (stuck_alike w) (k (reverse (take n s)) (drop n s))

  pay_alike : (c f : ℕ) (w : World R) (g h : ℕ → Answer R) → ((f : ℕ) → Alike P w (g f) (h f)) → Alike P w (pay c f w g) (pay c f w h)
  pay_alike c f w g h k = cond_alike w (nat_lt f c) _ _ _ _ (λ n. (n, refl)) (k (f - c))

  host_alike : (w : World R) (host other : Answering R) → Follows host other P → (which : HostCall) (f : ℕ) (s l : List Val) →
      Alike P w (call_host host which f s l w) (call_host other which f s l w)
  host_alike w host other follows which f s l =
      args_alike w (arity which) s _ _
      (λ args lower. all_i32_alike w args _ _
      (λ ns. pay_alike (host_cost which ns) f w _ _
      (λ f n. let e = ends (host which ns w.memory w.records) f lower n in let i = follows which ns w.memory w.records e in
      (i.0, ap (λ r. after_call r w.globals f lower l) i.1))))
    where
      ends : (r : Reply R) (f : ℕ) (lower : List Val) → Ends P (after_call r w.globals f lower l) → P r.records
      ends r f lower n = go r.answer n
        where
          go : (a : HostAnswer) → Ends P (replied a f lower l (record { memory = r.memory; globals = w.globals; records = r.records })) → P r.records
          go (answer.Value x) n = n
          go answer.OutOfBounds n = n

  -- an access that goes on the same with the same records
  access_alike : (place width f : ℕ) (s l : List Val) (w v : World R) → Alike P w (Next f s l v) (Next f s l v) →
      Alike P w (access place width f w (Next f s l v)) (access place width f w (Next f s l v))
  access_alike place width f s l w v k =
      cond_alike w (nat_lt (length w.memory) (place + width)) (Trapped trap.OutOfBounds f w) (Trapped trap.OutOfBounds f w) (Next f s l v) (Next f s l v)
      (λ n. (n, refl)) k

  grow_alike : (most m f : ℕ) (s l : List Val) (w : World R) → Alike P w (grow most m f s l w) (grow most m f s l w)
  grow_alike most m f s l w = cond_alike w (nat_lt most (pages w.memory + m)) _ _ _ _ (λ n. (n, refl)) (λ n. (n, refl))

  function_alike : (g h : Means R) → MeansAlike g h → (d : ℕ) (fn : Function) → AlikeThen P (call_function g d fn) (call_function h d fn)
  function_alike g h k d fn f s l w =
      args_alike w (length fn.type.params) s _ _
      (λ args lower. cond_alike w (nat_lt d greatest_depth) (call_end fn.type.result lower l (body g args)) (call_end fn.type.result lower l (body h args))
      (Trapped trap.CallDepth f w) (Trapped trap.CallDepth f w)
      (end_alike w (body g args) (body h args) (call_end fn.type.result lower l) (call_ends fn.type.result lower l)
      (k (d + 1) fn.body f [] (args ++ zeros fn.locals) w)) (λ n. (n, refl)))
    where
      body : Means R → List Val → Answer R
      body g args = g (d + 1) fn.body f [] (args ++ zeros fn.locals) w

  module _ (p : Program R) (host other : Answering R) (follows : Follows host other P) where
    index_alike : (g h : Means R) → MeansAlike g h → (d i : ℕ) → AlikeThen P (call (on p host) g d i) (call (on p other) h d i)
    index_alike g h k d i f s l w =
        cond_alike w (nat_lt i (length p.imports)) _ _ _ _ (some_alike w (slice_get p.imports i) _ _ (λ which. host_alike w host other follows which f s l))
        (some_alike w (slice_get p.functions (i - length p.imports)) _ _ (λ fn. function_alike g h k d fn f s l w))

    entry_alike : (g h : Means R) → MeansAlike g h → (d : ℕ) (t : FuncType) (e : Option (Option ℕ)) →
        AlikeThen P (call_entry (on p host) g d t e) (call_entry (on p other) h d t e)
    entry_alike g h k d t None f s l w = λ n. (n, refl)
    entry_alike g h k d t (Some None) f s l w = λ n. (n, refl)
    entry_alike g h k d t (Some (Some i)) f s l w =
        some_alike w (type_of p i) _ _
        (λ u. cond_alike w (same_func_type t u) _ _ (Trapped trap.IndirectCallType f w) (Trapped trap.IndirectCallType f w) (index_alike g h k d i f s l w)
        (λ n. (n, refl)))

    leaf_alike : (g h : Means R) → MeansAlike g h → (d : ℕ) (o : Op) → AlikeThen P (leaf (on p host) g d o) (leaf (on p other) h d o)
    leaf_alike g h k d Unreachable f s l w = λ n. (n, refl)
    leaf_alike g h k d Nop f s l w = λ n. (n, refl)
    leaf_alike g h k d Drop f s l w = on_top_alike w s _ _ (λ x s n. (n, refl))
    leaf_alike g h k d Select f s l w =
        on_top_alike w s _ _ (λ v s.
        on_top_alike w s _ _ (λ y s.
        on_top_alike w s _ _ (λ x s.
        word_alike w I32 v _ _ (λ m. cond_alike w (same_type x.type y.type) _ _ _ _ (next_alike f (cond (nat_eq m 0) y x ∷ s) l w) (stuck_alike w)))))
    leaf_alike g h k d (Const t m) f s l w = λ n. (n, refl)
    leaf_alike g h k d (Eqz t) f s l w = on_top_alike w s _ _ (λ x s. word_alike w t x _ _ (λ a. next_alike f (value I32 (eqz a) ∷ s) l w))
    leaf_alike g h k d (Unary t o) f s l w = on_top_alike w s _ _ (λ x s. word_alike w t x _ _ (λ a. next_alike f (value t (unary t o a) ∷ s) l w))
    leaf_alike g h k d (Compare t o) f s l w =
        on_top_alike w s _ _ (λ y s.
        on_top_alike w s _ _ (λ x s. word_alike w t x _ _ (λ a. word_alike w t y _ _ (λ b. next_alike f (value I32 (compare t o a b) ∷ s) l w))))
    leaf_alike g h k d (Binary t o) f s l w =
        on_top_alike w s _ _ (λ y s.
        on_top_alike w s _ _ (λ x s. word_alike w t x _ _ (λ a. word_alike w t y _ _ (λ b. number_alike (binary t o a b) f w _ _ (λ m n. (n, refl))))))
    leaf_alike g h k d (Convert o) f s l w =
        on_top_alike w s _ _ (λ x s. word_alike w (operand_type o) x _ _ (λ a. next_alike f (value (result_type o) (convert o a) ∷ s) l w))
    leaf_alike g h k d (LocalGet i) f s l w = some_alike w (slice_get l i) _ _ (λ x n. (n, refl))
    leaf_alike g h k d (LocalSet i) f s l w =
        on_top_alike w s _ _ (λ x s.
        some_alike w (slice_get l i) _ _ (λ old. cond_alike w (same_type x.type old.type) _ _ _ _ (λ n. (n, refl)) (stuck_alike w)))
    leaf_alike g h k d (LocalTee i) f s l w =
        on_top_alike w s _ _ (λ x s.
        some_alike w (slice_get l i) _ _ (λ old. cond_alike w (same_type x.type old.type) _ _ _ _ (λ n. (n, refl)) (stuck_alike w)))
    leaf_alike g h k d (GlobalGet i) f s l w = some_alike w (slice_get w.globals i) _ _ (λ x n. (n, refl))
    leaf_alike g h k d (GlobalSet i) f s l w =
        on_top_alike w s _ _ (λ x s.
        some_alike w (slice_get w.globals i) _ _ (λ old. cond_alike w (same_type x.type old.type) _ _ _ _ (λ n. (n, refl)) (stuck_alike w)))
    leaf_alike g h k d (Load o align offset) f s l w =
        on_top_alike w s _ _ (λ x s.
        word_alike w I32 x _ _
        (λ a. access_alike (a + offset) (load_width o) f (value (load_type o) (load_value o w.memory (a + offset)) ∷ s) l w w (λ n. (n, refl))))
    leaf_alike g h k d (Store o align offset) f s l w =
        on_top_alike w s _ _ (λ y s.
        on_top_alike w s _ _ (λ x s.
        word_alike w I32 x _ _
        (λ a. word_alike w (store_type o) y _ _
        (λ m. access_alike (a + offset) (store_width o) f s l w (record w { memory = with_bytes w.memory (a + offset) (bytes_of (store_width o) m) })
        (λ n. (n, refl))))))
    leaf_alike g h k d MemorySize f s l w = λ n. (n, refl)
    leaf_alike g h k d MemoryGrow f s l w =
        on_top_alike w s _ _ (λ x s. word_alike w I32 x _ _ (λ m. pay_alike (grow_cost m) f w _ _ (λ f. grow_alike p.most_pages m f s l w)))
    leaf_alike g h k d (Br i) f s l w = λ n. (n, refl)
    leaf_alike g h k d (BrIf i) f s l w =
        on_top_alike w s _ _ (λ x s. word_alike w I32 x _ _ (λ m. cond_alike w (nat_eq m 0) _ _ _ _ (λ n. (n, refl)) (λ n. (n, refl))))
    leaf_alike g h k d (BrTable is i) f s l w =
        on_top_alike w s _ _ (λ x s. word_alike w I32 x (λ m. Branch (get_or is m i) f s l w) (λ m. Branch (get_or is m i) f s l w) (λ m n. (n, refl)))
    leaf_alike g h k d Return f s l w = λ n. (n, refl)
    leaf_alike g h k d (Call i) f s l w = index_alike g h k d i f s l w
    leaf_alike g h k d (CallIndirect x) f s l w =
        on_top_alike w s _ _ (λ v s.
        word_alike w I32 v _ _ (λ m. some_alike w (slice_get p.types x) _ _ (λ t. entry_alike g h k d t (slice_get p.table m) f s l w)))

    tree_alike : (g h : Means R) → MeansAlike g h → MeansAlike (tree (on p host) g) (tree (on p other) h)
    tree_alike g h k d End f s l w = λ n. (n, refl)
    tree_alike g h k d (Do o c) f s l w =
        pay_alike 1 f w _ _ (λ f. then_alike w _ _ _ _ (leaf_alike g h k d o f s l w) (tree_alike g h k d c))
    tree_alike g h k d (Block t b c) f s l w =
        pay_alike 1 f w _ _ (λ f.
        then_alike w _ _ _ _ (end_alike w _ _ (block_end t s) (block_ends t s) (tree_alike g h k d b f [] l w)) (tree_alike g h k d c))
    tree_alike g h k d (Loop t b c) f s l w =
        pay_alike 1 f w _ _ (λ f. then_alike w _ _ _ _ (loop_alike w t s _ _ _ _ (k d (Loop t b End)) (tree_alike g h k d b f [] l w)) (tree_alike g h k d c))
    tree_alike g h k d (If t a b c) f s l w =
        pay_alike 1 f w _ _ (λ f.
        on_top_alike w s _ _ (λ x s.
        word_alike w I32 x _ _
        (λ m. then_alike w _ _ _ _
        (end_alike w _ _ (block_end t s) (block_ends t s)
        (cond_alike w (nat_eq m 0) _ _ _ _ (tree_alike g h k d b f [] l w) (tree_alike g h k d a f [] l w))) (tree_alike g h k d c))))

    bounded_alike : (n : ℕ) → MeansAlike (bounded (on p host) n) (bounded (on p other) n)
    bounded_alike zero d c f s l w = λ n. (n, refl)
    bounded_alike (suc n) d c f s l w = tree_alike (bounded (on p host) n) (bounded (on p other) n) (bounded_alike n) d c f s l w

    pub meaning_follows : MeansAlike (meaning (on p host)) (meaning (on p other))
    unfolding meaning
    meaning_follows d c f s l w = bounded_alike (suc f) d c f s l w

-- the invocation, where it does not get stuck. P held of the first records too
pub invocation_alike : {R : Type 0} (m : Module) (h g : Answering R) (P : R → Type 0) → Follows h g P → (records : R) (fuel : ℕ) →
    Ends P (invocation m h records fuel) → P records × (invocation m h records fuel ≡ invocation m g records fuel)
invocation_alike {R} m h g P follows records fuel =
    some_alike P w (invoke_of m) _ _
    (λ i. some_alike P w (slice_get (map (function_of m.types) m.functions) (i - length (host_calls m.imports))) _ _
    (λ fn. function_alike P (meaning (program_of m h)) (meaning (program_of m g)) (meaning_follows P (program_of m h) h g follows) 0 fn fuel [] [] w))
  where
    w : World R
    w = fresh_world m records

pub invocation_follows : {R : Type 0} (m : Module) (h g : Answering R) (P : R → Type 0) → Follows h g P → (records : R) (fuel : ℕ) →
    Ends P (invocation m h records fuel) → invocation m h records fuel ≡ invocation m g records fuel
invocation_follows m h g P follows records fuel ends = (invocation_alike m h g P follows records fuel ends).1
