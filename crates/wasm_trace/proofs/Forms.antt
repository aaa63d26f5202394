-- Instructions with none inside, one form at a time.
use Rattle.std.proofs.Common.{◌≡◌, ℕ, ◌+◌, ◌-◌, ◌%◌, ◌<◌, Bool, true, false, cond, Option, Some, None, List, [], ◌∷◌, ◌++◌, length, refl, take, drop, reverse}
use Rattle.std.specs.Prelude.{Result, Ok, Err, ◌&&◌, nat_lt, nat_eq, slice_get, slice_set, get_or}
use Rattle.wasm_ast.specs.declared.types.ValueType.{ValueType}
use Rattle.wasm_ast.specs.declared.types.ValueType.TheVariants.{I32}
use Rattle.wasm_ast.specs.declared.types.FuncType.{FuncType}
use Rattle.wasm_ast.specs.declared.trap.Trap.{Trap}
use Rattle.wasm_ast.specs.declared.trap.Trap.TheVariants as trap
use Rattle.wasm_ast.specs.declared.host_call.HostCall.{HostCall}
use Rattle.wasm_ast.specs.declared.host_call.HostAnswer.{HostAnswer}
use Rattle.wasm_ast.specs.declared.host_call.HostAnswer.TheVariants as answer
use Rattle.wasm_ast.specs.Types.{words, same_type}
use Rattle.wasm_ast.specs.Op.{Op, Unreachable, Nop, Drop, Select, Return, Br, BrIf, BrTable, Call, CallIndirect, LocalGet, LocalSet, LocalTee, GlobalGet}
use Rattle.wasm_ast.specs.Op.{GlobalSet, MemorySize, MemoryGrow, Load, Store, Const, Eqz, Unary, Compare, Binary, Convert}
use Rattle.wasm_ast.specs.Code as code
use Rattle.wasm_ast.specs.Code.{BlockType, Code}
use Rattle.wasm_ast.specs.Access.{load_type, load_width, store_type, store_width}
use Rattle.wasm_num.specs.Operators.{binary, unary, compare, eqz, convert, operand_type, result_type}
use Rattle.wasm_typing.specs.HostCalls.{arity}
use Rattle.wasm_meaning.specs.Memory.{pages, size_word, with_pages, bytes_of, load_value, with_bytes}
use Rattle.wasm_meaning.specs.Values as meant
use Rattle.wasm_meaning.specs.Values.{Val, value, World, Answer, Next, Branch, Returns, Reply, Function, Program, Then, zeros}
use Rattle.wasm_meaning.specs.Meaning.{host_cost, grow_cost, same_func_type, greatest_depth, pay, on_top, as_word, with_some, call_end, with_args, all_i32}
use Rattle.wasm_meaning.specs.Meaning.{number, replied, access, call_host, call_function, type_of, call, call_entry, leaf, meaning}
use Rattle.wasm_trace.specs.Reduction.{Seq, Nil, Put, Free, FreeBlock, Invoke, Label, Frame, Traps, plain, values, conf, Step, Spent, Stuck, at, paid, with_top}
use Rattle.wasm_trace.specs.Reduction.{operand, with_words, with_found, with_last, replacing, numbered, accessed, answered, host_step, call_step, entry_step}
use Rattle.wasm_trace.specs.Reduction.{op_step, reduce_in}
use Rattle.wasm_trace.specs.Context.{Layer, InLabel, InFrame, frames, plug, Shows}
use Rattle.wasm_trace.proofs.Sim.{step_start, reach_refl, reach_trans, one, shows_from, trap_alone, call_shows}

-- all code shows its meaning, with less fuel than this
abbrev pub Sound : {R : Type 0} → Program R → ℕ → Type 0
Sound {R} p n = (ks : List Layer) (c : Code) (f : ℕ) (s l : List Val) (w : World R) (i : Seq) → f < n →
    Shows p ks (conf f l w (values s (plain c i))) i (meaning p (frames ks) c f s l w)

-- from one configuration within layers
module _ {R : Type 0} (p : Program R) (ks : List Layer) (f0 : ℕ) (l : List Val) (w : World R) (j i : Seq) where
  -- where the next reduction is r, the answer a is shown
  pub record Meets (r : Step R) (a : Answer R) : Type 0 where
    pub shows : reduce_in p (frames ks) (conf f0 l w j) ≡ r → Shows p ks (conf f0 l w j) i a

  next_meets : (f : ℕ) (s l' : List Val) (w' : World R) → Meets (at f l' w' s i) (Next f s l' w')
  next_meets f s l' w' = record { shows = λ e. one p ks (conf f0 l w j) (conf f l' w' (values s i)) e }

  put_meets : (f : ℕ) (x : Val) (s l' : List Val) (w' : World R) → Meets (at f l' w' s (Put x i)) (Next f (x ∷ s) l' w')
  put_meets f x s l' w' = record { shows = λ e. one p ks (conf f0 l w j) (conf f l' w' (values s (Put x i))) e }

  trap_meets : (f : ℕ) (l' : List Val) (w' : World R) (s : List Val) (why : Trap) → Meets (at f l' w' s (Traps why i)) (meant.Trapped why f w')
  trap_meets f l' w' s why =
      record {
        shows = λ e. (
          l',
          reach_trans p (plug ks (conf f0 l w j)) (plug ks (conf f l' w' (values s (Traps why i)))) (plug ks (conf f l' w' (Traps why Nil)))
              (one p ks (conf f0 l w j) (conf f l' w' (values s (Traps why i))) e) (trap_alone p ks f l' w' s why i),
        );
      }

  stuck_meets : (r : Step R) → Meets r meant.Stuck
  stuck_meets r = record { shows = λ e. tt }

  pay_meets : (c f : ℕ) (g : ℕ → Step R) (h : ℕ → Answer R) → ((f : ℕ) → Meets (g f) (h f)) → Meets (paid c f g) (pay c f w h)
  pay_meets c f g h k = go (nat_lt f c)
    where
      go : (b : Bool) → Meets (cond b Spent (g (f - c))) (cond b (meant.Spent w) (h (f - c)))
      go true = record { shows = λ e. (f0, l, j, reach_refl p (plug ks (conf f0 l w j)), e) }
      go false = k (f - c)

  cond_meets : (b : Bool) (r r' : Step R) (a a' : Answer R) → Meets r a → Meets r' a' → Meets (cond b r r') (cond b a a')
  cond_meets true r r' a a' h k = h
  cond_meets false r r' a a' h k = k

  top_meets : (s : List Val) (g : Val → List Val → Step R) (h : Val → List Val → Answer R) → ((x : Val) (s : List Val) → Meets (g x s) (h x s)) →
      Meets (with_top s g) (on_top s h)
  top_meets [] g h k = stuck_meets Stuck
  top_meets (x ∷ s) g h k = k x s

  typed_meets : (t : ValueType) (x : Val) (r : Step R) (a : Answer R) → Meets r a →
      Meets (cond (same_type x.type t) r Stuck) (cond (same_type x.type t && nat_lt x.word (words t)) a meant.Stuck)
  typed_meets t x r a h = go (same_type x.type t) (nat_lt x.word (words t))
    where
      go : (b c : Bool) → Meets (cond b r Stuck) (cond (b && c) a meant.Stuck)
      go true true = h
      go true false = stuck_meets r
      go false c = stuck_meets Stuck

  operand_meets : (t : ValueType) (s : List Val) (g : ℕ → List Val → Step R) (h : ℕ → List Val → Answer R) → ((m : ℕ) (s : List Val) → Meets (g m s) (h m s)) →
      Meets (operand t s g) (on_top s (λ x s. as_word t x (λ m. h m s)))
  operand_meets t [] g h k = stuck_meets Stuck
  operand_meets t (x ∷ s) g h k = typed_meets t x _ _ (k x.word s)

  -- the last operand is of type u, and the one before it of type t
  operands_meet : (t u : ValueType) (s : List Val) (g : ℕ → ℕ → List Val → Step R) (h : ℕ → ℕ → List Val → Answer R) →
      ((m n : ℕ) (s : List Val) → Meets (g m n s) (h m n s)) →
      Meets (operand u s (λ n s. operand t s (λ m s. g m n s))) (on_top s (λ y s. on_top s (λ x s. as_word t x (λ m. as_word u y (λ n. h m n s)))))
  operands_meet t u [] g h k = stuck_meets Stuck
  operands_meet t u (y ∷ []) g h k = stuck_meets (cond (same_type y.type u) Stuck Stuck)
  operands_meet t u (y ∷ x ∷ s) g h k = go (same_type x.type t) (nat_lt x.word (words t)) (same_type y.type u) (nat_lt y.word (words u))
    where
      go : (a b c d : Bool) →
          Meets (cond c (cond a (g x.word y.word s) Stuck) Stuck) (cond (a && b) (cond (c && d) (h x.word y.word s) meant.Stuck) meant.Stuck)
      go true true true true = k x.word y.word s
      go true true true false = stuck_meets (g x.word y.word s)
      go true true false d = stuck_meets Stuck
      go true false c d = stuck_meets (cond c (g x.word y.word s) Stuck)
      go false b c d = stuck_meets (cond c Stuck Stuck)

  choice_meets : (s : List Val) (g : ℕ → Val → Val → List Val → Step R) (h : ℕ → Val → Val → List Val → Answer R) →
      ((n : ℕ) (y x : Val) (s : List Val) → Meets (g n y x s) (h n y x s)) →
      Meets (operand I32 s (λ n s. with_top s (λ y s. with_top s (λ x s. g n y x s))))
      (on_top s (λ v s. on_top s (λ y s. on_top s (λ x s. as_word I32 v (λ n. h n y x s)))))
  choice_meets [] g h k = stuck_meets Stuck
  choice_meets (v ∷ []) g h k = stuck_meets (cond (same_type v.type I32) Stuck Stuck)
  choice_meets (v ∷ y ∷ []) g h k = stuck_meets (cond (same_type v.type I32) Stuck Stuck)
  choice_meets (v ∷ y ∷ x ∷ s) g h k = typed_meets I32 v _ _ (k v.word y x s)

  words_meets : (vs : List Val) (g : List ℕ → Step R) (h : List ℕ → Answer R) → ((ns : List ℕ) → Meets (g ns) (h ns)) → Meets (with_words vs g) (all_i32 vs h)
  words_meets [] g h k = k []
  words_meets (v ∷ vs) g h k =
      typed_meets I32 v _ _ (words_meets vs (λ ns. g (v.word ∷ ns)) (λ ns. h (v.word ∷ ns)) (λ ns. k (v.word ∷ ns)))

  found_meets : {A : Type 0} (o : Option A) (g : A → Step R) (h : A → Answer R) → ((x : A) → Meets (g x) (h x)) → Meets (with_found o g) (with_some o h)
  found_meets None g h k = stuck_meets Stuck
  found_meets (Some x) g h k = k x

  last_meets : (n : ℕ) (s : List Val) (g : List Val → List Val → Step R) (h : List Val → List Val → Answer R) →
      ((args lower : List Val) → Meets (g args lower) (h args lower)) → Meets (with_last n s g) (with_args n s h)
  last_meets n s g h k = cond_meets (nat_lt (length s) n) _ _ _ _ (stuck_meets Stuck) (k (reverse (take n s)) (drop n s))

  replacing_meets : (x old : Val) (r : Step R) (a : Answer R) → Meets r a → Meets (replacing x old r) (cond (same_type x.type old.type) a meant.Stuck)
  replacing_meets x old r a h = cond_meets (same_type x.type old.type) _ _ _ _ h (stuck_meets Stuck)

  number_meets : (t : ValueType) (r : Result ℕ Trap) (f : ℕ) (s : List Val) → Meets (numbered t r f l w s i) (number r f w (λ n. Next f (value t n ∷ s) l w))
  number_meets t (Ok n) f s = put_meets f (value t n) s l w
  number_meets t (Err why) f s = trap_meets f l w s why

  access_meets : (place width f : ℕ) (s : List Val) (r : Step R) (a : Answer R) → Meets r a →
      Meets (accessed place width f l w s i r) (access place width f w a)
  access_meets place width f s r a h = cond_meets (nat_lt (length w.memory) (place + width)) _ _ _ _ (trap_meets f l w s trap.OutOfBounds) h

  answered_meets : (a : HostAnswer) (f : ℕ) (l' : List Val) (w' : World R) (s : List Val) → Meets (answered a f l' w' s i) (replied a f s l' w')
  answered_meets (answer.Value n) f l' w' s = put_meets f (value I32 (n % words I32)) s l' w'
  answered_meets answer.OutOfBounds f l' w' s = trap_meets f l' w' s trap.OutOfBounds

  host_meets : (which : HostCall) (f : ℕ) (s : List Val) → Meets (host_step p which f l w s i) (call_host p.host which f s l w)
  host_meets which f s =
      last_meets (arity which) s _ _
      (λ args s. words_meets args _ _
      (λ ns. pay_meets (host_cost which ns) f _ _
      (λ f. answered_meets (p.host which ns w.memory w.records).answer f l
      (record { memory = (p.host which ns w.memory w.records).memory; globals = w.globals; records = (p.host which ns w.memory w.records).records }) s)))

-- the invocation, the frame, the block, the body
module _ {R : Type 0} (p : Program R) (n : ℕ) (sound : Sound p n) where
  pub invoke_shows : (ks : List Layer) (fn : Function) (f : ℕ) (l : List Val) (w : World R) (s : List Val) (i : Seq) → f < n →
      Shows p ks (conf f l w (values s (Invoke fn i))) i (call_function (meaning p) (frames ks) fn f s l w)
  invoke_shows ks fn f l w s i lt =
      go (nat_lt (length s) (length fn.type.params)) (nat_lt (frames ks) greatest_depth) (step_start p (frames ks) f l w s (Invoke fn i))
    where
      m : ℕ
      m = length fn.type.params

      go : (b c : Bool) → reduce_in p (frames ks) (conf f l w (values s (Invoke fn i))) ≡
          cond b Stuck (cond c (at f l w (drop m s) (Frame fn.type.result (reverse (take m s) ++ zeros fn.locals) (FreeBlock fn.type.result fn.body Nil) i))
          (at f l w (drop m s) (Traps trap.CallDepth i))) →
          Shows p ks (conf f l w (values s (Invoke fn i))) i
          (cond b meant.Stuck (cond c (call_end fn.type.result (drop m s) l (meaning p (frames ks + 1) fn.body f [] (reverse (take m s) ++ zeros fn.locals) w))
          (meant.Trapped trap.CallDepth f w)))
      go true c e = tt
      go false false e = (l, reach_trans p _ _ _ (one p ks _ _ e) (trap_alone p ks f l w (drop m s) trap.CallDepth i))
      go false true e =
          shows_from p ks _ _ i _
          (reach_trans p _ _ _ (one p ks _ _ e)
          (one p (InFrame fn.type.result l (drop m s) i ∷ ks) (conf f (reverse (take m s) ++ zeros fn.locals) w (FreeBlock fn.type.result fn.body Nil))
          (conf f (reverse (take m s) ++ zeros fn.locals) w (Label fn.type.result code.End (plain fn.body Nil) Nil)) refl))
          (call_shows p ks (conf f (reverse (take m s) ++ zeros fn.locals) w (plain fn.body Nil)) fn.type.result l (drop m s) i _
          (sound (InLabel fn.type.result code.End [] Nil ∷ InFrame fn.type.result l (drop m s) i ∷ ks) fn.body f [] (reverse (take m s) ++ zeros fn.locals)
          w Nil lt))

  module _ (ks : List Layer) (f0 : ℕ) (l : List Val) (w : World R) (j i : Seq) where
    own_meets : (fn : Function) (f : ℕ) (s : List Val) → f < n →
        Meets p ks f0 l w j i (at f l w s (Invoke fn i)) (call_function (meaning p) (frames ks) fn f s l w)
    own_meets fn f s lt =
        record {
          shows = λ e.
              shows_from p ks (conf f0 l w j) (conf f l w (values s (Invoke fn i))) i (call_function (meaning p) (frames ks) fn f s l w)
              (one p ks (conf f0 l w j) (conf f l w (values s (Invoke fn i))) e) (invoke_shows ks fn f l w s i lt);
        }

    call_meets : (k f : ℕ) (s : List Val) → f < n → Meets p ks f0 l w j i (call_step p k f l w s i) (call p (meaning p) (frames ks) k f s l w)
    call_meets k f s lt =
        cond_meets p ks f0 l w j i (nat_lt k (length p.imports)) _ _ _ _
        (found_meets p ks f0 l w j i (slice_get p.imports k) _ _ (λ which. host_meets p ks f0 l w j i which f s))
        (found_meets p ks f0 l w j i (slice_get p.functions (k - length p.imports)) _ _ (λ fn. own_meets fn f s lt))

    entry_meets : (t : FuncType) (o : Option (Option ℕ)) (f : ℕ) (s : List Val) → f < n →
        Meets p ks f0 l w j i (entry_step p t o f l w s i) (call_entry p (meaning p) (frames ks) t o f s l w)
    entry_meets t None f s lt = trap_meets p ks f0 l w j i f l w s trap.UndefinedElement
    entry_meets t (Some None) f s lt = trap_meets p ks f0 l w j i f l w s trap.UninitializedElement
    entry_meets t (Some (Some k)) f s lt =
        found_meets p ks f0 l w j i (type_of p k) _ _
        (λ u. cond_meets p ks f0 l w j i (same_func_type t u) _ _ _ _ (call_meets k f s lt) (trap_meets p ks f0 l w j i f l w s trap.IndirectCallType))

    -- a branch that became of another instruction
    branch_meets : (k f : ℕ) (s : List Val) → Meets p ks f0 l w j i (at f l w s (Free (Br k) i)) (Branch k f s l w)
    branch_meets k f s =
        record {
          shows = λ e. (
            f,
            values s (Free (Br k) i),
            one p ks (conf f0 l w j) (conf f l w (values s (Free (Br k) i))) e,
            step_start p (frames ks) f l w s (Free (Br k) i),
          );
        }

    -- the set that a `local.tee` became
    set_shows : (k f : ℕ) (x : Val) (s : List Val) →
        Shows p ks (conf f l w (values (x ∷ s) (Free (LocalSet k) i))) i
        (with_some (slice_get l k) (λ old. cond (same_type x.type old.type) (Next f s (slice_set l k x) w) meant.Stuck))
    set_shows k f x s = (found_meets p ks f l w (values (x ∷ s) (Free (LocalSet k) i)) i (slice_get l k) (λ old. replacing x old (at f (slice_set l k x) w s i))
        _ (λ old. replacing_meets p ks f l w (values (x ∷ s) (Free (LocalSet k) i)) i x old _ _
        (next_meets p ks f l w (values (x ∷ s) (Free (LocalSet k) i)) i f s (slice_set l k x) w))).shows
        (step_start p (frames ks) f l w (x ∷ s) (Free (LocalSet k) i))

    tee_meets : (k f : ℕ) (x : Val) (s : List Val) →
        Meets p ks f0 l w j i (at f l w (x ∷ x ∷ s) (Free (LocalSet k) i))
        (with_some (slice_get l k) (λ old. cond (same_type x.type old.type) (Next f (x ∷ s) (slice_set l k x) w) meant.Stuck))
    tee_meets k f x s = record {
      shows = λ e.
          shows_from p ks (conf f0 l w j) (conf f l w (values (x ∷ x ∷ s) (Free (LocalSet k) i))) i
          (with_some (slice_get l k) (λ old. cond (same_type x.type old.type) (Next f (x ∷ s) (slice_set l k x) w) meant.Stuck))
          (one p ks (conf f0 l w j) (conf f l w (values (x ∷ x ∷ s) (Free (LocalSet k) i))) e) (set_shows k f x (x ∷ s));
    }

    -- an instruction with none inside, once paid
    pub leaf_meets : (o : Op) (f : ℕ) (s : List Val) → f < n → Meets p ks f0 l w j i (op_step p o f l w s i) (leaf p (meaning p) (frames ks) o f s l w)
    leaf_meets Unreachable f s lt = trap_meets p ks f0 l w j i f l w s trap.Unreachable
    leaf_meets Nop f s lt = next_meets p ks f0 l w j i f s l w
    leaf_meets Drop f s lt = top_meets p ks f0 l w j i s _ _ (λ x s. next_meets p ks f0 l w j i f s l w)
    leaf_meets Select f s lt =
        choice_meets p ks f0 l w j i s _ _ (λ m y x s. replacing_meets p ks f0 l w j i x y _ _ (put_meets p ks f0 l w j i f (cond (nat_eq m 0) y x) s l w))
    leaf_meets Return f s lt = record { shows = λ e. (f0, j, reach_refl p (plug ks (conf f0 l w j)), e) }
    leaf_meets (Br k) f s lt = record { shows = λ e. (f0, j, reach_refl p (plug ks (conf f0 l w j)), e) }
    leaf_meets (BrIf k) f s lt =
        operand_meets p ks f0 l w j i I32 s _ _
        (λ m s. cond_meets p ks f0 l w j i (nat_eq m 0) _ _ _ _ (next_meets p ks f0 l w j i f s l w) (branch_meets k f s))
    leaf_meets (BrTable is k) f s lt =
        operand_meets p ks f0 l w j i I32 s _ _ (λ m s. branch_meets (get_or is m k) f s)
    leaf_meets (Call k) f s lt = call_meets k f s lt
    leaf_meets (CallIndirect x) f s lt =
        operand_meets p ks f0 l w j i I32 s _ _ (λ m s. found_meets p ks f0 l w j i (slice_get p.types x) _ _ (λ t. entry_meets t (slice_get p.table m) f s lt))
    leaf_meets (LocalGet k) f s lt = found_meets p ks f0 l w j i (slice_get l k) _ _ (λ x. put_meets p ks f0 l w j i f x s l w)
    leaf_meets (LocalSet k) f s lt =
        top_meets p ks f0 l w j i s _ _
        (λ x s. found_meets p ks f0 l w j i (slice_get l k) _ _
        (λ old. replacing_meets p ks f0 l w j i x old _ _ (next_meets p ks f0 l w j i f s (slice_set l k x) w)))
    leaf_meets (LocalTee k) f s lt = top_meets p ks f0 l w j i s _ _ (λ x s. tee_meets k f x s)
    leaf_meets (GlobalGet k) f s lt = found_meets p ks f0 l w j i (slice_get w.globals k) _ _ (λ x. put_meets p ks f0 l w j i f x s l w)
    leaf_meets (GlobalSet k) f s lt =
        top_meets p ks f0 l w j i s _ _
        (λ x s. found_meets p ks f0 l w j i (slice_get w.globals k) _ _
        (λ old. replacing_meets p ks f0 l w j i x old _ _ (next_meets p ks f0 l w j i f s l (record w { globals = slice_set w.globals k x }))))
    leaf_meets MemorySize f s lt = put_meets p ks f0 l w j i f (value I32 (size_word w.memory)) s l w
    leaf_meets MemoryGrow f s lt =
        operand_meets p ks f0 l w j i I32 s _ _
        (λ m s. pay_meets p ks f0 l w j i (grow_cost m) f _ _
        (λ f. cond_meets p ks f0 l w j i (nat_lt p.most_pages (pages w.memory + m)) _ _ _ _ (put_meets p ks f0 l w j i f (value I32 (words I32 - 1)) s l w)
        (put_meets p ks f0 l w j i f (value I32 (size_word w.memory)) s l (record w { memory = with_pages m w.memory }))))
    leaf_meets (Load o align offset) f s lt =
        operand_meets p ks f0 l w j i I32 s _ _
        (λ a s. access_meets p ks f0 l w j i (a + offset) (load_width o) f s _ _
        (put_meets p ks f0 l w j i f (value (load_type o) (load_value o w.memory (a + offset))) s l w))
    leaf_meets (Store o align offset) f s lt =
        operands_meet p ks f0 l w j i I32 (store_type o) s _ _
        (λ a m s. access_meets p ks f0 l w j i (a + offset) (store_width o) f s _ _
        (next_meets p ks f0 l w j i f s l (record w { memory = with_bytes w.memory (a + offset) (bytes_of (store_width o) m) })))
    leaf_meets (Const t m) f s lt = put_meets p ks f0 l w j i f (value t m) s l w
    leaf_meets (Eqz t) f s lt =
        operand_meets p ks f0 l w j i t s _ _ (λ a s. put_meets p ks f0 l w j i f (value I32 (eqz a)) s l w)
    leaf_meets (Unary t o) f s lt =
        operand_meets p ks f0 l w j i t s _ _ (λ a s. put_meets p ks f0 l w j i f (value t (unary t o a)) s l w)
    leaf_meets (Compare t o) f s lt =
        operands_meet p ks f0 l w j i t t s _ _ (λ a b s. put_meets p ks f0 l w j i f (value I32 (compare t o a b)) s l w)
    leaf_meets (Binary t o) f s lt =
        operands_meet p ks f0 l w j i t t s _ _ (λ a b s. number_meets p ks f0 l w j i t (binary t o a b) f s)
    leaf_meets (Convert o) f s lt =
        operand_meets p ks f0 l w j i (operand_type o) s _ _ (λ a s. put_meets p ks f0 l w j i f (value (result_type o) (convert o a)) s l w)
