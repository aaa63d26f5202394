-- What a call becomes, by the function that it names, and the words of its arguments.
use Rattle.std.proofs.Common.{◌≡◌, ◌<◌, ◌≤◌, ◌+◌, ◌-◌, ℕ, List, [], ◌∷◌, ◌++◌, Some, None, length, drop, refl, sym, ap, ◌∙◌, slice_index_or, append_assoc}
use Rattle.std.proofs.Common.{Bool, Option, Ok, Err, cond}
use Rattle.wasm_ast.specs.declared.types.FuncType.{FuncType}
use Rattle.wasm_ast.specs.declared.types.ValueType.{ValueType}
use Rattle.wasm_ast.specs.declared.types.ValueType.TheVariants.{I32}
use Rattle.wasm_ast.specs.Op.{CallIndirect}
use Rattle.std.specs.Prelude.{slice_get, option_map}
use Rattle.std.proofs.lemmas.Bool.{lt-ltb, le-ltb}
use Rattle.std.proofs.lemmas.List.{append-nil, drop_more, drop_all}
use Rattle.wasm_ast.specs.declared.host_call.HostCall.{HostCall}
use Rattle.wasm_ast.specs.declared.trap.Trap.{Trap}
use Rattle.wasm_ast.specs.declared.trap.Trap.TheVariants as trap
use Rattle.wasm_instance.specs.Accesses.{function_at}
use Rattle.wasm_meaning.specs.Meaning.{same_func_type, type_of}
use Rattle.wasm_meaning.specs.Values.{Val, value, World, Program, Function}
use Rattle.wasm_trace.specs.declared.parts.Value.{Value}
use Rattle.wasm_trace.specs.declared.parts.Value.TheVariants as val
use Rattle.wasm_trace.specs.Reduction.{Seq, Invoke, Traps, Step, Stuck, at, operand, with_found, with_words, host_step, call_step, entry_step, op_step}
use Rattle.wasm_trace.specs.View.{vals, Lacks}

module _ {R : Type 0} (p : Program R) (k f : ℕ) (l : List Val) (w : World R) (s : List Val) (i : Seq) where
  pub call_imported : (which : HostCall) → k < length p.imports → slice_get p.imports k ≡ Some which → call_step p k f l w s i ≡ host_step p which f l w s i
  call_imported which lt e = rw (lt-ltb k (length p.imports) lt, e) refl

  pub call_missing : length p.imports ≤ k → slice_get p.functions (k - length p.imports) ≡ None → call_step p k f l w s i ≡ Stuck
  call_missing le e = rw (le-ltb k (length p.imports) le, e) refl

  pub call_own : (fn : Function) → length p.imports ≤ k → slice_get p.functions (k - length p.imports) ≡ Some fn →
      call_step p k f l w s i ≡ at f l w s (Invoke fn i)
  call_own fn le e = rw (le-ltb k (length p.imports) le, e) refl

operand_lacks : {R : Type 0} (t : ValueType) (s : List Val) (go : ℕ → List Val → Step R) → Lacks t s → operand t s go ≡ Stuck
operand_lacks t [] go h = refl
operand_lacks t (x ∷ s) go h = rw h refl

module _ {R : Type 0} (p : Program R) (x f : ℕ) (l : List Val) (w : World R) (s : List Val) (i : Seq) where
  pub indirect_lacks : Lacks I32 s → op_step p (CallIndirect x) f l w s i ≡ Stuck
  indirect_lacks h = operand_lacks I32 s (λ n s. with_found (slice_get p.types x) (λ t. entry_step p t (slice_get p.table n) f l w s i)) h

  module _ (n : ℕ) (rest : List Val) (top : s ≡ value I32 n ∷ rest) where
    pub indirect_untyped : slice_get p.types x ≡ None → op_step p (CallIndirect x) f l w s i ≡ Stuck
    indirect_untyped e =
        ap (λ z. op_step p (CallIndirect x) f l w z i) top ∙ ap (λ o. with_found o (λ t. entry_step p t (slice_get p.table n) f l w rest i)) e

    pub indirect_typed : (t : FuncType) → slice_get p.types x ≡ Some t →
        op_step p (CallIndirect x) f l w s i ≡ entry_step p t (slice_get p.table n) f l w rest i
    indirect_typed t e =
        ap (λ z. op_step p (CallIndirect x) f l w z i) top ∙ ap (λ o. with_found o (λ t. entry_step p t (slice_get p.table n) f l w rest i)) e

module _ {R : Type 0} (go : List ℕ → Step R) (vs : List Value) (ws : List ℕ) (i : ℕ) where
  pub words_next : (ws' : List ℕ) (d : Value) (word : ℕ) → i < length vs → slice_index_or vs i d ≡ val.I32 word → ws' ≡ ws ++ word ∷ [] →
      with_words (vals (drop i vs)) (λ ns. go (ws ++ ns)) ≡ with_words (vals (drop (i + 1) vs)) (λ ns. go (ws' ++ ns))
  words_next ws' d word lt is more =
      ap (λ xs. with_words (vals xs) (λ ns. go (ws ++ ns))) (drop_more vs i d lt ∙ ap (λ y. y ∷ drop (i + 1) vs) is) ∙
      (λ j. with_words (vals (drop (i + 1) vs)) (λ ns. go ((sym (append_assoc ws (word ∷ []) ns) ∙ ap (λ z. z ++ ns) (sym more)) j)))

  pub words_none : (d : Value) (word : ℕ) → i < length vs → slice_index_or vs i d ≡ val.I64 word →
      with_words (vals (drop i vs)) (λ ns. go (ws ++ ns)) ≡ Stuck
  words_none d word lt is =
      ap (λ xs. with_words (vals xs) (λ ns. go (ws ++ ns))) (drop_more vs i d lt ∙ ap (λ y. y ∷ drop (i + 1) vs) is)

  pub words_all : length vs ≤ i → with_words (vals (drop i vs)) (λ ns. go (ws ++ ns)) ≡ go ws
  words_all le = ap (λ xs. with_words (vals xs) (λ ns. go (ws ++ ns))) (drop_all i vs le) ∙ ap go (append-nil ws)

typed_by : {R : Type 0} (t : FuncType) (o : Option FuncType) (b : Bool) (run stop : Step R) → Some b ≡ option_map (same_func_type t) o →
    with_found o (λ u. cond (same_func_type t u) run stop) ≡ cond b run stop
typed_by t None b run stop e = absurd cc
typed_by t (Some u) b run stop e = let h : b ≡ same_func_type t u = cc in ap (λ b. cond b run stop) (sym h)

untyped_by : {R : Type 0} (t : FuncType) (o : Option FuncType) (run stop : Step R) → None ≡ option_map (same_func_type t) o →
    with_found o (λ u. cond (same_func_type t u) run stop) ≡ Stuck
untyped_by t None run stop e = refl
untyped_by t (Some u) run stop e = absurd cc

module _ {R : Type 0} (p : Program R) (t : FuncType) (f : ℕ) (l : List Val) (w : World R) (s : List Val) (i : Seq) where
  pub entry_refused : (o : Option (Option ℕ)) (why : Trap) → Err why ≡ function_at o → entry_step p t o f l w s i ≡ at f l w s (Traps why i)
  entry_refused None why e = let h : why ≡ trap.UndefinedElement = cc in ap (λ why. at f l w s (Traps why i)) (sym h)
  entry_refused (Some None) why e = let h : why ≡ trap.UninitializedElement = cc in ap (λ why. at f l w s (Traps why i)) (sym h)
  entry_refused (Some (Some k)) why e = absurd cc

  entry_found : (o : Option (Option ℕ)) (k : ℕ) → Ok k ≡ function_at o → entry_step p t o f l w s i ≡ entry_step p t (Some (Some k)) f l w s i
  entry_found None k e = absurd cc
  entry_found (Some None) k e = absurd cc
  entry_found (Some (Some j)) k e = let h : k ≡ j = cc in ap (λ j. entry_step p t (Some (Some j)) f l w s i) (sym h)

  module _ (o : Option (Option ℕ)) (k : ℕ) (found : Ok k ≡ function_at o) where
    pub entry_typed : (b : Bool) → Some b ≡ option_map (same_func_type t) (type_of p k) →
        entry_step p t o f l w s i ≡ cond b (call_step p k f l w s i) (at f l w s (Traps trap.IndirectCallType i))
    entry_typed b e = entry_found o k found ∙ typed_by t (type_of p k) b (call_step p k f l w s i) (at f l w s (Traps trap.IndirectCallType i)) e

    pub entry_untyped : None ≡ option_map (same_func_type t) (type_of p k) → entry_step p t o f l w s i ≡ Stuck
    entry_untyped e = entry_found o k found ∙ untyped_by t (type_of p k) (call_step p k f l w s i) (at f l w s (Traps trap.IndirectCallType i)) e
