-- How a stepper's vectors stand for labels and frames.
use Rattle.std.proofs.Common.{◌≡◌, ◌≢◌, ℕ, suc, ◌-◌, Bool, true, false, cond, Option, Some, None, List, [], ◌∷◌, ◌++◌, length, map, reverse, refl, sym, ap, ◌∙◌}
use Rattle.std.proofs.Common.{subst, arith}
use Rattle.std.specs.Prelude.{nat_lt}
use Rattle.std.specs.Bool.{◌==◌}
use Rattle.std.proofs.lemmas.Bool.Decides.{nat_tests}
use Rattle.std.proofs.lemmas.List.{reverse-append, map-append}
use Rattle.wasm_ast.specs.declared.body.Instr.{Instr}
use Rattle.wasm_ast.specs.declared.types.ValueType.{ValueType}
use Rattle.wasm_ast.specs.declared.body.Instr.TheVariants as instr
use Rattle.wasm_ast.specs.declared.trap.Trap.{Trap}
use Rattle.wasm_ast.specs.Code.{BlockType, Code}
use Rattle.wasm_ast.specs.View.{then_code, code_of}
use Rattle.wasm_meaning.specs.Values.{Val, World, Program, all_of, top_of}
use Rattle.wasm_trace.specs.declared.parts.Value.{Value}
use Rattle.wasm_trace.specs.declared.parts.Front.{Front}
use Rattle.wasm_trace.specs.declared.parts.Front.TheVariants as front
use Rattle.wasm_trace.specs.declared.parts.Level.{Level}
use Rattle.wasm_trace.specs.Reduction.{Seq, Nil, Traps, plain, values, Config, conf, at, Step, To, Ends, Trapped, Spent, Stuck, paid, with_found, in_label}
use Rattle.wasm_trace.specs.Reduction.{in_frame, trap_step, reduce, reduce_in}
use Rattle.wasm_trace.specs.Context.{Layer, InLabel, InFrame, frames, wrap, plug}
use Rattle.wasm_trace.specs.View.{val_of, stack_of, plain_of, before, layer_of, layers, out_of, Kept, arity_of}
use Rattle.wasm_trace.specs.Ending.{IsStuck}
use Rattle.wasm_trace.proofs.Sim.{values_append, step_start}

abbrev truth : Bool → Type 0
truth true = Unit {0}
truth false = ⊥

-- what `is_empty` tells
pub not_empty : {A : Type 0} (xs : List A) (n : ℕ) → n ≡ length xs → false ≡ (n == 0) → length xs ≢ 0
not_empty xs n e h k = subst truth (sym (h ∙ ap (λ n. n == 0) (e ∙ k))) tt

pub is_empty : {A : Type 0} (xs : List A) (n : ℕ) → n ≡ length xs → true ≡ (n == 0) → xs ≡ []
is_empty [] n e h = refl
is_empty (x ∷ xs) n e h = let z : n ≡ 0 = grind (arith, nat_tests) in absurd (omega (arith, e, z))

pub stack_snoc : (vs : List Value) (v : Value) → stack_of (vs ++ v ∷ []) ≡ val_of v ∷ stack_of vs
stack_snoc vs v = ap reverse (map-append val_of vs (v ∷ [])) ∙ reverse-append (map val_of vs) (val_of v ∷ [])

pub stack_append : (bs vs : List Value) → stack_of (bs ++ vs) ≡ stack_of vs ++ stack_of bs
stack_append bs vs = ap reverse (map-append val_of bs vs) ∙ reverse-append (map val_of bs) (map val_of vs)

pub layers_snoc : (ms ls : List Level) (m : Level) (k : Layer) → ms ≡ ls ++ m ∷ [] → layer_of m ≡ k → layers ms ≡ k ∷ layers ls
layers_snoc ms ls m k e q =
    ap layers e ∙ ap reverse (map-append layer_of ls (m ∷ [])) ∙ reverse-append (map layer_of ls) (layer_of m ∷ []) ∙ ap (λ k. k ∷ layers ls) q

length_snoc : {A : Type 0} (xs : List A) (x : A) → length (xs ++ x ∷ []) ≡ suc (length xs)
length_snoc [] x = refl
length_snoc (y ∷ xs) x = ap suc (length_snoc xs x)

length_reverse : {A : Type 0} (xs : List A) → length (reverse xs) ≡ length xs
length_reverse [] = refl
length_reverse (x ∷ xs) = ap length (reverse-append (x ∷ []) xs) ∙ length_snoc (reverse xs) x ∙ ap suc (length_reverse xs)

length_vals : (vs : List Value) → length (map val_of vs) ≡ length vs
length_vals [] = refl
length_vals (v ∷ vs) = ap suc (length_vals vs)

pub length_stack : (vs : List Value) → length (stack_of vs) ≡ length vs
length_stack vs = length_reverse (map val_of vs) ∙ length_vals vs

-- the values at a frame's end
all_there : (t : BlockType) (s : List Val) → length s ≡ arity_of t → all_of t s ≡ Some s
all_there None [] e = refl
all_there None (x ∷ s) e = absurd (omega (arith, e))
all_there (Some t) [] e = absurd (omega (arith, e))
all_there (Some t) (x ∷ []) e = refl
all_there (Some t) (x ∷ y ∷ s) e = absurd (omega (arith, e))

not_all_there : (t : BlockType) (s : List Val) → length s ≢ arity_of t → all_of t s ≡ None
not_all_there None [] e = absurd (e refl)
not_all_there None (x ∷ s) e = refl
not_all_there (Some t) [] e = refl
not_all_there (Some t) (x ∷ []) e = absurd (e refl)
not_all_there (Some t) (x ∷ y ∷ s) e = refl

-- values put back before those of a stack
put_before : (bs vs stack : List Value) (fr : Front) (i : Seq) → stack ≡ bs ++ vs → fr ≡ front.Nothing →
    values (stack_of bs) (values (stack_of vs) i) ≡ values (stack_of stack) (before fr i)
put_before bs vs stack fr i e q =
    sym (values_append (stack_of vs) (stack_of bs) i) ∙ ap (λ s. values s i) (sym (ap stack_of e ∙ stack_append bs vs)) ∙
    ap (λ fr. values (stack_of stack) (before fr i)) (sym q)

module _ {R : Type 0} where
  pub out_to : (ks : List Layer) (f : ℕ) (l : List Val) (w : World R) (x : Config R) → out_of ks f l w (To x) ≡ To (plug ks x)
  out_to [] f l w x = refl
  out_to (InLabel t c s i ∷ ks) f l w x = out_to ks f l w (wrap (InLabel t c s i) x)
  out_to (InFrame t l' s i ∷ ks) f l w x = out_to ks f l' w (wrap (InFrame t l' s i) x)

  -- a step to a configuration leaves nothing of the one before
  pub out_same : (ks : List Layer) (f f' : ℕ) (l l' : List Val) (w w' : World R) (x : Config R) → out_of ks f l w (To x) ≡ out_of ks f' l' w' (To x)
  out_same ks f f' l l' w w' x = out_to ks f l w x ∙ sym (out_to ks f' l' w' x)

  pub out_spent : (ks : List Layer) (f : ℕ) (l : List Val) (w : World R) → out_of ks f l w Spent ≡ Spent
  out_spent [] f l w = refl
  out_spent (InLabel t c s i ∷ ks) f l w = out_spent ks f l w
  out_spent (InFrame t l' s i ∷ ks) f l w = out_spent ks f l' w

  -- a cost of 1, that is not there, or is paid
  pub paid_none : (ks : List Layer) (f : ℕ) (l : List Val) (w : World R) (go : ℕ → Step R) → f ≡ 0 → out_of ks f l w (paid 1 f go) ≡ Spent
  paid_none ks f l w go e = ap (λ n. out_of ks f l w (paid 1 n go)) e ∙ out_spent ks f l w

  pub paid_now : (ks : List Layer) (f : ℕ) (l : List Val) (w : World R) (go : ℕ → Step R) → f ≢ 0 → out_of ks f l w (paid 1 f go) ≡ out_of ks f l w (go (f - 1))
  paid_now ks f l w go ne =
      let e : nat_lt f 1 ≡ false = grind (arith, nat_tests) in ap (λ b. out_of ks f l w (cond b Spent (go (f - 1)))) e

  pub out_stuck : (ks : List Layer) (f : ℕ) (l : List Val) (w : World R) → out_of ks f l w Stuck ≡ Stuck
  out_stuck [] f l w = refl
  out_stuck (InLabel t c s i ∷ ks) f l w = out_stuck ks f l w
  out_stuck (InFrame t l' s i ∷ ks) f l w = out_stuck ks f l' w

  -- one step of a configuration within layers, by the step within them
  pub reduce_plug : (p : Program R) (ks : List Layer) (x : Config R) → reduce p (plug ks x) ≡ out_of ks x.fuel x.locals x.world (reduce_in p (frames ks) x)
  reduce_plug p [] x = refl
  reduce_plug p (InLabel t c s i ∷ ks) x =
      reduce_plug p ks (wrap (InLabel t c s i) x) ∙ ap (out_of ks x.fuel x.locals x.world) (step_start p (frames ks) x.fuel x.locals x.world s _)
  reduce_plug p (InFrame t l s i ∷ ks) x =
      reduce_plug p ks (wrap (InFrame t l s i) x) ∙ ap (out_of ks x.fuel l x.world) (step_start p (frames ks) x.fuel l x.world s _)

  pub end_label : (ms ls : List Level) (m : Level) (bs vs stack : List Value) (t : BlockType) (c : Code) (rest : List Instr) (fr : Front) (f : ℕ) (l : List Val)
      (w : World R) → ms ≡ ls ++ m ∷ [] → layer_of m ≡ InLabel t c (stack_of bs) (plain_of rest) → stack ≡ bs ++ vs → fr ≡ front.Nothing →
      out_of (layers ms) f l w (Ends (stack_of vs)) ≡ To (plug (layers ls) (conf f l w (values (stack_of stack) (before fr (plain_of rest)))))
  end_label ms ls m bs vs stack t c rest fr f l w e q h k =
      ap (λ ks. out_of ks f l w (Ends (stack_of vs))) (layers_snoc ms ls m _ e q) ∙
      out_to (layers ls) f l w (conf f l w (values (stack_of bs) (values (stack_of vs) (plain_of rest)))) ∙
      ap (λ j. To (plug (layers ls) (conf f l w j))) (put_before bs vs stack fr (plain_of rest) h k)

  pub end_frame : (ms ls : List Level) (m : Level) (bs vs stack : List Value) (t : BlockType) (l' : List Val) (rest : List Instr) (fr : Front) (f : ℕ)
      (l : List Val) (w : World R) → ms ≡ ls ++ m ∷ [] → layer_of m ≡ InFrame t l' (stack_of bs) (plain_of rest) → stack ≡ bs ++ vs → fr ≡ front.Nothing →
      length vs ≡ arity_of t →
      out_of (layers ms) f l w (Ends (stack_of vs)) ≡ To (plug (layers ls) (conf f l' w (values (stack_of stack) (before fr (plain_of rest)))))
  end_frame ms ls m bs vs stack t l' rest fr f l w e q h k n =
      ap (λ ks. out_of ks f l w (Ends (stack_of vs))) (layers_snoc ms ls m _ e q) ∙
      ap (λ o. out_of (layers ls) f l' w (with_found o (λ r. at f l' w (stack_of bs) (values r (plain_of rest)))))
      (all_there t (stack_of vs) (length_stack vs ∙ n)) ∙
      out_to (layers ls) f l' w (conf f l' w (values (stack_of bs) (values (stack_of vs) (plain_of rest)))) ∙
      ap (λ j. To (plug (layers ls) (conf f l' w j))) (put_before bs vs stack fr (plain_of rest) h k)

  pub end_frame_bad : (ms ls : List Level) (m : Level) (s : List Val) (vs : List Value) (t : BlockType) (l' : List Val) (i : Seq) (f : ℕ) (l : List Val)
      (w : World R) → ms ≡ ls ++ m ∷ [] → layer_of m ≡ InFrame t l' s i → length vs ≢ arity_of t → IsStuck (out_of (layers ms) f l w (Ends (stack_of vs)))
  end_frame_bad ms ls m s vs t l' i f l w e q n =
      subst IsStuck (sym (ap (λ ks. out_of ks f l w (Ends (stack_of vs))) (layers_snoc ms ls m _ e q) ∙
      ap (λ o. out_of (layers ls) f l' w (with_found o (λ r. at f l' w s (values r i))))
      (not_all_there t (stack_of vs) (λ h. n (sym (length_stack vs) ∙ h))) ∙ out_stuck (layers ls) f l' w)) tt

  -- into a label
  pub entered : (ms ls : List Level) (m : Level) (k : Layer) (f : ℕ) (l : List Val) (w : World R) (i : Seq) → ls ≡ ms ++ m ∷ [] → layer_of m ≡ k →
      out_of (layers ms) f l w (To (wrap k (conf f l w i))) ≡ To (plug (layers ls) (conf f l w i))
  entered ms ls m k f l w i e q =
      out_to (layers ms) f l w (wrap k (conf f l w i)) ∙ ap (λ ks. To (plug ks (conf f l w i))) (sym (layers_snoc ls ms m k e q))

  -- a label that is pushed, with an emptied stack
  pub entered_label : (ms ls : List Level) (m : Level) (vs stack bs : List Value) (t : BlockType) (c b : Code) (is : List Instr) (i : Seq) (f : ℕ)
      (l : List Val) (w : World R) → ls ≡ ms ++ m ∷ [] → layer_of m ≡ InLabel t c (stack_of bs) i → bs ≡ vs → stack ≡ [] → code_of is ≡ b →
      out_of (layers ms) f l w (To (wrap (InLabel t c (stack_of vs) i) (conf f l w (plain b Nil)))) ≡
      To (plug (layers ls) (conf f l w (values (stack_of stack) (plain_of is))))
  entered_label ms ls m vs stack bs t c b is i f l w e q h k d =
      entered ms ls m (InLabel t c (stack_of vs) i) f l w (plain b Nil) e (q ∙ ap (λ vs. InLabel t c (stack_of vs) i) h) ∙
      ap (λ stack. To (plug (layers ls) (conf f l w (values (stack_of stack) (plain b Nil))))) (sym k) ∙
      ap (λ b. To (plug (layers ls) (conf f l w (values (stack_of stack) (plain b Nil))))) (sym d)

pub kept_one : (leaves : BlockType) (t : ValueType) (vs rest bs kept : List Value) (v : Value) → leaves ≡ Some t → vs ≡ rest ++ v ∷ [] → kept ≡ bs ++ v ∷ [] →
    Kept leaves vs bs true kept
kept_one leaves t vs rest bs kept v e q h =
    (val_of v ∷ [], ap (λ t. top_of t (stack_of vs)) e ∙ ap (top_of (Some t)) (ap stack_of q ∙ stack_snoc rest v), ap stack_of h ∙ stack_snoc bs v)

module _ {R : Type 0} where
  trap_first : (f : ℕ) (l : List Val) (w : World R) (why : Trap) (x : Instr) (c : Code) →
      trap_step f l w [] why (plain (then_code x c) Nil) ≡ at f l w [] (Traps why Nil)
  trap_first f l w why instr.Unreachable c = refl
  trap_first f l w why instr.Nop c = refl
  trap_first f l w why (instr.Block b) c = refl
  trap_first f l w why (instr.Loop b) c = refl
  trap_first f l w why (instr.If b) c = refl
  trap_first f l w why (instr.Br n) c = refl
  trap_first f l w why (instr.BrIf n) c = refl
  trap_first f l w why (instr.BrTable t) c = refl
  trap_first f l w why instr.Return c = refl
  trap_first f l w why (instr.Call n) c = refl
  trap_first f l w why (instr.CallIndirect n) c = refl
  trap_first f l w why instr.Drop c = refl
  trap_first f l w why instr.Select c = refl
  trap_first f l w why (instr.LocalGet n) c = refl
  trap_first f l w why (instr.LocalSet n) c = refl
  trap_first f l w why (instr.LocalTee n) c = refl
  trap_first f l w why (instr.GlobalGet n) c = refl
  trap_first f l w why (instr.GlobalSet n) c = refl
  trap_first f l w why (instr.Load o a) c = refl
  trap_first f l w why (instr.Store o a) c = refl
  trap_first f l w why instr.MemorySize c = refl
  trap_first f l w why instr.MemoryGrow c = refl
  trap_first f l w why (instr.I32Const n) c = refl
  trap_first f l w why (instr.I64Const n) c = refl
  trap_first f l w why instr.I32Eqz c = refl
  trap_first f l w why instr.I64Eqz c = refl
  trap_first f l w why (instr.I32Compare o) c = refl
  trap_first f l w why (instr.I64Compare o) c = refl
  trap_first f l w why (instr.I32Unary o) c = refl
  trap_first f l w why (instr.I64Unary o) c = refl
  trap_first f l w why (instr.I32Binary o) c = refl
  trap_first f l w why (instr.I64Binary o) c = refl
  trap_first f l w why (instr.Convert o) c = refl

  trap_code : (f : ℕ) (l : List Val) (w : World R) (why : Trap) (is : List Instr) → length is ≢ 0 →
      trap_step f l w [] why (plain_of is) ≡ at f l w [] (Traps why Nil)
  trap_code f l w why [] n = absurd (n refl)
  trap_code f l w why (x ∷ is) n = trap_first f l w why x (code_of is)

  trap_values : (f : ℕ) (l : List Val) (w : World R) (s : List Val) (why : Trap) (i : Seq) → length s ≢ 0 →
      trap_step f l w s why i ≡ at f l w [] (Traps why Nil)
  trap_values f l w [] why i n = absurd (n refl)
  trap_values f l w (x ∷ s) why i n = refl

  alone : (ks : List Layer) (f : ℕ) (l : List Val) (w : World R) (r : Step R) (stack : List Value) (why : Trap) (fr : Front) → r ≡ at f l w [] (Traps why Nil) →
      stack ≡ [] → fr ≡ front.Trap why → out_of ks f l w r ≡ To (plug ks (conf f l w (values (stack_of stack) (before fr Nil))))
  alone ks f l w r stack why fr e q h =
      ap (out_of ks f l w) e ∙ out_to ks f l w (conf f l w (Traps why Nil)) ∙
      ap (λ stack. To (plug ks (conf f l w (values (stack_of stack) (Traps why Nil))))) (sym q) ∙
      ap (λ fr. To (plug ks (conf f l w (values (stack_of stack) (before fr Nil))))) (sym h)

  -- values stood before a trap
  pub trap_after : (ks : List Layer) (f : ℕ) (l : List Val) (w : World R) (vs stack : List Value) (why : Trap) (fr : Front) (i : Seq) → length vs ≢ 0 →
      stack ≡ [] → fr ≡ front.Trap why →
      out_of ks f l w (trap_step f l w (stack_of vs) why i) ≡ To (plug ks (conf f l w (values (stack_of stack) (before fr Nil))))
  trap_after ks f l w vs stack why fr i n q h =
      alone ks f l w (trap_step f l w (stack_of vs) why i) stack why fr (trap_values f l w (stack_of vs) why i (λ e. n (sym (length_stack vs) ∙ e))) q h

  -- instructions stood after it
  pub trap_before : (ks : List Layer) (f : ℕ) (l : List Val) (w : World R) (vs : List Value) (is : List Instr) (why : Trap) (fr : Front) → vs ≡ [] →
      length is ≢ 0 → fr ≡ front.Trap why →
      out_of ks f l w (trap_step f l w (stack_of vs) why (plain_of is)) ≡ To (plug ks (conf f l w (values (stack_of vs) (before fr Nil))))
  trap_before ks f l w vs is why fr e n h =
      alone ks f l w (trap_step f l w (stack_of vs) why (plain_of is)) vs why fr
      (ap (λ vs. trap_step f l w (stack_of vs) why (plain_of is)) e ∙ trap_code f l w why is n) e h

  trap_is : (f : ℕ) (l : List Val) (w : World R) (vs : List Value) (is : List Instr) (why : Trap) → vs ≡ [] → is ≡ [] →
      trap_step f l w (stack_of vs) why (plain_of is) ≡ Trapped why
  trap_is f l w vs is why e q = ap (λ vs. trap_step f l w (stack_of vs) why (plain_of is)) e ∙ ap (λ is. trap_step f l w [] why (plain_of is)) q

  -- it was alone in a label
  pub trap_label : (ms ls : List Level) (m : Level) (bs vs : List Value) (t : BlockType) (c : Code) (is rest : List Instr) (why : Trap) (fr : Front) (f : ℕ)
      (l : List Val) (w : World R) → ms ≡ ls ++ m ∷ [] → layer_of m ≡ InLabel t c (stack_of bs) (plain_of rest) → vs ≡ [] → is ≡ [] → fr ≡ front.Trap why →
      out_of (layers ms) f l w (trap_step f l w (stack_of vs) why (plain_of is)) ≡
      To (plug (layers ls) (conf f l w (values (stack_of bs) (before fr (plain_of rest)))))
  trap_label ms ls m bs vs t c is rest why fr f l w e q a b h =
      ap (λ ks. out_of ks f l w (trap_step f l w (stack_of vs) why (plain_of is))) (layers_snoc ms ls m _ e q) ∙
      ap (λ r. out_of (layers ls) f l w (in_label f l w (stack_of bs) t c (plain_of rest) r)) (trap_is f l w vs is why a b) ∙
      out_to (layers ls) f l w (conf f l w (values (stack_of bs) (Traps why (plain_of rest)))) ∙
      ap (λ fr. To (plug (layers ls) (conf f l w (values (stack_of bs) (before fr (plain_of rest)))))) (sym h)

  -- it was alone in a frame
  pub trap_frame : (ms ls : List Level) (m : Level) (bs vs : List Value) (t : BlockType) (l' : List Val) (is rest : List Instr) (why : Trap) (fr : Front)
      (f : ℕ) (l : List Val) (w : World R) → ms ≡ ls ++ m ∷ [] → layer_of m ≡ InFrame t l' (stack_of bs) (plain_of rest) → vs ≡ [] → is ≡ [] →
      fr ≡ front.Trap why →
      out_of (layers ms) f l w (trap_step f l w (stack_of vs) why (plain_of is)) ≡
      To (plug (layers ls) (conf f l' w (values (stack_of bs) (before fr (plain_of rest)))))
  trap_frame ms ls m bs vs t l' is rest why fr f l w e q a b h =
      ap (λ ks. out_of ks f l w (trap_step f l w (stack_of vs) why (plain_of is))) (layers_snoc ms ls m _ e q) ∙
      ap (λ r. out_of (layers ls) f l' w (in_frame f l' w (stack_of bs) t (plain_of rest) r)) (trap_is f l w vs is why a b) ∙
      out_to (layers ls) f l' w (conf f l' w (values (stack_of bs) (Traps why (plain_of rest)))) ∙
      ap (λ fr. To (plug (layers ls) (conf f l' w (values (stack_of bs) (before fr (plain_of rest)))))) (sym h)

  -- what a pop of a label, or of a frame, does to a step
  pub out_label : (ms ls : List Level) (m : Level) (t : BlockType) (c : Code) (s : List Val) (i : Seq) (r : Step R) (f : ℕ) (l : List Val) (w : World R) →
      ms ≡ ls ++ m ∷ [] → layer_of m ≡ InLabel t c s i → out_of (layers ms) f l w r ≡ out_of (layers ls) f l w (in_label f l w s t c i r)
  out_label ms ls m t c s i r f l w e q = ap (λ ks. out_of ks f l w r) (layers_snoc ms ls m _ e q)

  pub out_frame : (ms ls : List Level) (m : Level) (t : BlockType) (l' s : List Val) (i : Seq) (r : Step R) (f : ℕ) (l : List Val) (w : World R) →
      ms ≡ ls ++ m ∷ [] → layer_of m ≡ InFrame t l' s i → out_of (layers ms) f l w r ≡ out_of (layers ls) f l' w (in_frame f l' w s t i r)
  out_frame ms ls m t l' s i r f l w e q = ap (λ ks. out_of ks f l w r) (layers_snoc ms ls m _ e q)

  pub bad : (ks : List Layer) (f : ℕ) (l : List Val) (w : World R) (r : Step R) → r ≡ out_of ks f l w Stuck → IsStuck r
  bad ks f l w r e = subst IsStuck (sym (e ∙ out_stuck ks f l w)) tt

  -- results after the values before a label or a frame
  pub resumed : (ks : List Layer) (f : ℕ) (l : List Val) (w : World R) (o : Option (List Val)) (r s : List Val) (stack : List Value) (i : Seq) → o ≡ Some r →
      stack_of stack ≡ r ++ s → out_of ks f l w (with_found o (λ r. at f l w s (values r i))) ≡ To (plug ks (conf f l w (values (stack_of stack) i)))
  resumed ks f l w o r s stack i e q =
      ap (λ o. out_of ks f l w (with_found o (λ r. at f l w s (values r i)))) e ∙ out_to ks f l w (conf f l w (values s (values r i))) ∙
      ap (λ j. To (plug ks (conf f l w j))) (sym (values_append r s i) ∙ ap (λ s. values s i) (sym q))

  pub not_resumed : (ks : List Layer) (f : ℕ) (l : List Val) (w : World R) (o : Option (List Val)) (s : List Val) (i : Seq) → o ≡ None →
      out_of ks f l w (with_found o (λ r. at f l w s (values r i))) ≡ out_of ks f l w Stuck
  not_resumed ks f l w o s i e = ap (λ o. out_of ks f l w (with_found o (λ r. at f l w s (values r i)))) e
