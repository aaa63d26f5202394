-- What the algorithm accepts is typed by the rules.
use Rattle.std.proofs.Common.{◌≡◌, ◌<◌, ◌≤◌, ◌^◌, ℕ, List, [], ◌∷◌, ◌++◌, refl, sym, subst, Option, Some, None, append-nil, true≢false, arith}
use Rattle.std.specs.Prelude.{Bool, true, false, nat_lt, nat_le, IsSome}
use Rattle.std.proofs.lemmas.Bool.Decides.{nat_tests}
use Rattle.wasm_ast.specs.declared.types.ValueType.{ValueType}
use Rattle.wasm_ast.specs.declared.types.ValueType.TheVariants.{I32}
use Rattle.wasm_ast.specs.declared.types.Limits.{Limits}
use Rattle.wasm_ast.specs.Access.{load_type, load_width, store_type, store_width}
use Rattle.wasm_ast.specs.Conversions.{operand_type, result_type}
use Rattle.wasm_ast.specs.Types.{words}
use Rattle.wasm_ast.specs.Op.{Op, Unreachable, Nop, Drop, Select, Return, Br, BrIf, BrTable, Call, CallIndirect, LocalGet, LocalSet, LocalTee, GlobalGet}
use Rattle.wasm_ast.specs.Op.{GlobalSet, MemorySize, MemoryGrow, Load, Store, Const, Eqz, Unary, Compare, Binary, Convert}
use Rattle.wasm_ast.specs.Code.{BlockType, Code, End, Do, Block, Loop, If}
use Rattle.wasm_typing.specs.Typing.{Context, at, results, under, arguments, TypingRule, Types}
use Rattle.wasm_typing.specs.Operands.{Operands, then, if_true, pop, pop_as, apply, shared, push_result, pop_result, no_operands, from_here, finish}
use Rattle.wasm_typing.specs.Algorithm.{select, with_memory, access, step, check, whole_body}
use Rattle.wasm_typing.proofs.Stands.{Holds, bind, weaker, Stands, For, pop_sound, pop_as_sound, pop_result_sound, apply_sound, shared_sound, push_sound}
use Rattle.wasm_typing.proofs.Stands.{push_known, push_result_sound, finish_sound, some_stack, at_sound, each_label_sound}

-- the instruction takes the first stack to the second
abbrev pub Fits : Context → Op → List ValueType → List ValueType → Type 0
Fits c o from to = (ins : List ValueType) × (outs : List ValueType) × (lower : List ValueType) × TypingRule c o ins outs × (from ≡ ins ++ lower) ×
    (outs ++ lower ≡ to)

-- from some stack that the operands stand for
abbrev pub From : Context → Op → Operands → List ValueType → Type 0
From c o s to = (from : List ValueType) × For s from × Fits c o from to

-- each stack after the instruction comes from one before it
abbrev pub Back : Context → Op → Operands → Operands → Type 0
Back c o s s' = (to : List ValueType) → For s' to → From c o s to

if_holds : {A : Type 0} (b : Bool) (a : A) (P : A → Type 0) → (b ≡ true → P a) → Holds (if_true b a) P
if_holds true a P h = h refl
if_holds false a P h = tt

then_if : {A B : Type 0} (b : Bool) (a : A) (f : A → Option B) (P : B → Type 0) → (b ≡ true → Holds (f a) P) → Holds (then (if_true b a) f) P
then_if true a f P h = h refl
then_if false a f P h = tt

le_of : (n m : ℕ) → nat_le n m ≡ true → n ≤ m
le_of n m h = grind (arith, nat_tests)

module _ (c : Context) (s : Operands) where
  drop_back : Holds (step c Drop s) (Back c Drop s)
  drop_back = bind (pop s) _ _ _ (pop_sound s.types s.unreachable) (λ p h. some_type p h)
    where
      some_type : (p : Option ValueType × Operands) → ((t : ValueType) (ts : List ValueType) → Stands p.0 t → For p.1 ts → For s (t ∷ ts)) → Back c Drop s p.1
      some_type p h = pick p.0 (λ t e. λ ts f. (t ∷ ts, h t ts e f, (t ∷ [], [], ts, (t, refl, refl), refl, refl)))
        where
          pick : (o : Option ValueType) → ((t : ValueType) → Stands o t → Back c Drop s p.1) → Back c Drop s p.1
          pick None k = k I32 tt
          pick (Some t) k = k t refl

  const_back : (t : ValueType) (n : ℕ) → Holds (step c (Const t n) s) (Back c (Const t n) s)
  const_back t n =
      if_holds (nat_lt n (words t)) _ _
      (λ e. let lt : n < words t = grind (arith, nat_tests) in
      push_known t s (From c (Const t n) s) (λ ts f. (ts, f, ([], t ∷ [], ts, (lt, refl, refl), refl, refl))))

  -- what takes operands of known types and leaves a result
  apply_back : (o : Op) (ins : List ValueType) (l : BlockType) → TypingRule c o ins (results l) → Holds (apply ins l s) (Back c o s)
  apply_back o ins l r =
      apply_sound ins l s (From c o s) (λ ts f. (ins ++ ts, f, (ins, results l, ts, r, refl, refl)))

  select_back : Holds (select s) (Back c Select s)
  select_back =
      bind (pop_as I32 s) _ _ _ (pop_as_sound I32 s)
      (λ s1 h1. bind (pop s1) _ _ _ (pop_sound s1.types s1.unreachable)
      (λ p hp. bind (pop p.1) _ _ _ (pop_sound p.1.types p.1.unreachable) (λ q hq. bind (shared p.0 q.0) _ _ _ (shared_sound p.0 q.0) (λ o both.
      push_sound o q.1 (From c Select s) (λ t ts e f.
      let stands = both t e in
      (I32 ∷ t ∷ t ∷ ts, h1 (t ∷ t ∷ ts) (hp t (t ∷ ts) stands.0 (hq t ts stands.1 f)), (I32 ∷ t ∷ t ∷ [], t ∷ [], ts, (t, refl, refl), refl, refl)))))))

  local_back : (x : ℕ) (o : Op) (ins : ValueType → List ValueType) (l : ValueType → BlockType) →
      ((t : ValueType) → at c.locals x ≡ Some t → TypingRule c o (ins t) (results (l t))) →
      Holds (then (at c.locals x) (λ t. apply (ins t) (l t) s)) (Back c o s)
  local_back x o ins l r =
      bind (at c.locals x) _ _ _ (at_sound c.locals x) (λ t e. apply_back o (ins t) (l t) (r t e))

  global_get_back : (x : ℕ) → Holds (step c (GlobalGet x) s) (Back c (GlobalGet x) s)
  global_get_back x =
      bind (at c.globals x) _ _ _ (at_sound c.globals x) (λ g e. apply_back (GlobalGet x) [] (Some g.value_type) (g, e, refl, refl))

  global_set_back : (x : ℕ) → Holds (step c (GlobalSet x) s) (Back c (GlobalSet x) s)
  global_set_back x =
      bind (at c.globals x) _ _ _ (at_sound c.globals x)
      (λ g e. then_if g.is_variable s _ _ (λ variable. apply_back (GlobalSet x) (g.value_type ∷ []) None (g, e, variable, refl, refl)))

  memory_back : (o : Op) (ins : List ValueType) (l : BlockType) → ((m : Limits) → at c.memories 0 ≡ Some m → TypingRule c o ins (results l)) →
      Holds (with_memory c ins l s) (Back c o s)
  memory_back o ins l r = bind (at c.memories 0) _ _ _ (at_sound c.memories 0) (λ m e. apply_back o ins l (r m e))

  access_back : (o : Op) (align width : ℕ) (ins : List ValueType) (l : BlockType) →
      ((m : Limits) → at c.memories 0 ≡ Some m → 2 ^ align ≤ width → TypingRule c o ins (results l)) → Holds (access c align width ins l s) (Back c o s)
  access_back o align width ins l r =
      bind (at c.memories 0) _ _ _ (at_sound c.memories 0)
      (λ m e. then_if (nat_le (2 ^ align) width) s _ _ (λ le. apply_back o ins l (r m e (le_of (2 ^ align) width le))))

  -- what never goes on, above any stack that it takes
  never : (o : Op) (below : List ValueType) (ins : List ValueType) → For s (ins ++ below) → ((outs : List ValueType) → TypingRule c o (ins ++ below) outs) →
      Back c o s from_here
  never o below ins f r = λ to g. (ins ++ below, f, (ins ++ below, to, [], r to, sym (append-nil (ins ++ below)), append-nil to))

  br_back : (n : ℕ) → Holds (step c (Br n) s) (Back c (Br n) s)
  br_back n =
      bind (at c.labels n) _ _ _ (at_sound c.labels n) (λ l e. bind (pop_result l s) _ _ _ (pop_result_sound l s) (λ s1 h.
      let b = some_stack s1 in never (Br n) b.0 (results l) (h b.0 b.1) (λ outs. (l, e, b.0, refl))))

  br_if_back : (n : ℕ) → Holds (step c (BrIf n) s) (Back c (BrIf n) s)
  br_if_back n =
      bind (at c.labels n) _ _ _ (at_sound c.labels n)
      (λ l e. bind (pop_as I32 s) _ _ _ (pop_as_sound I32 s) (λ s1 h1. bind (pop_result l s1) _ _ _ (pop_result_sound l s1) (λ s2 h2.
      push_result_sound l s2 (From c (BrIf n) s) (λ ts f.
      (I32 ∷ (results l ++ ts), h1 (results l ++ ts) (h2 ts f), (I32 ∷ results l, results l, ts, (l, e, refl, refl), refl, refl))))))

  br_table_back : (ns : List ℕ) (n : ℕ) → Holds (step c (BrTable ns n) s) (Back c (BrTable ns n) s)
  br_table_back ns n =
      bind (at c.labels n) _ _ _ (at_sound c.labels n)
      (λ l e. bind (pop_as I32 s) _ _ _ (pop_as_sound I32 s) (λ s1 h1. bind (pop_result l s1) _ _ _ (pop_result_sound l s1) (λ s2 h2.
      each_label_sound c ns l from_here _ (λ each.
      let b = some_stack s2 in never (BrTable ns n) b.0 (I32 ∷ results l) (h1 (results l ++ b.0) (h2 b.0 b.1)) (λ outs. (l, e, each, b.0, refl))))))

  return_back : Holds (step c Return s) (Back c Return s)
  return_back =
      bind (pop_result c.result s) _ _ _ (pop_result_sound c.result s) (λ s1 h.
      let b = some_stack s1 in never Return b.0 (results c.result) (h b.0 b.1) (λ outs. (b.0, refl)))

  unreachable_back : Holds (step c Unreachable s) (Back c Unreachable s)
  unreachable_back = let b = some_stack s in never Unreachable b.0 [] b.1 (λ outs. tt)

  call_back : (x : ℕ) → Holds (step c (Call x) s) (Back c (Call x) s)
  call_back x =
      bind (at c.functions x) _ _ _ (at_sound c.functions x) (λ t e. apply_back (Call x) (arguments t) t.result (t, e, refl, refl))

  call_indirect_back : (x : ℕ) → Holds (step c (CallIndirect x) s) (Back c (CallIndirect x) s)
  call_indirect_back x =
      bind (at c.tables 0) _ _ _ (at_sound c.tables 0)
      (λ l el. bind (at c.types x) _ _ _ (at_sound c.types x) (λ t e. bind (pop_as I32 s) _ _ _ (pop_as_sound I32 s) (λ s1 h.
      apply_sound (arguments t) t.result s1 (From c (CallIndirect x) s) (λ ts f.
      (I32 ∷ (arguments t ++ ts), h (arguments t ++ ts) f, (I32 ∷ arguments t, results t.result, ts, (l, el, t, e, refl, refl), refl, refl))))))

  step_sound : (o : Op) → Holds (step c o s) (Back c o s)
  step_sound Unreachable = unreachable_back
  step_sound Nop = λ ts f. (ts, f, ([], [], ts, (refl, refl), refl, refl))
  step_sound Drop = drop_back
  step_sound Select = select_back
  step_sound (Const t n) = const_back t n
  step_sound (Eqz t) = apply_back (Eqz t) (t ∷ []) (Some I32) (refl, refl)
  step_sound (Unary t o) = apply_back (Unary t o) (t ∷ []) (Some t) (refl, refl)
  step_sound (Compare t o) = apply_back (Compare t o) (t ∷ t ∷ []) (Some I32) (refl, refl)
  step_sound (Binary t o) = apply_back (Binary t o) (t ∷ t ∷ []) (Some t) (refl, refl)
  step_sound (Convert o) = apply_back (Convert o) (operand_type o ∷ []) (Some (result_type o)) (refl, refl)
  step_sound (LocalGet x) = local_back x (LocalGet x) (λ t. []) Some (λ t e. (t, e, refl, refl))
  step_sound (LocalSet x) = local_back x (LocalSet x) (λ t. t ∷ []) (λ t. None) (λ t e. (t, e, refl, refl))
  step_sound (LocalTee x) = local_back x (LocalTee x) (λ t. t ∷ []) Some (λ t e. (t, e, refl, refl))
  step_sound (GlobalGet x) = global_get_back x
  step_sound (GlobalSet x) = global_set_back x
  step_sound (Load o align offset) =
      access_back (Load o align offset) align (load_width o) (I32 ∷ []) (Some (load_type o)) (λ m e le. (m, e, le, refl, refl))
  step_sound (Store o align offset) =
      access_back (Store o align offset) align (store_width o) (store_type o ∷ I32 ∷ []) None (λ m e le. (m, e, le, refl, refl))
  step_sound MemorySize = memory_back MemorySize [] (Some I32) (λ m e. (m, e, refl, refl))
  step_sound MemoryGrow = memory_back MemoryGrow (I32 ∷ []) (Some I32) (λ m e. (m, e, refl, refl))
  step_sound (Br n) = br_back n
  step_sound (BrIf n) = br_if_back n
  step_sound (BrTable ns n) = br_table_back ns n
  step_sound Return = return_back
  step_sound (Call f) = call_back f
  step_sound (CallIndirect x) = call_indirect_back x

-- some stack that the operands stand for is taken to this one
abbrev pub FromCode : Context → Code → Operands → List ValueType → Type 0
FromCode c code s to = (from : List ValueType) × For s from × Types c code from to

-- each stack after the code comes from one before it
abbrev pub BackCode : Context → Code → Operands → Operands → Type 0
BackCode c code s s' = (to : List ValueType) → For s' to → FromCode c code s to

-- a body that ends as it must is typed
body_end : (c : Context) (l : BlockType) (body : Code) → Holds (check c body no_operands) (BackCode c body no_operands) →
    Holds (whole_body c l body) (λ _. Types c body [] (results l))
body_end c l body h =
    bind (check c body no_operands) (finish l) _ _ h (λ e back. weaker (finish l e) _ _ (finish_sound l e) (λ s f.
    let r = back (results l ++ []) f in
    typed r.0 r.1 (subst (Types c body r.0) (append-nil (results l)) r.2)))
  where
    typed : (from : List ValueType) → For no_operands from → Types c body from (results l) → Types c body [] (results l)
    typed [] f t = t
    typed (x ∷ xs) f t = absurd f

-- code after a block that leaves this
after_block : (c : Context) (l : BlockType) (rest : Code) (s : Operands) (P : List ValueType → Type 0) →
    Holds (check c rest (push_result l s)) (BackCode c rest (push_result l s)) →
    ((to from : List ValueType) → For s from → Types c rest (results l ++ from) to → P to) →
    Holds (check c rest (push_result l s)) (λ s'. (to : List ValueType) → For s' to → P to)
after_block c l rest s P h k =
    weaker (check c rest (push_result l s)) _ _ h (λ s' back. λ to f.
    let r = back to f in push_result_sound l s (λ mid. Types c rest mid to → P to) (λ from g. k to from g) r.0 r.1 r.2)

pub check_sound : (c : Context) (code : Code) (s : Operands) → Holds (check c code s) (BackCode c code s)
check_sound c End s = λ to f. (to, f, refl)
check_sound c (Do o rest) s =
    bind (step c o s) (check c rest) _ _ (step_sound c s o) (λ s1 h1. weaker (check c rest s1) _ _ (check_sound c rest s1) (λ s2 h2. λ to f.
    let r = h2 to f in
    let p = h1 r.0 r.1 in
    let q = p.2 in
    (p.0, p.1, (q.0, q.1, q.2, q.3, q.4, subst (λ x. Types c rest x to) (sym q.5) r.2))))
check_sound c (Block t b rest) s =
    bind (whole_body (under t c) t b) _ _ _ (body_end (under t c) t b (check_sound (under t c) b no_operands)) (λ e h.
    after_block c t rest s (FromCode c (Block t b rest) s) (check_sound c rest (push_result t s)) (λ to from g r. (from, g, (h, r))))
check_sound c (Loop t b rest) s =
    bind (whole_body (under None c) t b) _ _ _ (body_end (under None c) t b (check_sound (under None c) b no_operands)) (λ e h.
    after_block c t rest s (FromCode c (Loop t b rest) s) (check_sound c rest (push_result t s)) (λ to from g r. (from, g, (h, r))))
check_sound c (If t a b rest) s =
    bind (pop_as I32 s) _ _ _ (pop_as_sound I32 s) (λ s1 h1.
    bind (whole_body (under t c) t a) _ _ _ (body_end (under t c) t a (check_sound (under t c) a no_operands)) (λ e h2.
    bind (whole_body (under t c) t b) _ _ _ (body_end (under t c) t b (check_sound (under t c) b no_operands)) (λ e h3.
    after_block c t rest s1 (FromCode c (If t a b rest) s) (check_sound c rest (push_result t s1))
    (λ to from g r. (I32 ∷ from, h1 from g, (from, refl, h2, h3, r))))))

-- what the algorithm accepts is typed
pub accepted_is_typed : (c : Context) (l : BlockType) (body : Code) → IsSome (whole_body c l body) → Types c body [] (results l)
accepted_is_typed c l body h = of_some (whole_body c l body) h (body_end c l body (check_sound c body no_operands))
  where
    of_some : {P : Type 0} (o : Option Operands) → IsSome o → Holds o (λ _. P) → P
    of_some None h k = absurd (true≢false (sym h))
    of_some (Some a) h k = k
