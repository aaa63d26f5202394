-- What is typed by the rules the algorithm accepts.
use Rattle.std.proofs.Common.{◌≡◌, ◌<◌, ◌≤◌, ◌^◌, ℕ, List, [], ◌∷◌, ◌++◌, refl, sym, ap, ◌∙◌, subst, Option, Some, None, append-nil, append_assoc, arith}
use Rattle.std.specs.Prelude.{Bool, true, false, ◌&&◌, nat_lt, nat_le}
use Rattle.std.proofs.lemmas.Bool.Decides.{nat_tests}
use Rattle.wasm_ast.specs.declared.types.ValueType.{ValueType}
use Rattle.wasm_ast.specs.declared.types.ValueType.TheVariants.{I32, I64}
use Rattle.wasm_ast.specs.declared.types.Limits.{Limits}
use Rattle.wasm_ast.specs.Access.{load_type, load_width, store_type, store_width}
use Rattle.wasm_ast.specs.Conversions.{operand_type, result_type}
use Rattle.wasm_ast.specs.Types.{words}
use Rattle.wasm_ast.specs.Op.{Op, Unreachable, Nop, Drop, Select, Return, Br, BrIf, BrTable, Call, CallIndirect, LocalGet, LocalSet, LocalTee, GlobalGet}
use Rattle.wasm_ast.specs.Op.{GlobalSet, MemorySize, MemoryGrow, Load, Store, Const, Eqz, Unary, Compare, Binary, Convert}
use Rattle.wasm_ast.specs.Code.{BlockType, Code, End, Do, Block, Loop, If}
use Rattle.wasm_typing.specs.Typing.{Context, at, results, under, arguments, EachLabel, TypingRule, Types}
use Rattle.wasm_typing.specs.Operands.{Operands, then, matches, if_true, push, pop_from, pop, pop_as, pop_all, push_result, pop_result, apply, shared}
use Rattle.wasm_typing.specs.Operands.{no_operands, from_here, is_none, finish, label_is, named_is}
use Rattle.wasm_typing.specs.Algorithm.{each_label, select, access, step, check, whole_body}
use Rattle.wasm_typing.proofs.Stands.{Stands, StandsFor, For}

-- there is a value, and a fact of it
abbrev Yields : {A : Type 0} → Option A → (A → Type 0) → Type 0
Yields None P = ⊥
Yields (Some a) P = P a

on : {A B : Type 0} (o : Option A) (f : A → Option B) (P : A → Type 0) (Q : B → Type 0) → Yields o P → ((a : A) → P a → Yields (f a) Q) → Yields (then o f) Q
on None f P Q h k = absurd h
on (Some a) f P Q h k = k a h

on_some : {A B : Type 0} (o : Option A) (a : A) (f : A → Option B) (Q : B → Type 0) → o ≡ Some a → Yields (f a) Q → Yields (then o f) Q
on_some o a f Q e h = subst (λ o. Yields (then o f) Q) (sym e) h

if_same : {A : Type 0} (t : ValueType) (a : A) (P : A → Type 0) → P a → Yields (if_true (matches (Some t) t) a) P
if_same I32 a P h = h
if_same I64 a P h = h

if_matches : {A : Type 0} (o : Option ValueType) (t : ValueType) (a : A) (P : A → Type 0) → Stands o t → P a → Yields (if_true (matches o t) a) P
if_matches None t a P m h = h
if_matches (Some t') t a P m h = subst (λ x. Yields (if_true (matches (Some t') x) a) P) m (if_same t' a P h)

pop_ahead : (os : List (Option ValueType)) (u : Bool) (t : ValueType) (ts : List ValueType) → StandsFor os u (t ∷ ts) →
    Yields (pop_from os u) (λ p. Stands p.0 t × For p.1 ts)
pop_ahead [] false t ts f = absurd f
pop_ahead [] true t ts f = (tt, tt)
pop_ahead (o ∷ os) u t ts f = f

pop_as_ahead : (t : ValueType) (s : Operands) (ts : List ValueType) → For s (t ∷ ts) → Yields (pop_as t s) (λ s'. For s' ts)
pop_as_ahead t s ts f = on (pop s) _ _ _ (pop_ahead s.types s.unreachable t ts f) (λ p h. if_matches p.0 t p.1 _ h.0 h.1)

pop_all_ahead : (ts : List ValueType) (s : Operands) (below : List ValueType) → For s (ts ++ below) → Yields (pop_all ts s) (λ s'. For s' below)
pop_all_ahead [] s below f = f
pop_all_ahead (t ∷ ts) s below f = on (pop_as t s) (pop_all ts) _ _ (pop_as_ahead t s (ts ++ below) f) (λ s1 g. pop_all_ahead ts s1 below g)

pop_result_ahead : (l : Option ValueType) (s : Operands) (below : List ValueType) → For s (results l ++ below) → Yields (pop_result l s) (λ s'. For s' below)
pop_result_ahead None s below f = f
pop_result_ahead (Some t) s below f = pop_as_ahead t s below f

push_result_ahead : (l : Option ValueType) (s : Operands) (ts : List ValueType) → For s ts → For (push_result l s) (results l ++ ts)
push_result_ahead None s ts f = f
push_result_ahead (Some t) s ts f = (refl, f)

none_left : (os : List (Option ValueType)) (u : Bool) (s : Operands) → StandsFor os u [] → Yields (if_true (is_none os) s) (λ _. Unit {0})
none_left [] u s f = tt
none_left (o ∷ os) u s f = absurd f

finish_ahead : (l : Option ValueType) (s : Operands) → For s (results l) → Yields (finish l s) (λ _. Unit {0})
finish_ahead l s f =
    on (pop_result l s) _ _ _ (pop_result_ahead l s [] (subst (For s) (sym (append-nil (results l))) f)) (λ s1 g. none_left s1.types s1.unreachable s1 g)

label_same : (l : Option ValueType) → label_is l l ≡ true
label_same None = refl
label_same (Some I32) = refl
label_same (Some I64) = refl

both : (a b : Bool) → a ≡ true → b ≡ true → a && b ≡ true
both a b p q = subst (λ x. x && b ≡ true) (sym p) q

each_label_ahead : (c : Context) (ns : List ℕ) (l : Option ValueType) → EachLabel c ns l → each_label c.labels ns l ≡ true
each_label_ahead c [] l h = refl
each_label_ahead c (n ∷ ns) l h =
    both (named_is (at c.labels n) l) (each_label c.labels ns l) (ap (λ o. named_is o l) h.0 ∙ label_same l) (each_label_ahead c ns l h.1)

if_is : {A : Type 0} (b : Bool) (a : A) (P : A → Type 0) → b ≡ true → P a → Yields (if_true b a) P
if_is b a P e h = subst (λ b. Yields (if_true b a) P) (sym e) h

by_rule : (s : Operands) (ins ins' outs outs' lower : List ValueType) (o : Option Operands) → ins ≡ ins' → outs ≡ outs' → For s (ins ++ lower) →
    (For s (ins' ++ lower) → Yields o (λ s'. For s' (outs' ++ lower))) → Yields o (λ s'. For s' (outs ++ lower))
by_rule s ins ins' outs outs' lower o e e' f k =
    subst (λ outs. Yields o (λ s'. For s' (outs ++ lower))) (sym e') (k (subst (λ ins. For s (ins ++ lower)) e f))

-- what an instruction takes away above a part of the rest
split : (s : Operands) (ins ts below lower : List ValueType) → ins ≡ ts ++ below → For s (ins ++ lower) → For s (ts ++ (below ++ lower))
split s ins ts below lower e f = subst (For s) (append_assoc ts below lower) (subst (λ ins. For s (ins ++ lower)) e f)

lt_is : (n m : ℕ) → n < m → nat_lt n m ≡ true
lt_is n m h = grind (arith, nat_tests)

le_is : (n m : ℕ) → n ≤ m → nat_le n m ≡ true
le_is n m h = grind (arith, nat_tests)

-- operands of known types, and a result in their place
apply_ahead : (ins : List ValueType) (l : BlockType) (s : Operands) (lower : List ValueType) → For s (ins ++ lower) →
    Yields (apply ins l s) (λ s'. For s' (results l ++ lower))
apply_ahead ins l s lower f =
    on (pop_all ins s) _ _ _ (pop_all_ahead ins s lower f) (λ s1 g. push_result_ahead l s1 lower g)

apply_rule : (s : Operands) (ins ins' outs lower : List ValueType) (l : BlockType) → ins ≡ ins' → outs ≡ results l → For s (ins ++ lower) →
    Yields (apply ins' l s) (λ s'. For s' (outs ++ lower))
apply_rule s ins ins' outs lower l e e' f =
    by_rule s ins ins' outs (results l) lower (apply ins' l s) e e' f (λ f. apply_ahead ins' l s lower f)

-- after a test that holds
then_is : {A B : Type 0} (b : Bool) (a : A) (f : A → Option B) (P : B → Type 0) → b ≡ true → Yields (f a) P → Yields (then (if_true b a) f) P
then_is b a f P e h = subst (λ b. Yields (then (if_true b a) f) P) (sym e) h

shared_ahead : (a b : Option ValueType) (t : ValueType) → Stands a t → Stands b t → Yields (shared a b) (λ o. Stands o t)
shared_ahead None b t h k = k
shared_ahead (Some u) None t h k = h
shared_ahead (Some u) (Some v) t h k = if_matches (Some u) v (Some v) (λ o. Stands o t) (h ∙ sym k) k

select_ahead : (t : ValueType) (s : Operands) (lower : List ValueType) → For s (I32 ∷ t ∷ t ∷ lower) → Yields (select s) (λ s'. For s' (t ∷ lower))
select_ahead t s lower f =
    on (pop_as I32 s) _ _ _ (pop_as_ahead I32 s (t ∷ t ∷ lower) f) (λ s1 f1.
    on (pop s1) _ _ _ (pop_ahead s1.types s1.unreachable t (t ∷ lower) f1) (λ p hp.
    on (pop p.1) _ _ _ (pop_ahead p.1.types p.1.unreachable t lower hp.1) (λ q hq.
    on (shared p.0 q.0) _ _ _ (shared_ahead p.0 q.0 t hp.0 hq.0) (λ o h. (h, hq.1)))))

access_ahead : (c : Context) (s : Operands) (align width : ℕ) (m : Limits) (ins ins' outs lower : List ValueType) (l : BlockType) → at c.memories 0 ≡ Some m →
    2 ^ align ≤ width → ins ≡ ins' → outs ≡ results l → For s (ins ++ lower) → Yields (access c align width ins' l s) (λ s'. For s' (outs ++ lower))
access_ahead c s align width m ins ins' outs lower l e le p q f =
    on_some (at c.memories 0) m _ _ e (then_is (nat_le (2 ^ align) width) s _ _ (le_is (2 ^ align) width le) (apply_rule s ins ins' outs lower l p q f))

step_ahead : (c : Context) (o : Op) (s : Operands) (ins outs lower : List ValueType) → TypingRule c o ins outs → For s (ins ++ lower) →
    Yields (step c o s) (λ s'. For s' (outs ++ lower))
step_ahead c Unreachable s ins outs lower r f = tt
step_ahead c Nop s ins outs lower r f = by_rule s ins [] outs [] lower (step c Nop s) r.0 r.1 f (λ f. f)
step_ahead c Drop s ins outs lower r f =
    by_rule s ins (r.0 ∷ []) outs [] lower (step c Drop s) r.1 r.2 f (λ f. on (pop s) _ _ _ (pop_ahead s.types s.unreachable r.0 lower f) (λ p h. h.1))
step_ahead c Select s ins outs lower r f =
    by_rule s ins (I32 ∷ r.0 ∷ r.0 ∷ []) outs (r.0 ∷ []) lower (select s) r.1 r.2 f (λ f. select_ahead r.0 s lower f)
step_ahead c (Const t n) s ins outs lower r f =
    by_rule s ins [] outs (t ∷ []) lower (step c (Const t n) s) r.1 r.2 f
    (λ f. let g : For (push (Some t) s) (t ∷ lower) = (refl, f) in
    if_is (nat_lt n (words t)) (push (Some t) s) (λ s'. For s' (t ∷ lower)) (lt_is n (words t) r.0) g)
step_ahead c (Eqz t) s ins outs lower r f = apply_rule s ins (t ∷ []) outs lower (Some I32) r.0 r.1 f
step_ahead c (Unary t o) s ins outs lower r f = apply_rule s ins (t ∷ []) outs lower (Some t) r.0 r.1 f
step_ahead c (Compare t o) s ins outs lower r f = apply_rule s ins (t ∷ t ∷ []) outs lower (Some I32) r.0 r.1 f
step_ahead c (Binary t o) s ins outs lower r f = apply_rule s ins (t ∷ t ∷ []) outs lower (Some t) r.0 r.1 f
step_ahead c (Convert o) s ins outs lower r f =
    apply_rule s ins (operand_type o ∷ []) outs lower (Some (result_type o)) r.0 r.1 f
step_ahead c (LocalGet x) s ins outs lower r f =
    on_some (at c.locals x) r.0 _ _ r.1 (apply_rule s ins [] outs lower (Some r.0) r.2 r.3 f)
step_ahead c (LocalSet x) s ins outs lower r f =
    on_some (at c.locals x) r.0 _ _ r.1 (apply_rule s ins (r.0 ∷ []) outs lower None r.2 r.3 f)
step_ahead c (LocalTee x) s ins outs lower r f =
    on_some (at c.locals x) r.0 _ _ r.1 (apply_rule s ins (r.0 ∷ []) outs lower (Some r.0) r.2 r.3 f)
step_ahead c (GlobalGet x) s ins outs lower r f =
    on_some (at c.globals x) r.0 _ _ r.1 (apply_rule s ins [] outs lower (Some r.0.value_type) r.2 r.3 f)
step_ahead c (GlobalSet x) s ins outs lower r f =
    on_some (at c.globals x) r.0 _ _ r.1 (then_is r.0.is_variable s _ _ r.2 (apply_rule s ins (r.0.value_type ∷ []) outs lower None r.3 r.4 f))
step_ahead c (Load o align offset) s ins outs lower r f =
    access_ahead c s align (load_width o) r.0 ins (I32 ∷ []) outs lower (Some (load_type o)) r.1 r.2 r.3 r.4 f
step_ahead c (Store o align offset) s ins outs lower r f =
    access_ahead c s align (store_width o) r.0 ins (store_type o ∷ I32 ∷ []) outs lower None r.1 r.2 r.3 r.4 f
step_ahead c MemorySize s ins outs lower r f =
    on_some (at c.memories 0) r.0 _ _ r.1 (apply_rule s ins [] outs lower (Some I32) r.2 r.3 f)
step_ahead c MemoryGrow s ins outs lower r f =
    on_some (at c.memories 0) r.0 _ _ r.1 (apply_rule s ins (I32 ∷ []) outs lower (Some I32) r.2 r.3 f)
step_ahead c (Br n) s ins outs lower r f =
    on_some (at c.labels n) r.0 _ _ r.1
    (on (pop_result r.0 s) _ _ _ (pop_result_ahead r.0 s (r.2 ++ lower) (split s ins (results r.0) r.2 lower r.3 f)) (λ _ _. tt))
step_ahead c (BrIf n) s ins outs lower r f =
    by_rule s ins (I32 ∷ results r.0) outs (results r.0) lower (step c (BrIf n) s) r.2 r.3 f
    (λ f. on_some (at c.labels n) r.0 _ _ r.1 (on (pop_as I32 s) _ _ _ (pop_as_ahead I32 s (results r.0 ++ lower) f) (λ s1 f1.
    on (pop_result r.0 s1) _ _ _ (pop_result_ahead r.0 s1 lower f1) (λ s2 f2. push_result_ahead r.0 s2 lower f2))))
step_ahead c (BrTable ns n) s ins outs lower r f =
    on_some (at c.labels n) r.0 _ _ r.1
    (on (pop_as I32 s) _ _ _ (pop_as_ahead I32 s (results r.0 ++ (r.3 ++ lower)) (split s ins (I32 ∷ results r.0) r.3 lower r.4 f)) (λ s1 f1.
    on (pop_result r.0 s1) _ _ _ (pop_result_ahead r.0 s1 (r.3 ++ lower) f1)
    (λ s2 f2. if_is (each_label c.labels ns r.0) from_here _ (each_label_ahead c ns r.0 r.2) tt)))
step_ahead c Return s ins outs lower r f =
    on (pop_result c.result s) _ _ _ (pop_result_ahead c.result s (r.0 ++ lower) (split s ins (results c.result) r.0 lower r.1 f)) (λ _ _. tt)
step_ahead c (Call x) s ins outs lower r f =
    on_some (at c.functions x) r.0 _ _ r.1 (apply_rule s ins (arguments r.0) outs lower r.0.result r.2 r.3 f)
step_ahead c (CallIndirect x) s ins outs lower r f =
    by_rule s ins (I32 ∷ arguments r.2) outs (results r.2.result) lower (step c (CallIndirect x) s) r.4 r.5 f
    (λ f. on_some (at c.tables 0) r.0 _ _ r.1
    (on_some (at c.types x) r.2 _ _ r.3
    (on (pop_as I32 s) _ _ _ (pop_as_ahead I32 s (arguments r.2 ++ lower) f) (λ s1 f1. apply_ahead (arguments r.2) r.2.result s1 lower f1))))

-- a body that is typed is accepted to its end
body_ahead : (c : Context) (l : BlockType) (body : Code) → Yields (check c body no_operands) (λ e. For e (results l)) →
    Yields (whole_body c l body) (λ _. Unit {0})
body_ahead c l body h = on (check c body no_operands) (finish l) _ _ h (λ e f. finish_ahead l e f)

check_ahead : (c : Context) (code : Code) (s : Operands) (from to : List ValueType) → Types c code from to → For s from →
    Yields (check c code s) (λ s'. For s' to)
check_ahead c End s from to e f = subst (For s) e f
check_ahead c (Do o rest) s from to h f =
    on (step c o s) (check c rest) _ _ (step_ahead c o s h.0 h.1 h.2 h.3 (subst (For s) h.4 f)) (λ s1 g. check_ahead c rest s1 (h.1 ++ h.2) to h.5 g)
check_ahead c (Block t b rest) s from to h f =
    on (whole_body (under t c) t b) _ _ _ (body_ahead (under t c) t b (check_ahead (under t c) b no_operands [] (results t) h.0 tt)) (λ e u.
    check_ahead c rest (push_result t s) (results t ++ from) to h.1 (push_result_ahead t s from f))
check_ahead c (Loop t b rest) s from to h f =
    on (whole_body (under None c) t b) _ _ _ (body_ahead (under None c) t b (check_ahead (under None c) b no_operands [] (results t) h.0 tt)) (λ e u.
    check_ahead c rest (push_result t s) (results t ++ from) to h.1 (push_result_ahead t s from f))
check_ahead c (If t a b rest) s from to h f =
    on (pop_as I32 s) _ _ _ (pop_as_ahead I32 s h.0 (subst (For s) h.1 f)) (λ s1 g.
    on (whole_body (under t c) t a) _ _ _ (body_ahead (under t c) t a (check_ahead (under t c) a no_operands [] (results t) h.2 tt)) (λ e u.
    on (whole_body (under t c) t b) _ _ _ (body_ahead (under t c) t b (check_ahead (under t c) b no_operands [] (results t) h.3 tt)) (λ e u.
    check_ahead c rest (push_result t s1) (results t ++ h.0) to h.4 (push_result_ahead t s1 h.0 g))))

typed_is_accepted : (c : Context) (l : BlockType) (body : Code) → Types c body [] (results l) → Yields (whole_body c l body) (λ _. Unit {0})
typed_is_accepted c l body h = body_ahead c l body (check_ahead c body no_operands [] (results l) h tt)

-- what the algorithm refuses has no typing
pub none_is_untyped : (c : Context) (l : BlockType) (body : Code) → whole_body c l body ≡ None → ¬ Types c body [] (results l)
none_is_untyped c l body e h = subst (λ o. Yields o (λ _. Unit {0})) e (typed_is_accepted c l body h)
