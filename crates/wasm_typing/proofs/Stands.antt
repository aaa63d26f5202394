-- The stacks that an operand stack of the algorithm stands for, and what a pop and a push do to them.
use Rattle.std.proofs.Common.{◌≡◌, ℕ, List, [], ◌∷◌, ◌++◌, refl, ap, ◌∙◌, subst, Option, Some, None}
use Rattle.std.specs.Prelude.{Bool, true, false, ◌&&◌}
use Rattle.wasm_ast.specs.declared.types.ValueType.{ValueType}
use Rattle.wasm_ast.specs.declared.types.ValueType.TheVariants.{I32, I64}
use Rattle.wasm_typing.specs.Typing.{Context, at, results, EachLabel}
use Rattle.wasm_typing.specs.Operands.{Operands, then, matches, if_true, push, pop_from, pop, pop_as, pop_all, push_result, pop_result, apply, shared}
use Rattle.wasm_typing.specs.Operands.{no_operands, is_none, finish, label_is, named_is}
use Rattle.wasm_typing.specs.Algorithm.{each_label}

-- a fact of the value, if there is one
abbrev pub Holds : {A : Type 0} → Option A → (A → Type 0) → Type 0
Holds None P = Unit {0}
Holds (Some a) P = P a

pub bind : {A B : Type 0} (o : Option A) (f : A → Option B) (P : A → Type 0) (Q : B → Type 0) → Holds o P → ((a : A) → P a → Holds (f a) Q) → Holds (then o f) Q
bind None f P Q h k = tt
bind (Some a) f P Q h k = k a h

-- an operand stands for a type
abbrev pub Stands : Option ValueType → ValueType → Type 0
Stands None t = Unit {0}
Stands (Some t') t = t' ≡ t

-- operands stand for a stack
abbrev pub StandsFor : List (Option ValueType) → Bool → List ValueType → Type 0
StandsFor [] false [] = Unit {0}
StandsFor [] false (t ∷ ts) = ⊥
StandsFor [] true ts = Unit {0}
StandsFor (o ∷ os) u [] = ⊥
StandsFor (o ∷ os) u (t ∷ ts) = Stands o t × StandsFor os u ts

abbrev pub For : Operands → List ValueType → Type 0
For s ts = StandsFor s.types s.unreachable ts

pub if_matches : {A : Type 0} (o : Option ValueType) (t : ValueType) (a : A) (P : A → Type 0) → (Stands o t → P a) → Holds (if_true (matches o t) a) P
if_matches None t a P h = h tt
if_matches (Some I32) I32 a P h = h refl
if_matches (Some I32) I64 a P h = tt
if_matches (Some I64) I32 a P h = tt
if_matches (Some I64) I64 a P h = h refl

pub pop_sound : (os : List (Option ValueType)) (u : Bool) →
    Holds (pop_from os u) (λ p. (t : ValueType) (ts : List ValueType) → Stands p.0 t → For p.1 ts → StandsFor os u (t ∷ ts))
pop_sound [] false = tt
pop_sound [] true = λ t ts a b. tt
pop_sound (o ∷ os) u = λ t ts a b. (a, b)

pub pop_as_sound : (t : ValueType) (s : Operands) → Holds (pop_as t s) (λ s'. (ts : List ValueType) → For s' ts → For s (t ∷ ts))
pop_as_sound t s =
    bind (pop s) (λ p. if_true (matches p.0 t) p.1) _ _ (pop_sound s.types s.unreachable) (λ p h. if_matches p.0 t p.1 _ (λ m. λ ts f. h t ts m f))

pub weaker : {A : Type 0} (o : Option A) (P Q : A → Type 0) → Holds o P → ((a : A) → P a → Q a) → Holds o Q
weaker None P Q h k = tt
weaker (Some a) P Q h k = k a h

pub pop_all_sound : (ts : List ValueType) (s : Operands) → Holds (pop_all ts s) (λ s'. (below : List ValueType) → For s' below → For s (ts ++ below))
pop_all_sound [] s = λ below f. f
pop_all_sound (t ∷ ts) s =
    bind (pop_as t s) (pop_all ts) _ _ (pop_as_sound t s)
    (λ s1 h. weaker (pop_all ts s1) _ _ (pop_all_sound ts s1) (λ s2 k. λ below f. h (ts ++ below) (k below f)))

pub pop_result_sound : (l : Option ValueType) (s : Operands) →
    Holds (pop_result l s) (λ s'. (below : List ValueType) → For s' below → For s (results l ++ below))
pop_result_sound None s = λ below f. f
pop_result_sound (Some t) s = pop_as_sound t s

-- what holds of each stack for operands with one more on top
pub push_sound : (o : Option ValueType) (s : Operands) (P : List ValueType → Type 0) →
    ((t : ValueType) (ts : List ValueType) → Stands o t → For s ts → P (t ∷ ts)) → (ts : List ValueType) → For (push o s) ts → P ts
push_sound o s P h [] f = absurd f
push_sound o s P h (t ∷ ts) f = h t ts f.0 f.1

pub push_known : (t : ValueType) (s : Operands) (P : List ValueType → Type 0) → ((ts : List ValueType) → For s ts → P (t ∷ ts)) → (ts : List ValueType) →
    For (push (Some t) s) ts → P ts
push_known t s P h = push_sound (Some t) s P (λ t' ts e f. subst (λ x. P (x ∷ ts)) e (h ts f))

pub push_result_sound : (l : Option ValueType) (s : Operands) (P : List ValueType → Type 0) → ((ts : List ValueType) → For s ts → P (results l ++ ts)) →
    (ts : List ValueType) → For (push_result l s) ts → P ts
push_result_sound None s P h = h
push_result_sound (Some t) s P h = push_known t s P h

-- the operands before each stack that a result is left on
pub apply_sound : (ins : List ValueType) (l : Option ValueType) (s : Operands) (P : List ValueType → Type 0) →
    ((ts : List ValueType) → For s (ins ++ ts) → P (results l ++ ts)) → Holds (apply ins l s) (λ s'. (ts : List ValueType) → For s' ts → P ts)
apply_sound ins l s P h =
    bind (pop_all ins s) _ _ _ (pop_all_sound ins s) (λ s1 k. push_result_sound l s1 P (λ ts f. h ts (k ts f)))

-- what stands for the type in common stands for both
pub shared_sound : (a b : Option ValueType) → Holds (shared a b) (λ o. (t : ValueType) → Stands o t → Stands a t × Stands b t)
shared_sound None b = λ t h. (tt, h)
shared_sound (Some t) None = λ u h. (h, tt)
shared_sound (Some t) (Some t') = if_matches (Some t) t' (Some t') _ (λ e. λ u h. (e ∙ h, h))

-- the operands of which nothing is left stand for the empty stack
pub is_none_sound : (s : Operands) → Holds (if_true (is_none s.types) s) (λ s'. For s [])
is_none_sound s = no_types s.types s.unreachable s
  where
    no_types : (os : List (Option ValueType)) (u : Bool) (a : Operands) → Holds (if_true (is_none os) a) (λ s'. StandsFor os u [])
    no_types [] false a = tt
    no_types [] true a = tt
    no_types (o ∷ os) u a = tt

pub finish_sound : (l : Option ValueType) (s : Operands) → Holds (finish l s) (λ s'. For s (results l ++ []))
finish_sound l s =
    bind (pop_result l s) (λ s. if_true (is_none s.types) s) _ _ (pop_result_sound l s)
    (λ s1 h. weaker (if_true (is_none s1.types) s1) _ _ (is_none_sound s1) (λ s2 e. h [] e))

-- some stack
pub some_stack : (s : Operands) → (ts : List ValueType) × For s ts
some_stack s = stack_of s.types s.unreachable
  where
    stack_of : (os : List (Option ValueType)) (u : Bool) → (ts : List ValueType) × StandsFor os u ts
    stack_of [] false = ([], tt)
    stack_of [] true = ([], tt)
    stack_of (None ∷ os) u = let r = stack_of os u in (I32 ∷ r.0, (tt, r.1))
    stack_of (Some t ∷ os) u = let r = stack_of os u in (t ∷ r.0, (refl, r.1))

pub label_is_sound : {A : Type 0} (l l' : Option ValueType) (a : A) (P : A → Type 0) → (l ≡ l' → P a) → Holds (if_true (label_is l l') a) P
label_is_sound None None a P h = h refl
label_is_sound None (Some t) a P h = tt
label_is_sound (Some t) None a P h = tt
label_is_sound (Some t) (Some t') a P h = if_matches (Some t) t' a P (λ e. h (ap Some e))

pub at_sound : {A : Type 0} (xs : List A) (n : ℕ) → Holds (at xs n) (λ a. at xs n ≡ Some a)
at_sound xs n = same (at xs n)
  where
    same : {A : Type 0} (o : Option A) → Holds o (λ a. o ≡ Some a)
    same None = tt
    same (Some a) = refl

named_sound : (o : Option (Option ValueType)) (l : Option ValueType) (Q : Operands → Type 0) → (o ≡ Some l → Q no_operands) →
    Holds (if_true (named_is o l) no_operands) Q
named_sound None l Q k = tt
named_sound (Some l') l Q k = label_is_sound l' l no_operands Q (λ e. k (ap Some e))

both_true : {A : Type 0} (b b' : Bool) (a : A) (P : A → Type 0) (E : Type 0) →
    ((Q : Operands → Type 0) → (E → Q no_operands) → Holds (if_true b no_operands) Q) → (E → Holds (if_true b' a) P) → Holds (if_true (b && b') a) P
both_true false b' a P E x y = tt
both_true true b' a P E x y = x (λ s. Holds (if_true b' a) P) y

pub each_label_sound : {A : Type 0} (c : Context) (ns : List ℕ) (l : Option ValueType) (a : A) (P : A → Type 0) → (EachLabel c ns l → P a) →
    Holds (if_true (each_label c.labels ns l) a) P
each_label_sound c [] l a P h = h tt
each_label_sound c (n ∷ ns) l a P h =
    both_true (named_is (at c.labels n) l) (each_label c.labels ns l) a P (at c.labels n ≡ Some l) (λ Q k. named_sound (at c.labels n) l Q k)
    (λ e. each_label_sound c ns l a P (λ r. h (e, r)))
