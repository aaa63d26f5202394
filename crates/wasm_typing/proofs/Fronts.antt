-- Where the fault is 201, some front of the body is without a typing and breaks none of the rules with faults of their own.
use Rattle.std.proofs.Common.{◌≡◌, ◌<◌, ◌+◌, inl, inr, ℕ, List, [], refl, sym, ap, ◌∙◌, subst, Option, Some, None, length, drop, slice_index_or}
use Rattle.std.specs.Prelude.{◌⊎◌}
use Rattle.wasm_ast.specs.declared.types.ValueType.TheVariants.{I32}
use Rattle.wasm_ast.specs.declared.body.Instr.{Instr}
use Rattle.wasm_ast.specs.declared.body.Instr.TheVariants as instr
use Rattle.wasm_ast.specs.Op.{Op, Unreachable}
use Rattle.wasm_ast.specs.Code.{BlockType, Code, End, Do, Block, Loop, If}
use Rattle.wasm_ast.specs.View.{then_code, code_of}
use Rattle.wasm_typing.specs.declared.fault.ValidateFault.{ValidateFault}
use Rattle.wasm_typing.specs.declared.fault.ValidateFault.TheVariants as fault
use Rattle.wasm_typing.specs.Typing.{Context, under, results}
use Rattle.wasm_typing.specs.Operands.{Operands, then, pop_as, push_result, no_operands, finish}
use Rattle.wasm_typing.specs.Algorithm.{check, whole_body, first, instruction}
use Rattle.wasm_typing.specs.Breaks.{Breaks, BreaksIn, BreaksFirst, BreaksInstr, KeepsOwn, BreaksNone}
use Rattle.wasm_typing.specs.Refused.{Refused}
use Rattle.wasm_typing.specs.Front.{unreachable_end, IsFront}
use Rattle.wasm_typing.specs.Mistyped.{Mismatch, Mistyped, MistypedIf, MistypedFirst}
use Rattle.wasm_typing.proofs.Lists.{next}
use Rattle.wasm_typing.proofs.Stands.{Holds, some_stack}
use Rattle.wasm_typing.proofs.Sound.{BackCode, check_sound, accepted_is_typed}
use Rattle.wasm_typing.proofs.Untyped.{broken_is_untyped}
use Rattle.wasm_typing.proofs.Instructions.{after, after_first, check_after, first_alone}

-- what is accepted breaks none of the rules
accepted_is_clean : (c : Context) (code : Code) (s s' : Operands) → check c code s ≡ Some s' → BreaksNone c code
accepted_is_clean c code s s' e f m =
    let back : BackCode c code s s' = subst (λ o. Holds o (BackCode c code s)) e (check_sound c code s) in
    let b = some_stack s' in
    let r = back b.0 b.1 in
    broken_is_untyped f c code r.0 b.0 m r.2

first_is_clean : (c : Context) (code : Code) (s s' : Operands) → first c code s ≡ Some s' → (f : ValidateFault) → ¬ BreaksFirst f c code
first_is_clean c End s s' e f m = m
first_is_clean c (Do o rest) s s' e f m =
    accepted_is_clean c (Do o End) s s' (ap (λ o. then o (check c End)) e) f (inl m)
first_is_clean c (Block t b rest) s s' e f m = accepted_is_clean c (Block t b End) s s' e f (inl m)
first_is_clean c (Loop t b rest) s s' e f m = accepted_is_clean c (Loop t b End) s s' e f (inl m)
first_is_clean c (If t a b rest) s s' e f m = accepted_is_clean c (If t a b End) s s' e f (inl m)

own_is_clean : (c : Context) (o : Op) → KeepsOwn c o → (f : ValidateFault) → ¬ Breaks f c o
own_is_clean c o k fault.Index m = k.0 m
own_is_clean c o k fault.ImmutableGlobal m = k.1 m
own_is_clean c o k fault.Alignment m = k.2 m
own_is_clean c o k _ m = m

cut_is_clean : (c : Context) → BreaksNone c unreachable_end
cut_is_clean c f (inl m) = own_is_clean c Unreachable (λ x. x, λ x. x, λ x. x) f m
cut_is_clean c f (inr m) = m

-- any code may be cut at once
cut_front : (code : Code) → IsFront code unreachable_end
cut_front End = inr refl
cut_front (Do o rest) = inl refl
cut_front (Block t b rest) = inl refl
cut_front (Loop t b rest) = inl refl
cut_front (If t a b rest) = inl refl

pub always_none : {A B : Type 0} (o : Option A) (f : A → Option B) → ((a : A) → f a ≡ None) → then o f ≡ None
always_none None f h = refl
always_none (Some a) f h = h a

-- the first instruction of some code, before other code
abbrev before : Code → Code → Code
before End r = r
before (Do o rest) r = Do o r
before (Block t b rest) r = Block t b r
before (Loop t b rest) r = Loop t b r
before (If t a b rest) r = If t a b r

front_before : (code r : Code) → IsFront (after code) r → IsFront code (before code r)
front_before End r h = h
front_before (Do o rest) r h = inr (r, h, refl)
front_before (Block t b rest) r h = inr (inr (r, h, refl))
front_before (Loop t b rest) r h = inr (inr (r, h, refl))
front_before (If t a b rest) r h = inr (inr (inr (r, h, refl)))

check_before : (c : Context) (code r : Code) (s s' : Operands) → first c code s ≡ Some s' → check c (before code r) s ≡ check c r s'
check_before c End r s s' e = let same : s ≡ s' = cc in ap (check c r) same
check_before c (Do o rest) r s s' e = check_after c (Do o r) s ∙ ap (λ o. then o (check c r)) e
check_before c (Block t b rest) r s s' e = check_after c (Block t b r) s ∙ ap (λ o. then o (check c r)) e
check_before c (Loop t b rest) r s s' e = check_after c (Loop t b r) s ∙ ap (λ o. then o (check c r)) e
check_before c (If t a b rest) r s s' e = check_after c (If t a b r) s ∙ ap (λ o. then o (check c r)) e

breaks_before : (f : ValidateFault) (c : Context) (code r : Code) → BreaksIn f c (before code r) → BreaksFirst f c code ⊎ BreaksIn f c r
breaks_before f c End r m = inr m
breaks_before f c (Do o rest) r m = m
breaks_before f c (Block t b rest) r m = m
breaks_before f c (Loop t b rest) r m = m
breaks_before f c (If t a b rest) r m = m

-- what is mistyped after an accepted instruction is with it
mistyped_later : (c : Context) (t : BlockType) (code : Code) (s s' : Operands) → first c code s ≡ Some s' → Mistyped c t (after code) s' → Mistyped c t code s
mistyped_later c t code s s' e m = (
  before code m.0,
  front_before code m.0 m.1,
  ap (λ o. then o (finish t)) (check_before c code m.0 s s' e) ∙
      m.2,
  λ f b. elim (breaks_before f c code m.0 b) [ inl x ↦ first_is_clean c code s s' e f x | inr y ↦ m.3 f y ],
)

if_mistyped : (c : Context) (t : BlockType) (l : BlockType) (a b rest : Code) (s : Operands) → MistypedIf c l a b s → Mistyped c t (If l a b rest) s
if_mistyped c t l a b rest s (inl e) = (
  If l unreachable_end unreachable_end unreachable_end,
  inr (inl (unreachable_end, cut_front a, refl)),
  ap (λ o. then (then o
      (λ s. then (whole_body (under l c) l unreachable_end)
      (λ _. then (whole_body (under l c) l unreachable_end) (λ _. check c unreachable_end (push_result l s))))) (finish t)) e,
  λ f m. elim m [
    | inl m ↦ elim m [ inl x ↦ cut_is_clean (under l c) f x | inr x ↦ cut_is_clean (under l c) f x ]
    | inr x ↦ cut_is_clean c f x
  ],
)
if_mistyped c t l a b rest s (inr (inl m)) = (
  If l m.0 unreachable_end unreachable_end,
  inr (inl (m.0, m.1, refl)),
  ap (λ o. then o (finish t))
      (always_none (pop_as I32 s) _
      (λ s. ap (λ o. then o (λ _. then (whole_body (under l c) l unreachable_end) (λ _. check c unreachable_end (push_result l s)))) m.2)),
  λ f n. elim n [
    | inl n ↦ elim n [ inl x ↦ m.3 f x | inr x ↦ cut_is_clean (under l c) f x ]
    | inr x ↦ cut_is_clean c f x
  ],
)
if_mistyped c t l a b rest s (inr (inr m)) = (
  If l a m.1.0 unreachable_end,
  inr (inr (inl (m.1.0, m.1.1, refl))),
  ap (λ o. then o (finish t))
      (always_none (pop_as I32 s) _
      (λ s. always_none (whole_body (under l c) l a) _ (λ _. ap (λ o. then o (λ _. check c unreachable_end (push_result l s))) m.1.2))),
  λ f n. elim n [
    | inl n ↦ elim n [
      | inl x ↦ broken_is_untyped f (under l c) a [] (results l) x (accepted_is_typed (under l c) l a m.0)
      | inr x ↦ m.1.3 f x
    ]
    | inr x ↦ cut_is_clean c f x
  ],
)

-- a refused instruction, before any code
mistyped_first : (c : Context) (t : BlockType) (code : Code) (s : Operands) → first c code s ≡ None → MistypedFirst c code s → Mistyped c t code s
mistyped_first c t End s e m = absurd m
mistyped_first c t (Do o rest) s e m = (
  Do o unreachable_end,
  inr (unreachable_end, cut_front rest, refl),
  ap (λ o. then (then o (check c unreachable_end)) (finish t)) e,
  λ f n. elim n [ inl x ↦ own_is_clean c o m f x | inr x ↦ cut_is_clean c f x ],
)
mistyped_first c t (Block l b rest) s e m = (
  Block l m.0 unreachable_end,
  inr (inl (m.0, m.1, refl)),
  ap (λ o. then (then o (λ _. check c unreachable_end (push_result l s))) (finish t)) m.2,
  λ f n. elim n [ inl x ↦ m.3 f x | inr x ↦ cut_is_clean c f x ],
)
mistyped_first c t (Loop l b rest) s e m = (
  Loop l m.0 unreachable_end,
  inr (inl (m.0, m.1, refl)),
  ap (λ o. then (then o (λ _. check c unreachable_end (push_result l s))) (finish t)) m.2,
  λ f n. elim n [ inl x ↦ m.3 f x | inr x ↦ cut_is_clean c f x ],
)
mistyped_first c t (If l a b rest) s e m = if_mistyped c t l a b rest s m

mistyped_alone : (c : Context) (i : Instr) (rest : Code) (s : Operands) → MistypedFirst c (then_code i End) s → MistypedFirst c (then_code i rest) s
mistyped_alone c instr.Unreachable rest s m = m
mistyped_alone c _ rest s m = m

-- an item that is refused
pub mistyped_item : (c : Context) (t : BlockType) (i : ℕ) (is : List Instr) (x : Instr) (s : Operands) → i < length is → x ≡ slice_index_or is i x →
    instruction c x s ≡ None → MistypedFirst c (then_code x End) s → Mistyped c t (code_of (drop i is)) s
mistyped_item c t i is x s lt ei e m =
    let rest = code_of (drop (i + 1) is) in
    subst (λ xs. Mistyped c t (code_of xs) s) (sym (next i is x lt ei))
    (mistyped_first c t (then_code x rest) s (first_alone c x rest s ∙ e) (mistyped_alone c x rest s m))

-- items after one that is accepted
pub mistyped_next : (c : Context) (t : BlockType) (i : ℕ) (is : List Instr) (x : Instr) (s s' : Operands) → i < length is → x ≡ slice_index_or is i x →
    instruction c x s ≡ Some s' → Mistyped c t (code_of (drop (i + 1) is)) s' → Mistyped c t (code_of (drop i is)) s
mistyped_next c t i is x s s' lt ei e m =
    let rest = code_of (drop (i + 1) is) in
    subst (λ xs. Mistyped c t (code_of xs) s) (sym (next i is x lt ei))
    (mistyped_later c t (then_code x rest) s s' (first_alone c x rest s ∙ e) (subst (λ r. Mistyped c t r s') (sym (after_first x rest)) m))

-- the end of a body
pub mistyped_end : (c : Context) (t : BlockType) (s : Operands) → finish t s ≡ None → Mistyped c t End s
mistyped_end c t s e = (End, inl refl, e, λ f m. m)

-- a refused item refuses the body, of which the items from there on are a part
pub mistyped_refused : (c : Context) (t : BlockType) (body : Code) (i : ℕ) (is : List Instr) (x : Instr) (s : Operands) (f : ValidateFault) → i < length is →
    x ≡ slice_index_or is i x → (Mistyped c t (code_of (drop i is)) s → Mistyped c t body no_operands) → Refused f (BreaksInstr f c x) (instruction c x s) →
    Mismatch f (MistypedFirst c (then_code x End) s) → Mismatch f (Mistyped c t body no_operands)
mistyped_refused c t body i is x s fault.TypeMismatch lt ei part h m = part (mistyped_item c t i is x s lt ei h m)
mistyped_refused c t body i is x s _ lt ei part h m = tt
