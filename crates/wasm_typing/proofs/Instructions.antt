-- A list of instructions is checked one after another.
use Rattle.std.proofs.Common.{◌≡◌, ◌<◌, ◌≤◌, ◌+◌, inl, inr, ℕ, zero, suc, List, [], ◌∷◌, refl, sym, ap, ◌∙◌, subst, Option, Some, None, length, drop}
use Rattle.std.proofs.Common.{slice_index_or, arith}
use Rattle.wasm_ast.specs.declared.types.ValueType.TheVariants.{I32}
use Rattle.wasm_ast.specs.declared.body.Instr.{Instr}
use Rattle.wasm_ast.specs.declared.body.Instr.TheVariants as instr
use Rattle.wasm_ast.specs.Code.{BlockType, Code, End, Do, Block, Loop, If, code_size}
use Rattle.wasm_ast.specs.View.{then_code, code_of}
use Rattle.wasm_typing.specs.Typing.{Context, under}
use Rattle.wasm_typing.specs.Operands.{Operands, then, pop_as, push_result, no_operands, finish}
use Rattle.wasm_typing.specs.Algorithm.{check, whole_body, first, instruction}
use Rattle.wasm_typing.specs.Breaks.{BreaksIn, BreaksFirst, BreaksInstr}
use Rattle.wasm_typing.specs.declared.fault.ValidateFault.{ValidateFault}
use Rattle.wasm_typing.specs.declared.fault.ValidateFault.TheVariants.{Memory, TypeMismatch, Index, ImmutableGlobal, Alignment}
use Rattle.wasm_typing.specs.Refused.{Refused}
use Rattle.wasm_typing.proofs.Lists.{next}

then_assoc : {A B C : Type 0} (o : Option A) (f : A → Option B) (g : B → Option C) → then (then o f) g ≡ then o (λ a. then (f a) g)
then_assoc None f g = refl
then_assoc (Some a) f g = refl

then_same : {A B : Type 0} (o : Option A) (f g : A → Option B) → ((a : A) → f a ≡ g a) → then o f ≡ then o g
then_same None f g h = refl
then_same (Some a) f g h = h a

-- what comes after the first instruction
abbrev pub after : Code → Code
after End = End
after (Do o rest) = rest
after (Block t b rest) = rest
after (Loop t b rest) = rest
after (If t a b rest) = rest

pub check_after : (c : Context) (code : Code) (s : Operands) → check c code s ≡ then (first c code s) (check c (after code))
check_after c End s = refl
check_after c (Do o rest) s = refl
check_after c (Block t b rest) s = sym (then_assoc (whole_body (under t c) t b) (λ _. Some (push_result t s)) (check c rest))
check_after c (Loop t b rest) s = sym (then_assoc (whole_body (under None c) t b) (λ _. Some (push_result t s)) (check c rest))
check_after c (If t a b rest) s =
    then_same (pop_as I32 s) _ _
    (λ s. then_same (whole_body (under t c) t a) _ _ (λ _. sym (then_assoc (whole_body (under t c) t b) (λ _. Some (push_result t s)) (check c rest)))
    ∙ sym (then_assoc (whole_body (under t c) t a) (λ _. then (whole_body (under t c) t b) (λ _. Some (push_result t s))) (check c rest)))
    ∙ sym (then_assoc (pop_as I32 s) (λ s. then (whole_body (under t c) t a) (λ _. then (whole_body (under t c) t b) (λ _. Some (push_result t s))))
    (check c rest))

pub after_first : (i : Instr) (rest : Code) → after (then_code i rest) ≡ rest
after_first instr.Unreachable rest = refl
after_first _ rest = refl

pub first_alone : (c : Context) (i : Instr) (rest : Code) (s : Operands) → first c (then_code i rest) s ≡ instruction c i s
first_alone c instr.Unreachable rest s = refl
first_alone c _ rest s = refl

pub check_first : (c : Context) (i : Instr) (rest : Code) (s : Operands) → check c (then_code i rest) s ≡ then (instruction c i s) (check c rest)
check_first c i rest s =
    check_after c (then_code i rest) s ∙ ap (λ o. then o (check c (after (then_code i rest)))) (first_alone c i rest s) ∙
    ap (λ r. then (instruction c i s) (check c r)) (after_first i rest)

-- an instruction's size
abbrev pub instr_size : Instr → ℕ
instr_size i = code_size (then_code i End)

size_first : (i : Instr) (rest : Code) → code_size (then_code i rest) ≡ instr_size i + code_size rest
size_first instr.Unreachable rest = omega arith
size_first _ rest = omega arith

instr_size_positive : (i : Instr) → 0 < instr_size i
instr_size_positive instr.Unreachable = omega arith
instr_size_positive _ = omega arith

-- each instruction is counted
pub counted : (is : List Instr) → length is ≤ code_size (code_of is)
counted [] = omega arith
counted (i ∷ is) = omega (arith, counted is, size_first i (code_of is), instr_size_positive i)

pub drop_size : (n : ℕ) (is : List Instr) → code_size (code_of (drop n is)) ≤ code_size (code_of is)
drop_size zero is = omega arith
drop_size (suc n) [] = omega arith
drop_size (suc n) (i ∷ is) = omega (arith, drop_size n is, size_first i (code_of is))

pub item_size : (i : ℕ) (is : List Instr) (x : Instr) → i < length is → x ≡ slice_index_or is i x → instr_size x ≤ code_size (code_of is)
item_size i is x lt e =
    omega (arith, size_first x (code_of (drop (i + 1) is)), ap (λ xs. code_size (code_of xs)) (next i is x lt e), drop_size i is)

pub check_next : (c : Context) (i : ℕ) (is : List Instr) (x : Instr) (s new : Operands) → i < length is → x ≡ slice_index_or is i x →
    instruction c x s ≡ Some new → check c (code_of (drop (i + 1) is)) new ≡ check c (code_of (drop i is)) s
check_next c i is x s new lt e h =
    sym (ap (λ xs. check c (code_of xs) s) (next i is x lt e) ∙ check_first c x (code_of (drop (i + 1) is)) s ∙
    ap (λ o. then o (check c (code_of (drop (i + 1) is)))) h)

-- what one instruction breaks, the code breaks
breaks_after : (f : ValidateFault) (c : Context) (code : Code) → BreaksFirst f c code → BreaksIn f c code
breaks_after f c End m = m
breaks_after f c (Do o rest) m = inl m
breaks_after f c (Block t b rest) m = inl m
breaks_after f c (Loop t b rest) m = inl m
breaks_after f c (If t a b rest) m = inl m

breaks_later : (f : ValidateFault) (c : Context) (code : Code) → BreaksIn f c (after code) → BreaksIn f c code
breaks_later f c End m = m
breaks_later f c (Do o rest) m = inr m
breaks_later f c (Block t b rest) m = inr m
breaks_later f c (Loop t b rest) m = inr m
breaks_later f c (If t a b rest) m = inr m

breaks_alone : (f : ValidateFault) (c : Context) (i : Instr) (rest : Code) → BreaksInstr f c i → BreaksFirst f c (then_code i rest)
breaks_alone f c instr.Unreachable rest m = m
breaks_alone f c _ rest m = m

breaks_from : (f : ValidateFault) (c : Context) (n : ℕ) (is : List Instr) → BreaksIn f c (code_of (drop n is)) → BreaksIn f c (code_of is)
breaks_from f c zero is m = m
breaks_from f c (suc n) [] m = m
breaks_from f c (suc n) (i ∷ is) m =
    breaks_later f c (then_code i (code_of is)) (subst (BreaksIn f c) (sym (after_first i (code_of is))) (breaks_from f c n is m))

pub breaks_item : (f : ValidateFault) (c : Context) (i : ℕ) (is : List Instr) (x : Instr) → i < length is → x ≡ slice_index_or is i x → BreaksInstr f c x →
    BreaksIn f c (code_of is)
breaks_item f c i is x lt e m =
    breaks_from f c i is (subst (λ xs. BreaksIn f c (code_of xs)) (sym (next i is x lt e))
    (breaks_after f c (then_code x (code_of (drop (i + 1) is))) (breaks_alone f c x (code_of (drop (i + 1) is)) m)))

-- a refused instruction refuses the body
pub refused_next : (c : Context) (t : BlockType) (body : Code) (i : ℕ) (is : List Instr) (x : Instr) (s : Operands) (f : ValidateFault) → code_of is ≡ body →
    i < length is → x ≡ slice_index_or is i x → check c (code_of (drop i is)) s ≡ check c body no_operands → Refused f (BreaksInstr f c x) (instruction c x s) →
    Refused f (BreaksIn f c body) (whole_body c t body)
refused_next c t body i is x s Memory e lt ei inv h = tt
refused_next c t body i is x s TypeMismatch e lt ei inv h =
    let none : check c body no_operands ≡ None =
    sym inv ∙ ap (λ xs. check c (code_of xs) s) (next i is x lt ei) ∙ check_first c x (code_of (drop (i + 1) is)) s ∙
    ap (λ o. then o (check c (code_of (drop (i + 1) is)))) h in
    ap (λ o. then o (finish t)) none
refused_next c t body i is x s Index e lt ei inv h = subst (BreaksIn Index c) e (breaks_item Index c i is x lt ei h)
refused_next c t body i is x s ImmutableGlobal e lt ei inv h = subst (BreaksIn ImmutableGlobal c) e (breaks_item ImmutableGlobal c i is x lt ei h)
refused_next c t body i is x s Alignment e lt ei inv h = subst (BreaksIn Alignment c) e (breaks_item Alignment c i is x lt ei h)
refused_next c t body i is x s _ e lt ei inv h = absurd h
