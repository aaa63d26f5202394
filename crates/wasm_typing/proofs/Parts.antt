-- What refuses a part of a block, of an `if` or of a body refuses the whole.
use Rattle.std.proofs.Common.{◌≡◌, ◌≤◌, inl, inr, ℕ, List, refl, sym, ap, ◌∙◌, subst, Option, Some, length, drop}
use Rattle.std.specs.Prelude.{◌⊎◌, IsSome}
use Rattle.std.proofs.lemmas.List.{drop_all}
use Rattle.wasm_ast.specs.declared.types.ValueType.TheVariants.{I32}
use Rattle.wasm_ast.specs.declared.body.Instr.{Instr}
use Rattle.wasm_ast.specs.Code.{BlockType, Code}
use Rattle.wasm_ast.specs.View.{code_of}
use Rattle.wasm_typing.specs.declared.fault.ValidateFault.{ValidateFault}
use Rattle.wasm_typing.specs.declared.fault.ValidateFault.TheVariants.{Memory, TypeMismatch, Index, ImmutableGlobal, Alignment}
use Rattle.wasm_typing.specs.Typing.{Context, under}
use Rattle.wasm_typing.specs.Operands.{Operands, then, pop_as, push_result, no_operands, finish}
use Rattle.wasm_typing.specs.Algorithm.{check, whole_body, conditional}
use Rattle.wasm_typing.specs.Breaks.{BreaksIn}
use Rattle.wasm_typing.specs.Refused.{Refused}
use Rattle.wasm_typing.specs.Mistyped.{Mismatch, Mistyped, MistypedIf}
use Rattle.wasm_typing.proofs.Fronts.{always_none, mistyped_end}

-- what comes first, before what goes on with it
pub refused_before : {A B : Type 0} (f : ValidateFault) (P Q : Type 0) (o : Option A) (k : A → Option B) → (P → Q) → Refused f P o → Refused f Q (then o k)
refused_before Memory P Q o k part h = tt
refused_before TypeMismatch P Q o k part h = ap (λ o. then o k) h
refused_before Index P Q o k part h = part h
refused_before ImmutableGlobal P Q o k part h = part h
refused_before Alignment P Q o k part h = part h
refused_before _ P Q o k part h = absurd h

-- the bodies of an if, whose operand is there
module _ (c : Context) (t : BlockType) (a b : Code) (s s' : Operands) (e : pop_as I32 s ≡ Some s') where
  abbrev second : Operands → Option Operands
  second s = then (whole_body (under t c) t b) (λ _. Some (push_result t s))

  abbrev both : Operands → Option Operands
  both s = then (whole_body (under t c) t a) (λ _. second s)

  pub refused_yes : (f : ValidateFault) → Refused f (BreaksIn f (under t c) a) (whole_body (under t c) t a) →
      Refused f (BreaksIn f (under t c) a ⊎ BreaksIn f (under t c) b) (conditional c t a b s)
  refused_yes Memory h = tt
  refused_yes TypeMismatch h = ap (λ o. then o both) e ∙ ap (λ o. then o (λ _. second s')) h
  refused_yes Index h = inl h
  refused_yes ImmutableGlobal h = inl h
  refused_yes Alignment h = inl h
  refused_yes _ h = absurd h

  pub refused_no : (f : ValidateFault) → Refused f (BreaksIn f (under t c) b) (whole_body (under t c) t b) →
      Refused f (BreaksIn f (under t c) a ⊎ BreaksIn f (under t c) b) (conditional c t a b s)
  refused_no Memory h = tt
  refused_no TypeMismatch h =
      ap (λ o. then o both) e ∙ always_none (whole_body (under t c) t a) (λ _. second s') (λ _. ap (λ o. then o (λ _. Some (push_result t s'))) h)
  refused_no Index h = inr h
  refused_no ImmutableGlobal h = inr h
  refused_no Alignment h = inr h
  refused_no _ h = absurd h

pub mistyped_operand : (f : ValidateFault) (c : Context) (t : BlockType) (a b : Code) (s : Operands) → Refused f ⊥ (pop_as I32 s) →
    Mismatch f (MistypedIf c t a b s)
mistyped_operand TypeMismatch c t a b s h = inl h
mistyped_operand _ c t a b s h = tt

pub mistyped_yes : (f : ValidateFault) (c : Context) (t : BlockType) (a b : Code) (s : Operands) → Mismatch f (Mistyped (under t c) t a no_operands) →
    Mismatch f (MistypedIf c t a b s)
mistyped_yes TypeMismatch c t a b s h = inr (inl h)
mistyped_yes _ c t a b s h = tt

pub mistyped_no : (f : ValidateFault) (c : Context) (t : BlockType) (a b : Code) (s : Operands) → IsSome (whole_body (under t c) t a) →
    Mismatch f (Mistyped (under t c) t b no_operands) → Mismatch f (MistypedIf c t a b s)
mistyped_no TypeMismatch c t a b s typed h = inr (inr (typed, h))
mistyped_no _ c t a b s typed h = tt

-- the end of a body, all of whose instructions are accepted
pub whole_ok : (c : Context) (t : BlockType) (body : Code) (i : ℕ) (is : List Instr) (s s' : Operands) → length is ≤ i →
    check c (code_of (drop i is)) s ≡ check c body no_operands → finish t s ≡ Some s' → IsSome (whole_body c t body)
whole_ok c t body i is s s' le checked h =
    subst (λ o. IsSome (then o (finish t))) (sym (ap (λ xs. check c (code_of xs) s) (drop_all i is le)) ∙ checked) (rw h refl)

module _ (c : Context) (t : BlockType) (body : Code) (i : ℕ) (is : List Instr) (s : Operands) (f : ValidateFault) (le : length is ≤ i) where
  pub refused_end : check c (code_of (drop i is)) s ≡ check c body no_operands → Refused f ⊥ (finish t s) →
      Refused f (BreaksIn f c body) (whole_body c t body)
  refused_end checked h =
      subst (λ o. Refused f (BreaksIn f c body) (then o (finish t))) (sym (ap (λ xs. check c (code_of xs) s) (drop_all i is le)) ∙ checked)
      (refused_last f h)
    where
      refused_last : (g : ValidateFault) → Refused g ⊥ (finish t s) → Refused g (BreaksIn g c body) (finish t s)
      refused_last Memory h = tt
      refused_last TypeMismatch h = h
      refused_last _ h = absurd h

  pub mistyped_whole : (Mistyped c t (code_of (drop i is)) s → Mistyped c t body no_operands) → Refused f ⊥ (finish t s) →
      Mismatch f (Mistyped c t body no_operands)
  mistyped_whole part h = mistyped_last f h
    where
      mistyped_last : (g : ValidateFault) → Refused g ⊥ (finish t s) → Mismatch g (Mistyped c t body no_operands)
      mistyped_last TypeMismatch h = part (subst (λ xs. Mistyped c t (code_of xs) s) (sym (drop_all i is le)) (mistyped_end c t s h))
      mistyped_last _ h = tt
