-- A body of one constant.
use Rattle.std.proofs.Common.{◌≡◌, ◌<◌, ◌≤◌, ℕ, List, [], ◌∷◌, sym, ap, ◌∙◌, length, slice_index_or, arith}
use Rattle.wasm_ast.specs.declared.types.ValueType.{ValueType}
use Rattle.wasm_ast.specs.declared.types.ValueType.TheVariants.{I32, I64}
use Rattle.wasm_ast.specs.declared.body.Instr.{Instr}
use Rattle.wasm_ast.specs.declared.body.Instr.TheVariants as instr
use Rattle.wasm_ast.specs.Op.{Const}
use Rattle.wasm_ast.specs.Code.{Code, End, Do}
use Rattle.wasm_ast.specs.View.{then_code, code_of}

-- a body of one constant is none of a constant of the other type
not_i64 : (c : Code) (t : ValueType) (w n : ℕ) → c ≡ Do (Const I32 w) End → t ≡ I64 → c ≡ Do (Const t n) End → ⊥
not_i64 c t w n e is h = cc

not_i32 : (c : Code) (t : ValueType) (w n : ℕ) → c ≡ Do (Const I64 w) End → t ≡ I32 → c ≡ Do (Const t n) End → ⊥
not_i32 c t w n e is h = cc

module _ (is : List Instr) (x : Instr) (body : Code) (one : 1 ≤ length is) (less : length is < 2) (at : x ≡ slice_index_or is 0 x)
    (same : code_of is ≡ body) where
  alone : body ≡ then_code x End
  alone = sym same ∙ only is one less at
    where
      only : (xs : List Instr) → 1 ≤ length xs → length xs < 2 → x ≡ slice_index_or xs 0 x → code_of xs ≡ then_code x End
      only [] le lt e = absurd (omega (arith, le))
      only (y ∷ []) le lt e = ap (λ z. then_code z End) (sym e)
      only (y ∷ z ∷ zs) le lt e = absurd (omega (arith, lt))

  i32_alone : (w : ℕ) → x ≡ instr.I32Const w → body ≡ Do (Const I32 w) End
  i32_alone w e = alone ∙ ap (λ z. then_code z End) e

  pub i32_found : (w : ℕ) (t : ValueType) → x ≡ instr.I32Const w → t ≡ I32 → body ≡ Do (Const t w) End
  i32_found w t e is = i32_alone w e ∙ ap (λ t. Do (Const t w) End) (sym is)

  pub i32_apart : (w n : ℕ) (t : ValueType) → x ≡ instr.I32Const w → t ≡ I64 → body ≡ Do (Const t n) End → ⊥
  i32_apart w n t e is h = not_i64 body t w n (i32_alone w e) is h

  i64_alone : (w : ℕ) → x ≡ instr.I64Const w → body ≡ Do (Const I64 w) End
  i64_alone w e = alone ∙ ap (λ z. then_code z End) e

  pub i64_found : (w : ℕ) (t : ValueType) → x ≡ instr.I64Const w → t ≡ I64 → body ≡ Do (Const t w) End
  i64_found w t e is = i64_alone w e ∙ ap (λ t. Do (Const t w) End) (sym is)

  pub i64_apart : (w n : ℕ) (t : ValueType) → x ≡ instr.I64Const w → t ≡ I32 → body ≡ Do (Const t n) End → ⊥
  i64_apart w n t e is h = not_i32 body t w n (i64_alone w e) is h
