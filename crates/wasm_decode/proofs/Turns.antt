-- Reading a body instruction by instruction, as a loop does.
use Rattle.std.proofs.Common.{◌≡◌, ℕ, zero, suc, ◌-◌, ◌<◌, Bool, true, false, ◌||◌, ◌≢◌, eqb, List, [], ◌∷◌, ◌++◌, Option, Some, None, refl, sym, ap, ◌∙◌}
use Rattle.std.proofs.Common.{arith}
use Rattle.std.proofs.lemmas.Bool.{eqb-true, eq-eqb}
use Rattle.wasm_profile.specs.declared.profile.Profile.{Profile}
use Rattle.grammar.specs.Reading.{◌>>=◌, byte_at}
use Rattle.wasm_ast.specs.Code as tree
use Rattle.wasm_ast.specs.Code.{Code}
use Rattle.wasm_ast.specs.View.{then_code, code_of}
use Rattle.wasm_ast.specs.declared.body.Instr.{Instr}
use Rattle.wasm_ast.specs.declared.body.Instr.TheVariants.{Nop}
use Rattle.wasm_decode.specs.CodeReading.{Instructions, Step, append, closed_at, block_at, conditional_at, step_at, before, is_last, code_at, body_at, below}

pub append_assoc-code : (a b c : Code) → append (append a b) c ≡ append a (append b c)
append_assoc-code tree.End b c = refl
append_assoc-code (tree.Do o a) b c = ap (tree.Do o) (append_assoc-code a b c)
append_assoc-code (tree.Block t i a) b c = ap (tree.Block t i) (append_assoc-code a b c)
append_assoc-code (tree.Loop t i a) b c = ap (tree.Loop t i) (append_assoc-code a b c)
append_assoc-code (tree.If t y n a) b c = ap (tree.If t y n) (append_assoc-code a b c)

then_code-append : (i : Instr) (c d : Code) → then_code i (append c d) ≡ append (then_code i c) d
then_code-append Nop c d = refl
then_code-append _ c d = refl

pub code_of-append : (is js : List Instr) → code_of (is ++ js) ≡ append (code_of is) (code_of js)
code_of-append [] js = refl
code_of-append (i ∷ is) js = ap (then_code i) (code_of-append is js) ∙ then_code-append i (code_of is) (code_of js)

pub append-End : (c : Code) → append c tree.End ≡ c
append-End tree.End = refl
append-End (tree.Do o a) = ap (tree.Do o) (append-End a)
append-End (tree.Block t i a) = ap (tree.Block t i) (append-End a)
append-End (tree.Loop t i a) = ap (tree.Loop t i) (append-End a)
append-End (tree.If t y n a) = ap (tree.If t y n) (append-End a)

pub body_is : (profile : Profile) (d left : ℕ) (bytes : List ℕ) →
    body_at profile d left bytes ≡ code_at (step_at profile (below profile d)) (suc left) left bytes
unfolding body_at
body_is profile zero left bytes = refl
body_is profile (suc d) left bytes = refl

pub below_is : (profile : Profile) (n : ℕ) → n ≢ 0 → below profile n ≡ body_at profile (n - 1)
below_is profile zero some = absurd (some refl)
below_is profile (suc n) some =
    let k : suc n - 1 ≡ n = omega arith in
    ap (body_at profile) (sym k)

none_either_way : {A B : Type 0} (o : Option A) (f : A → Option B) → ((x : A) → f x ≡ None) → (o >>= f) ≡ None
none_either_way (Some x) f h = h x
none_either_way None f h = refl

pub no_block : (profile : Profile) (n left : ℕ) (bytes : List ℕ) → n ≡ 0 → block_at (below profile n) left bytes ≡ None
unfolding block_at closed_at
no_block profile n left bytes e = ap (λ (m : ℕ). block_at (below profile m) left bytes) e ∙ none_either_way _ _ (λ t. refl)

pub no_conditional : (profile : Profile) (n left : ℕ) (bytes : List ℕ) → n ≡ 0 → conditional_at (below profile n) left bytes ≡ None
unfolding conditional_at
no_conditional profile n left bytes e = ap (λ (m : ℕ). conditional_at (below profile m) left bytes) e ∙ none_either_way _ _ (λ t. refl)

pub nothing_before : (read : Option (Instructions × List ℕ)) → before tree.End read ≡ read
nothing_before (Some c) = refl
nothing_before None = refl

pub before-before : (a b : Code) (read : Option (Instructions × List ℕ)) → before a (before b read) ≡ before (append a b) read
before-before a b (Some c) = ap (λ (x : Code). Some (record { code = x; last = c.0.last; left = c.0.left }, c.1)) (sym (append_assoc-code a b c.0.code))
before-before a b None = refl

is_not_last : (op : ℕ) → ¬ (op ≡ 0x0b) → ¬ (op ≡ 0x05) → is_last op ≡ false
is_not_last op e n = decided (eqb op 0x0b) (eqb op 0x05) refl refl
  where
    decided : (a b : Bool) → eqb op 0x0b ≡ a → eqb op 0x05 ≡ b → (a || b) ≡ false
    decided true b x y = absurd (e (eqb-true op 0x0b x))
    decided false true x y = absurd (n (eqb-true op 0x05 y))
    decided false false x y = refl

module _ (one : ℕ → ℕ → List ℕ → Option (Step × List ℕ)) (front : Code) (n left : ℕ) (bytes : List ℕ) (total : Option (Instructions × List ℕ))
    (so_far : before front (code_at one n left bytes) ≡ total) where
  pub no_opcode : 0 < n → byte_at bytes ≡ None → total ≡ None
  unfolding code_at
  no_opcode lt h =
      let k : n ≡ suc (n - 1) = omega arith in
      let step : before front (code_at one n left bytes) ≡ None = ap (λ (m : ℕ). before front (code_at one m left bytes)) k ∙ rw h refl in
      sym so_far ∙ step

  pub is_over : (op : ℕ) (after : List ℕ) → 0 < n → byte_at bytes ≡ Some (op, after) → is_last op ≡ true →
      total ≡ Some (record { code = front; last = op; left = left }, after)
  unfolding code_at
  is_over op after lt h e =
      let k : n ≡ suc (n - 1) = omega arith in
      let step : before front (code_at one n left bytes) ≡ Some (record { code = append front tree.End; last = op; left = left }, after) =
      ap (λ (m : ℕ). before front (code_at one m left bytes)) k ∙ rw (h, e) refl in
      sym so_far ∙ step ∙ ap (λ (c : Code). Some (record { code = c; last = op; left = left }, after)) (append-End front)

  pub too_many : (op : ℕ) (after : List ℕ) → 0 < n → byte_at bytes ≡ Some (op, after) → ¬ (op ≡ 0x0b) → ¬ (op ≡ 0x05) → left ≡ 0 → total ≡ None
  unfolding code_at
  too_many op after lt h e x zero_left =
      let k : n ≡ suc (n - 1) = omega arith in
      let step : before front (code_at one n left bytes) ≡ None =
      ap (λ (m : ℕ). before front (code_at one m left bytes)) k ∙ rw (h, is_not_last op e x, eq-eqb left 0 zero_left) refl in
      sym so_far ∙ step

  some_left : left ≢ 0 → eqb left 0 ≡ false
  some_left ne = decided (eqb left 0) refl
    where
      decided : (t : Bool) → eqb left 0 ≡ t → t ≡ false
      decided true e = absurd (ne (eqb-true left 0 e))
      decided false e = refl

  pub no_step : (op : ℕ) (after : List ℕ) → 0 < n → byte_at bytes ≡ Some (op, after) → ¬ (op ≡ 0x0b) → ¬ (op ≡ 0x05) → left ≢ 0 →
      one op (left - 1) after ≡ None → total ≡ None
  unfolding code_at
  no_step op after lt h e x ne none =
      let k : n ≡ suc (n - 1) = omega arith in
      let step : before front (code_at one n left bytes) ≡ None =
      ap (λ (m : ℕ). before front (code_at one m left bytes)) k ∙ rw (h, is_not_last op e x, some_left ne, none) refl in
      sym so_far ∙ step

  pub turn : (op : ℕ) (after : List ℕ) (i : Step) (rest : List ℕ) → 0 < n → byte_at bytes ≡ Some (op, after) → ¬ (op ≡ 0x0b) → ¬ (op ≡ 0x05) → left ≢ 0 →
      one op (left - 1) after ≡ Some (i, rest)
      → before (append front i.code) (code_at one (n - 1) i.left rest) ≡ total
  unfolding code_at
  turn op after i rest lt h e x ne some =
      let k : n ≡ suc (n - 1) = omega arith in
      let step : before front (code_at one n left bytes) ≡ before front (before i.code (code_at one (n - 1) i.left rest)) =
      ap (λ (m : ℕ). before front (code_at one m left bytes)) k ∙ rw (h, is_not_last op e x, some_left ne, some) refl in
      sym (before-before front i.code (code_at one (n - 1) i.left rest)) ∙ sym step ∙ so_far
