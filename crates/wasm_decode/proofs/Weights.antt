-- What is read weighs no more than its bytes: each instruction and each label takes one at least.
use Rattle.std.proofs.Common.{◌≡◌, ℕ, zero, suc, ◌+◌, ◌<◌, ◌≤◌, ◌^◌, Bool, true, false, eqb, List, [], ◌∷◌, ◌++◌, length}
use Rattle.std.proofs.Common.{slice_get, inl, inr, Some, refl, sym, ap, subst, ◌∙◌, arith}
use Rattle.std.specs.Prelude.{sum_by, ◌&&◌}
use Rattle.std.specs.List.{list_all}
use Rattle.std.proofs.lemmas.Bool.{eqb-true}
use Rattle.std.proofs.lemmas.List.{length-append}
use Rattle.std.proofs.lemmas.List.Sums.{sum_by-cons}
use Rattle.wasm_profile.specs.declared.profile.Profile.{Profile}
use Rattle.wasm_profile.specs.declared.profile.Profile.TheVariants.{Core1, SignExtension}
use Rattle.grammar.specs.Spelling.{◌⟫◌, Repeats}
use Rattle.grammar.specs.Reading.{at_most}
use Rattle.grammar.specs.Table.{HasRow}
use Rattle.wasm_bytes.specs.Spelling.{IsU32}
use Rattle.wasm_bytes.specs.Reading.{u32_at, list_at}
use Rattle.wasm_ast.specs.declared.types.ValueType.{ValueType}
use Rattle.wasm_ast.specs.declared.module.Func.{Func}
use Rattle.wasm_ast.specs.declared.body.MemoryArgument.{MemoryArgument}
use Rattle.wasm_ast.specs.Op.{Op}
use Rattle.wasm_ast.specs.Code.{Code, End, Do, Block, Loop, If, code_size}
use Rattle.wasm_ast.specs.Sizes.{labels_of, code_labels, func_weight, IsSmall, AreSmall}
use Rattle.wasm_operators.specs.Operators.{load_rows, store_rows, comparison_rows, arithmetic_32_rows, arithmetic_64_rows, conversion_rows, sign_extension_rows}
use Rattle.wasm_operators.specs.Operators.{operator_rows}
use Rattle.wasm_decode.specs.Opcodes.{Form, bare, indexed, labelled, indirect, reserved, access, constant_32, constant_64}
use Rattle.wasm_decode.specs.Opcodes.{other_rows, with_form, opcodes, load_of, store_of, IsAfter, IsOp}
use Rattle.wasm_decode.specs.TypeSpelling.{IsValueType}
use Rattle.wasm_decode.specs.TypeReading.{value_type_at}
use Rattle.wasm_decode.specs.CodeSpelling.{IsCode}
use Rattle.wasm_decode.specs.FunctionSpelling.{IsFunctionCode}
use Rattle.wasm_decode.specs.FunctionReading.{codes_at}
use Rattle.wasm_decode.proofs.TypeLaws.{number_reads, list_reads, value_type_reads}
use Rattle.wasm_decode.proofs.FunctionLaws.{codes_take}

parts_length : (text front back : List ℕ) → text ≡ front ++ back → length text ≡ length front + length back
parts_length text front back e = ap (λ (x : List ℕ). length x) e ∙ length-append front back

u32_length : (n : ℕ) (text : List ℕ) → IsU32 n text → 1 ≤ length text
u32_length n [] h = absurd h
u32_length n (b ∷ bs) h = omega arith

u32s_length : (ns : List ℕ) (text : List ℕ) → Repeats IsU32 ns text → length ns ≤ length text
u32s_length [] text h = omega arith
u32s_length (n ∷ ns) text h = omega (arith, u32_length n h.0 h.2, u32s_length ns h.1 h.3, parts_length text h.0 h.1 h.4)

-- the parameters of a type
pub parameters_few : (bytes : List ℕ) (ts : List ValueType) (rest : List ℕ) → list_at 64 value_type_at bytes ≡ Some (ts, rest) → length ts < 2 ^ 30
parameters_few bytes ts rest e =
    let t = (list_reads 64 IsValueType value_type_at value_type_reads).takes bytes ts rest e in
    omega (arith, t.2.2.0)

-- ---- instructions

-- an instruction of the form names no more labels than come after its opcode
abbrev IsLight : Form → Type 0
IsLight (bare o) = labels_of o ≡ 0
IsLight (indexed make) = (n : ℕ) → labels_of (make n) ≤ 1
IsLight labelled = Unit {0}
IsLight indirect = Unit {0}
IsLight (reserved o) = labels_of o ≡ 0
IsLight (access make) = (a : MemoryArgument) → labels_of (make a) ≡ 0
IsLight constant_32 = Unit {0}
IsLight constant_64 = Unit {0}

abbrev AreLight : List (ℕ × Form) → Type 0
AreLight [] = Unit {0}
AreLight (r ∷ rows) = IsLight r.1 × AreLight rows

light_row : (rows : List (ℕ × Form)) (b : ℕ) (f : Form) → AreLight rows → HasRow rows b f → IsLight f
light_row [] b f l h = absurd h
light_row (r ∷ rows) b f l (inl h) = subst IsLight (sym h.1) l.0
light_row (r ∷ rows) b f l (inr h) = light_row rows b f l.1 h

light_append : (rows more : List (ℕ × Form)) → AreLight rows → AreLight more → AreLight (rows ++ more)
light_append [] more l m = m
light_append (r ∷ rows) more l m = (l.0, light_append rows more l.1 m)

light_bare : (rows : List (ℕ × Op)) → list_all (λ r. eqb (labels_of r.1) 0) rows ≡ true → AreLight (with_form bare rows)
light_bare [] e = tt
light_bare (r ∷ rows) e =
    let parts = both (eqb (labels_of r.1) 0) (list_all (λ r. eqb (labels_of r.1) 0) rows) e in
    (eqb-true (labels_of r.1) 0 parts.0, light_bare rows parts.1)
  where
    both : (a b : Bool) → (a && b) ≡ true → (a ≡ true) × (b ≡ true)
    both true b e = (refl, e)
    both false b e = absurd cc

module _ {K : Type 0} (make : K → MemoryArgument → Op) (none : (k : K) (a : MemoryArgument) → labels_of (make k a) ≡ 0) where
  light_access : (rows : List (ℕ × K)) → AreLight (with_form (λ k. access (make k)) rows)
  light_access [] = tt
  light_access (r ∷ rows) = (none r.1, light_access rows)

light_others : AreLight other_rows
unfolding other_rows
light_others =
    let one : (n : ℕ) → 1 ≤ 1 = λ n. omega arith in
    let none : (n : ℕ) → 0 ≤ 1 = λ n. omega arith in
    let same : (n : ℕ) → n ≡ n = λ n. refl in
    assumption (one, none, same)

after_length : (f : Form) (o : Op) (text : List ℕ) → IsLight f → IsAfter f o text → labels_of o ≤ length text
after_length (bare p) o text l h = omega (arith, ap labels_of h.0, l)
after_length (indexed make) o text l h = omega (arith, ap labels_of h.1, l h.0, u32_length h.0 text h.2)
after_length labelled o text l h =
    let t = h.2 in
    let ks = t.2 in
    let front : length h.0.0 ≤ length t.0 = omega (arith, u32s_length h.0.0 ks.1 ks.3, parts_length t.0 ks.0 ks.1 ks.4) in
    omega (arith, ap labels_of h.1, front, u32_length h.0.1 t.1 t.3, parts_length text t.0 t.1 t.4)
after_length indirect o text l h = omega (arith, ap labels_of h.1)
after_length (reserved p) o text l h = omega (arith, ap labels_of h.0, l)
after_length (access make) o text l h = omega (arith, ap labels_of h.1, l h.0)
after_length constant_32 o text l h = omega (arith, ap labels_of h.1)
after_length constant_64 o text l h = omega (arith, ap labels_of h.1)

light_operators : (profile : Profile) → list_all (λ r. eqb (labels_of r.1) 0) (operator_rows profile) ≡ true
unfolding operator_rows comparison_rows arithmetic_32_rows arithmetic_64_rows conversion_rows sign_extension_rows
light_operators Core1 = refl
light_operators SignExtension = refl

module _ (profile : Profile) where
  all_light : AreLight (opcodes profile)
  unfolding opcodes
  all_light =
      let loads = with_form (λ o. access (load_of o)) load_rows in
      let stores = with_form (λ o. access (store_of o)) store_rows in
      let light_loads : AreLight loads = light_access load_of (λ k a. refl) load_rows in
      let light_stores : AreLight stores = light_access store_of (λ k a. refl) store_rows in
      let not_bare = light_append loads (stores ++ other_rows) light_loads (light_append stores other_rows light_stores light_others) in
      light_append (with_form bare (operator_rows profile)) (loads ++ (stores ++ other_rows)) (light_bare (operator_rows profile) (light_operators profile))
      not_bare

  op_length : (o : Op) (text : List ℕ) → IsOp profile o text → labels_of o < length text
  op_length o text h =
      let s = h.3 in
      omega (
        arith,
        after_length h.1 o s.1 (light_row (opcodes profile) h.0 h.1 all_light h.2) s.3,
        ap (λ (x : List ℕ). length x) s.2,
        parts_length text s.0 s.1 s.4,
      )

  -- ---- code

  -- two bodies after an opcode and a type
  bodies_length : {P Q R S : List ℕ → Type 0} (text : List ℕ) (h : (P ⟫ Q ⟫ R ⟫ S) text) → length h.3.3.0 + length h.3.3.1 ≤ length text
  bodies_length text h =
      let k = h.3 in
      let s = k.3 in
      omega (arith, parts_length text h.0 h.1 h.4, parts_length h.1 k.0 k.1 k.4, parts_length k.1 s.0 s.1 s.4)

  code_length : (last : ℕ) (c : Code) (text : List ℕ) → IsCode profile last c text → code_size c + code_labels c < length text
  code_length last End text h = omega (arith, ap (λ (x : List ℕ). length x) h)
  code_length last (Do o c) text h = omega (arith, op_length o h.0 h.2, code_length last c h.1 h.3, parts_length text h.0 h.1 h.4)
  code_length last (Block t b c) text h =
      let s = h.3.3 in
      omega (arith, bodies_length text h, code_length 0x0b b s.0 s.2, code_length last c s.1 s.3)
  code_length last (Loop t b c) text h =
      let s = h.3.3 in
      omega (arith, bodies_length text h, code_length 0x0b b s.0 s.2, code_length last c s.1 s.3)
  code_length last (If t a b c) text h =
      let s = h.3.3 in
      let both : code_size a + code_labels a + (code_size b + code_labels b) < length s.0 = elim s.2 [
        | inl e ↦ omega (arith, ap code_size e.0, ap code_labels e.0, code_length 0x0b a s.0 e.1)
        | inr e ↦ omega (arith, code_length 0x05 a e.0 e.2, code_length 0x0b b e.1 e.3, parts_length s.0 e.0 e.1 e.4)
      ] in
      omega (arith, bodies_length text h, both, code_length last c s.1 s.3)

  -- ---- functions

  function_small : (f : Func) (text : List ℕ) → IsFunctionCode profile f text → IsSmall f
  function_small f text h =
      let p = h.1 in
      record { size = omega (arith, p.3.1); locals = omega (arith, p.2.2) }

  function_weight : (f : Func) (text : List ℕ) → IsFunctionCode profile f text → func_weight f ≤ length text
  function_weight f text h =
      let p = h.1 in
      let s = h.2 in
      let content : length h.0 ≤ length text = omega (arith, ap (λ (x : List ℕ). length x) s.3, parts_length text s.0 s.1 s.4) in
      omega (arith, content, code_length 0x0b f.body p.1 p.3.2, parts_length h.0 p.0 p.1 p.4)

  functions_weight : (fs : List Func) (text : List ℕ) → Repeats (IsFunctionCode profile) fs text → sum_by func_weight fs ≤ length text
  functions_weight [] text h = omega arith
  functions_weight (f ∷ fs) text h =
      omega (arith, sum_by-cons func_weight f fs, function_weight f h.0 h.2, functions_weight fs h.1 h.3, parts_length text h.0 h.1 h.4)

  each_small : (fs : List Func) (text : List ℕ) → Repeats (IsFunctionCode profile) fs text → (i : ℕ) (f : Func) → slice_get fs i ≡ Some f → IsSmall f
  each_small [] text h i f e = absurd cc
  each_small (g ∷ fs) text h zero f e =
      let same : g ≡ f = cc in
      subst IsSmall same (function_small g h.0 h.2)
  each_small (g ∷ fs) text h (suc i) f e = each_small fs h.1 h.3 i f e

  -- ---- what was read

  -- the functions of a module that is within its limit
  pub functions_small : (is : List ℕ) (bytes : List ℕ) (n : ℕ) (middle : List ℕ) (fs : List Func) (rest : List ℕ)
      → length bytes ≤ 262144 → at_most 1024 u32_at bytes ≡ Some (n, middle) → codes_at profile is middle ≡ Some (fs, rest) → AreSmall fs
  functions_small is bytes n middle fs rest le count e =
      let one = (number_reads 1024).takes bytes n middle count in
      let two = codes_take profile is middle fs rest e in
      record {
        each = each_small fs two.1 two.2;
        together = omega (arith, functions_weight fs two.1 two.2, parts_length bytes one.1 middle one.3, parts_length middle two.1 rest two.3);
      }
