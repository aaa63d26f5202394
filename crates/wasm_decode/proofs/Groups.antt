-- Reading groups of locals one after another, as a loop does.
use Rattle.std.proofs.Common.{◌≡◌, ℕ, suc, ◌-◌, ◌+◌, ◌≤◌, ◌<◌, List, ◌++◌, Option, Some, None, replicate, refl, sym, ap, ◌∙◌, append_assoc, arith}
use Rattle.std.proofs.lemmas.List.{append-nil}
use Rattle.grammar.specs.Reading.{◌>>=◌, at_most}
use Rattle.wasm_bytes.specs.Reading.{u32_at}
use Rattle.wasm_ast.specs.declared.types.ValueType.{ValueType}
use Rattle.wasm_decode.specs.TypeReading.{value_type_at}
use Rattle.wasm_decode.specs.FunctionReading.{groups_at}
use Rattle.grammar.specs.Laws.Loops.{with_front}

regroup : (front here : List ValueType) (read : Option (List ValueType × List ℕ)) →
    with_front front (read >>= λ x. Some (here ++ x.0, x.1)) ≡ with_front (front ++ here) read
regroup front here (Some x) = ap (λ (ls : List ValueType). Some (ls, x.1)) (sym (append_assoc front here x.0))
regroup front here None = refl

module _ (front : List ValueType) (room count i : ℕ) (bytes : List ℕ) (total : Option (List ValueType × List ℕ)) where
  pub goes_on : (n : ℕ) (middle : List ℕ) (t : ValueType) (after : List ℕ) → i < count → at_most room u32_at bytes ≡ Some (n, middle) →
      value_type_at middle ≡ Some (t, after)
      → with_front front (groups_at room (count - i) bytes) ≡ total → with_front (front ++ replicate n t) (groups_at (room - n) (count - (i + 1)) after) ≡ total
  unfolding groups_at
  goes_on n middle t after lt h e so_far =
      let k : count - i ≡ suc (count - (i + 1)) = omega arith in
      let one : with_front front (groups_at room (count - i) bytes) ≡ with_front (front ++ replicate n t) (groups_at (room - n) (count - (i + 1)) after) =
      rw (k, h, e) (regroup front (replicate n t) (groups_at (room - n) (count - (i + 1)) after)) in
      sym one ∙ so_far

  pub no_count : i < count → at_most room u32_at bytes ≡ None → with_front front (groups_at room (count - i) bytes) ≡ total → total ≡ None
  unfolding groups_at
  no_count lt h so_far =
      let k : count - i ≡ suc (count - (i + 1)) = omega arith in
      let one : with_front front (groups_at room (count - i) bytes) ≡ None = rw (k, h) refl in
      sym so_far ∙ one

  pub no_type : (n : ℕ) (middle : List ℕ) → i < count → at_most room u32_at bytes ≡ Some (n, middle) → value_type_at middle ≡ None →
      with_front front (groups_at room (count - i) bytes) ≡ total → total ≡ None
  unfolding groups_at
  no_type n middle lt h e so_far =
      let k : count - i ≡ suc (count - (i + 1)) = omega arith in
      let one : with_front front (groups_at room (count - i) bytes) ≡ None = rw (k, h, e) refl in
      sym so_far ∙ one

  pub is_done : count ≤ i → with_front front (groups_at room (count - i) bytes) ≡ total → total ≡ Some (front, bytes)
  unfolding groups_at
  is_done le so_far =
      let k : count - i ≡ 0 = omega arith in
      let one : with_front front (groups_at room (count - i) bytes) ≡ Some (front, bytes) =
      rw k (ap (λ (ls : List ValueType). Some (ls, bytes)) (append-nil front)) in
      sym so_far ∙ one
