-- Each type's reading function reads its spelling.
use Rattle.std.proofs.Common.{◌≡◌, ℕ, zero, suc, ◌≤◌, ◌^◌, Bool, true, false, cond, eqb, List, ◌++◌, Option, Some, None, refl, sym, ap, ap₂, subst, ◌∙◌}
use Rattle.std.proofs.Common.{append_assoc, arith}
use Rattle.std.proofs.lemmas.Bool.{eqb-true}
use Rattle.std.proofs.lemmas.Option.{some_pair_parts}
use Rattle.grammar.specs.Spelling.{◌⟫◌, IsAtMost}
use Rattle.grammar.specs.Reading.{◌>>=◌, at_most}
use Rattle.grammar.specs.Table.{row_byte_at}
use Rattle.grammar.specs.Reads.{Reads, ReadsIf, Any}
use Rattle.grammar.specs.Laws.Steps.{bind_some, either}
use Rattle.grammar.specs.Laws.Wholes.{row_reads, by_row_reads, bounded_reads, tagged_reads, then_reads, last_reads, known_reads, counted_reads}
use Rattle.wasm_bytes.specs.Spelling.{IsU32, IsList}
use Rattle.wasm_bytes.specs.Reading.{u32_at, list_at}
use Rattle.wasm_bytes.specs.Laws.Leb.{unsigned_reads}
use Rattle.wasm_ast.specs.declared.types.ValueType.{ValueType}
use Rattle.wasm_ast.specs.declared.types.FuncType.{FuncType}
use Rattle.wasm_ast.specs.declared.types.Limits.{Limits}
use Rattle.wasm_ast.specs.declared.types.GlobalType.{GlobalType}
use Rattle.wasm_decode.specs.Tables.{value_type_rows, block_type_rows, flag_rows}
use Rattle.wasm_decode.specs.TypeSpelling.{IsValueType, IsBlockType, IsResult, IsFuncType, IsAfterFlag, IsLimits, IsMemoryType, IsTableType, IsGlobalType}
use Rattle.wasm_decode.specs.TypeReading.{value_type_at, result_at, func_type_at, after_flag, limits_at, memory_type_at, table_type_at, global_type_at}

pub u32_reads : Reads IsU32 u32_at
u32_reads = unsigned_reads (2 ^ 32)

pub number_reads : (most : ℕ) → Reads (IsAtMost most IsU32) (at_most most u32_at)
number_reads most = bounded_reads most IsU32 u32_at u32_reads

pub list_reads : {A : Type 0} (most : ℕ) (Spells : A → List ℕ → Type 0) (read : List ℕ → Option (A × List ℕ)) → Reads Spells read →
    Reads (IsList most Spells) (list_at most read)
list_reads most Spells read p = counted_reads IsU32 u32_at u32_reads most Spells read p

pub value_type_reads : Reads IsValueType value_type_at
value_type_reads = row_reads value_type_rows refl

pub block_type_reads : Reads IsBlockType (row_byte_at block_type_rows)
block_type_reads = row_reads block_type_rows refl

-- ---- the result of a function

one_of : (n : ℕ) → eqb n 0 ≡ false → n ≤ 1 → n ≡ 1
one_of zero e le = absurd cc
one_of (suc zero) e le = refl
one_of (suc (suc n)) e le = absurd (omega arith)

result_takes : (bytes : List ℕ) (r : Option ValueType) (rest : List ℕ) → result_at bytes ≡ Some (r, rest) →
    (text : List ℕ) × IsResult r text × (bytes ≡ text ++ rest)
unfolding result_at
result_takes bytes r rest e =
    let typed = λ (t : ValueType × List ℕ). Some (Some t.0, t.1) in
    let s = bind_some (at_most 1 u32_at bytes) (λ n. cond (eqb n.0 0) (Some (None, n.1)) (value_type_at n.1 >>= typed)) (r, rest) e in
    let one = (number_reads 1).takes bytes s.0.0 s.0.1 s.1 in
    let P = (text : List ℕ) × IsResult r text × (bytes ≡ text ++ rest) in
    either (eqb s.0.0 0) (Some (None, s.0.1)) (value_type_at s.0.1 >>= typed) (r, rest) P
    (λ y none.
    let parts = some_pair_parts None r s.0.1 rest none in (
      one.1,
      subst (λ (x : Option ValueType). IsResult x one.1) parts.0 (subst (λ (n : ℕ). IsU32 n one.1) (eqb-true s.0.0 0 y) one.2.1),
      one.3 ∙
          ap (λ (x : List ℕ). one.1 ++ x) parts.1,
    ))
    (λ n some.
    let t = bind_some (value_type_at s.0.1) typed (r, rest) some in
    let parts = some_pair_parts (Some t.0.0) r t.0.1 rest t.2 in
    let two = value_type_reads.takes s.0.1 t.0.0 t.0.1 t.1 in
    let count = subst (λ (n : ℕ). IsU32 n one.1) (one_of s.0.0 n one.2.0) one.2.1 in (
      one.1 ++ two.1,
      subst (λ (x : Option ValueType). IsResult x (one.1 ++ two.1)) parts.0 (one.1, two.1, count, two.2, refl),
      one.3 ∙ ap (λ (x : List ℕ). one.1 ++ x) (two.3 ∙ ap (λ (x : List ℕ). two.1 ++ x) parts.1) ∙ sym (append_assoc one.1 two.1 rest),
    ))
    s.2

result_again : (r : Option ValueType) (text rest : List ℕ) → IsResult r text → result_at (text ++ rest) ≡ Some (r, rest)
unfolding result_at
result_again None text rest h = rw ((number_reads 1).again 0 text rest tt (omega arith, h)) refl
result_again (Some t) text rest h =
    let regrouped : text ++ rest ≡ h.0 ++ (h.1 ++ rest) = ap (λ (x : List ℕ). x ++ rest) h.4 ∙ append_assoc h.0 h.1 rest in
    ap result_at regrouped ∙ rw ((number_reads 1).again 1 h.0 (h.1 ++ rest) tt (omega arith, h.2), value_type_reads.again t h.1 rest tt h.3) refl

pub result_reads : Reads IsResult result_at
result_reads = record {
  takes = λ bytes r rest e. let t = result_takes bytes r rest e in (tt, t.0, t.1, t.2);
  again = λ r text rest _ h. result_again r text rest h;
}

pub func_type_reads : Reads IsFuncType func_type_at
unfolding func_type_at
func_type_reads =
    tagged_reads Any 0x60 (λ (t : FuncType). IsList 64 IsValueType t.params ⟫ IsResult t.result) _
    (then_reads Any (IsList 64 IsValueType) (list_at 64 value_type_at) (λ (t : FuncType). t.params) (λ t. IsResult t.result)
    (λ params bytes. result_at bytes >>= λ result. Some (record { params = params; result = result.0 }, result.1))
    (list_reads 64 IsValueType value_type_at value_type_reads)
    (λ params. last_reads (λ (t : FuncType). Any t × (t.params ≡ params)) IsResult result_at (λ t. t.result)
    (λ result. record { params = params; result = result })
    result_reads (λ result. ((tt, refl), refl))
    (λ t k. ap (λ (p : List ValueType). let made : FuncType = record { params = p; result = t.result } in made) (sym k.1))))

-- ---- limits

abbrev IsLeast : Limits → Type 0
IsLeast l = l.greatest ≡ None

abbrev greatest_of : Option ℕ → ℕ
greatest_of None = 0
greatest_of (Some n) = n

abbrev HasGreatest : Limits → Type 0
HasGreatest l = l.greatest ≡ Some (greatest_of l.greatest)

both_reads : (most : ℕ) → ReadsIf HasGreatest (λ l. IsAtMost most IsU32 l.least ⟫ IsU32 (greatest_of l.greatest)) (after_flag most true)
both_reads most =
    then_reads HasGreatest (IsAtMost most IsU32) (at_most most u32_at) (λ (l : Limits). l.least) (λ l. IsU32 (greatest_of l.greatest))
    (λ least bytes. u32_at bytes >>= λ greatest. Some (record { least = least; greatest = Some greatest.0 }, greatest.1)) (number_reads most)
    (λ least. last_reads (λ (l : Limits). HasGreatest l × (l.least ≡ least)) IsU32 u32_at (λ l. greatest_of l.greatest)
    (λ greatest. record { least = least; greatest = Some greatest }) u32_reads (λ n. ((refl, refl), refl))
    (λ l k. ap₂ (λ (n : ℕ) (g : Option ℕ). let made : Limits = record { least = n; greatest = g } in made) (sym k.1) (sym k.0)))

after_flag_reads : (most : ℕ) (flag : Bool) → Reads (IsAfterFlag most flag) (after_flag most flag)
after_flag_reads most false =
    known_reads IsLeast (λ l. IsAtMost most IsU32 l.least) (after_flag most false)
    (last_reads IsLeast (IsAtMost most IsU32) (at_most most u32_at) (λ (l : Limits). l.least) (λ least. record { least = least; greatest = None })
    (number_reads most) (λ n. (refl, refl))
    (λ l k. ap (λ (g : Option ℕ). let made : Limits = record { least = l.least; greatest = g } in made) (sym k)))
after_flag_reads most true = record {
  takes = λ bytes l rest e. let t = (both_reads most).takes bytes l rest e in (tt, t.1, (greatest_of l.greatest, t.0, t.2), t.3);
  again = λ l text rest _ h.
      let same : h.0 ≡ greatest_of l.greatest = sym (ap greatest_of h.1) in
      (both_reads most).again l text rest (h.1 ∙ ap (λ (n : ℕ). Some n) same) (subst (λ (n : ℕ). (IsAtMost most IsU32 l.least ⟫ IsU32 n) text) same h.2);
}

limits_reads : (most : ℕ) → Reads (IsLimits most) (limits_at most)
unfolding limits_at
limits_reads most = by_row_reads flag_rows (IsAfterFlag most) (after_flag most) refl (after_flag_reads most)

pub memory_type_reads : Reads IsMemoryType memory_type_at
unfolding memory_type_at
memory_type_reads = limits_reads 16

pub table_type_reads : Reads IsTableType table_type_at
unfolding table_type_at
table_type_reads = tagged_reads Any 0x70 (IsLimits 1024) (limits_at 1024) (limits_reads 1024)

pub global_type_reads : Reads IsGlobalType global_type_at
unfolding global_type_at
global_type_reads =
    then_reads Any IsValueType value_type_at (λ (g : GlobalType). g.value_type) _
    (λ t bytes. row_byte_at flag_rows bytes >>= λ v. Some (record { value_type = t; is_variable = v.0 }, v.1)) value_type_reads
    (λ t. last_reads (λ (g : GlobalType). Any g × (g.value_type ≡ t)) _ (row_byte_at flag_rows) (λ g. g.is_variable)
    (λ v. record { value_type = t; is_variable = v }) (row_reads flag_rows refl) (λ v. ((tt, refl), refl))
    (λ g k. ap (λ (t : ValueType). let made : GlobalType = record { value_type = t; is_variable = g.is_variable } in made) (sym k.1)))
