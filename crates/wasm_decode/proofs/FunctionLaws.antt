-- The reading functions of globals, functions and segments read their spellings.
use Rattle.std.proofs.Common.{◌≡◌, ℕ, zero, suc, ◌+◌, ◌-◌, ◌^◌, ◌≤◌, Bool, cond, eqb, List, [], ◌∷◌, ◌++◌, length, map, replicate, Option, Some, None, refl}
use Rattle.std.proofs.Common.{sym, ap, ap₂, subst, ◌∙◌, append_assoc, arith}
use Rattle.std.proofs.lemmas.Bool.{eqb-true, eq-eqb}
use Rattle.std.proofs.lemmas.Option.{some_pair_parts}
use Rattle.std.proofs.lemmas.List.{length-append, length-replicate, length-map}
use Rattle.wasm_profile.specs.declared.profile.Profile.{Profile}
use Rattle.grammar.specs.Spelling.{◌⟫◌, IsByte, Repeats, IsAtMost}
use Rattle.grammar.specs.Reading.{◌>>=◌, byte_at, at_most}
use Rattle.grammar.specs.Reads.{Reads, ReadsIf, Any}
use Rattle.grammar.specs.Laws.Steps.{bind_some, guarded}
use Rattle.grammar.specs.Laws.Wholes.{byte_reads, then_reads, last_reads, known_reads, measured_reads}
use Rattle.wasm_bytes.specs.Spelling.{IsU32, IsList}
use Rattle.wasm_bytes.specs.Reading.{u32_at, list_at}
use Rattle.wasm_ast.specs.Code.{Code}
use Rattle.wasm_ast.specs.declared.types.ValueType.{ValueType}
use Rattle.wasm_ast.specs.declared.types.GlobalType.{GlobalType}
use Rattle.wasm_ast.specs.declared.module.Global.{Global}
use Rattle.wasm_ast.specs.declared.module.ElementSegment.{ElementSegment}
use Rattle.wasm_ast.specs.declared.module.Func.{Func}
use Rattle.wasm_ast.specs.declared.module.DataSegment.{DataSegment}
use Rattle.wasm_decode.specs.TypeSpelling.{IsGlobalType}
use Rattle.wasm_decode.specs.TypeReading.{value_type_at, global_type_at}
use Rattle.wasm_decode.specs.CodeSpelling.{IsExpression}
use Rattle.wasm_decode.specs.CodeReading.{expression_at}
use Rattle.wasm_decode.specs.FunctionSpelling.{Group, IsGroup, locals_of, IsLocals, IsFunctionCode, IsFunctions, IsGlobal, IsElementSegment, IsDataSegment}
use Rattle.wasm_decode.specs.FunctionReading.{groups_at, locals_at, code_parts_at, code_at, codes_at, functions_at, global_at, element_at, data_at}
use Rattle.wasm_decode.proofs.TypeLaws.{u32_reads, number_reads, list_reads, value_type_reads, global_type_reads}
use Rattle.wasm_decode.proofs.CodeAgain.{expression_reads}

-- ---- locals

groups_take : (n room : ℕ) (bytes : List ℕ) (ls : List ValueType) (rest : List ℕ) → groups_at room n bytes ≡ Some (ls, rest)
    → (gs : List Group) × (length gs ≡ n) × (ls ≡ locals_of gs) × (length ls ≤ room) × (text : List ℕ) × Repeats IsGroup gs text × (bytes ≡ text ++ rest)
unfolding groups_at
groups_take zero room bytes ls rest e =
    let parts = some_pair_parts [] ls bytes rest e in
    ([], refl, sym parts.0, omega (arith, ap length parts.0), [], refl, parts.1)
groups_take (suc n) room bytes ls rest e =
    let s = bind_some (at_most room u32_at bytes)
    (λ c. value_type_at c.1 >>= λ t. (groups_at (room - c.0) n t.1 >>= λ ls. Some (replicate c.0 t.0 ++ ls.0, ls.1))) (ls, rest) e in
    let c = s.0.0 in
    let t = bind_some (value_type_at s.0.1) (λ t. groups_at (room - c) n t.1 >>= λ ls. Some (replicate c t.0 ++ ls.0, ls.1)) (ls, rest) s.2 in
    let u = bind_some (groups_at (room - c) n t.0.1) (λ ls. Some (replicate c t.0.0 ++ ls.0, ls.1)) (ls, rest) t.2 in
    let parts = some_pair_parts (replicate c t.0.0 ++ u.0.0) ls u.0.1 rest u.2 in
    let one = (number_reads room).takes bytes c s.0.1 s.1 in
    let two = value_type_reads.takes s.0.1 t.0.0 t.0.1 t.1 in
    let i = groups_take n (room - c) t.0.1 u.0.0 u.0.1 u.1 in
    let few : length ls ≤ room = omega (arith, ap length parts.0, length-append (replicate c t.0.0) u.0.0, length-replicate c t.0.0, i.3, one.2.0) in
    let front = one.1 ++ two.1 in
    let text = front ++ i.4 in
    let split : bytes ≡ text ++ rest =
    one.3 ∙ ap (λ (x : List ℕ). one.1 ++ x) (two.3 ∙ ap (λ (x : List ℕ). two.1 ++ x) (i.6 ∙ ap (λ (x : List ℕ). i.4 ++ x) parts.1))
    ∙ sym (append_assoc front i.4 rest ∙ append_assoc one.1 two.1 (i.4 ++ rest))
    in (
      (c, t.0.0) ∷ i.0,
      ap suc i.1,
      sym parts.0 ∙
          ap (λ (x : List ValueType). replicate c t.0.0 ++ x) i.2,
      few,
      text,
      (front, i.4, (one.1, two.1, one.2.1, two.2, refl), i.5, refl),
      split,
    )

groups_again : (gs : List Group) (room : ℕ) (text rest : List ℕ) → length (locals_of gs) ≤ room → Repeats IsGroup gs text →
    groups_at room (length gs) (text ++ rest) ≡ Some (locals_of gs, rest)
unfolding groups_at
groups_again [] room text rest le h = ap (λ (x : List ℕ). Some ([], x ++ rest)) h
groups_again (g ∷ gs) room text rest le h =
    let f = h.2 in
    let total : length (locals_of (g ∷ gs)) ≡ g.0 + length (locals_of gs) =
    length-append (replicate g.0 g.1) (locals_of gs) ∙ ap (λ (n : ℕ). n + length (locals_of gs)) (length-replicate g.0 g.1) in
    let regrouped : text ++ rest ≡ f.0 ++ (f.1 ++ (h.1 ++ rest)) =
    ap (λ (x : List ℕ). x ++ rest) (h.4 ∙ ap (λ (x : List ℕ). x ++ h.1) f.4) ∙ append_assoc (f.0 ++ f.1) h.1 rest ∙ append_assoc f.0 f.1 (h.1 ++ rest) in
    ap (groups_at room (suc (length gs))) regrouped
    ∙ rw (
      (number_reads room).again g.0 f.0 (f.1 ++ (h.1 ++ rest)) tt (omega arith, f.2),
      value_type_reads.again g.1 f.1 (h.1 ++ rest) tt f.3,
      groups_again gs (room - g.0) h.1 rest (omega arith) h.3,
    ) refl

locals_take : (bytes : List ℕ) (ls : List ValueType) (rest : List ℕ) → locals_at bytes ≡ Some (ls, rest) →
    (text : List ℕ) × IsLocals ls text × (bytes ≡ text ++ rest)
unfolding locals_at
locals_take bytes ls rest e =
    let s = bind_some (u32_at bytes) (λ n. groups_at 192 n.0 n.1) (ls, rest) e in
    let one = u32_reads.takes bytes s.0.0 s.0.1 s.1 in
    let two = groups_take s.0.0 192 s.0.1 ls rest s.2 in (
      one.1 ++ two.4,
      (two.0, two.2, two.3, (one.1, two.4, subst (λ (n : ℕ). IsU32 n one.1) (sym two.1) one.2, two.5, refl)),
      one.3 ∙
          ap (λ (x : List ℕ). one.1 ++ x) two.6 ∙ sym (append_assoc one.1 two.4 rest),
    )

locals_again : (ls : List ValueType) (text rest : List ℕ) → IsLocals ls text → locals_at (text ++ rest) ≡ Some (ls, rest)
unfolding locals_at
locals_again ls text rest h =
    let k = h.3 in
    let regrouped : text ++ rest ≡ k.0 ++ (k.1 ++ rest) = ap (λ (x : List ℕ). x ++ rest) k.4 ∙ append_assoc k.0 k.1 rest in
    ap locals_at regrouped ∙ ap (λ (o : Option (ℕ × List ℕ)). o >>= λ n. groups_at 192 n.0 n.1) (u32_reads.again (length h.0) k.0 (k.1 ++ rest) tt k.2)
    ∙ groups_again h.0 192 k.1 rest (subst (λ (x : List ValueType). length x ≤ 192) h.1 h.2) k.3 ∙ ap (λ (x : List ValueType). Some (x, rest)) (sym h.1)

locals_reads : Reads IsLocals locals_at
locals_reads = record {
  takes = λ bytes ls rest e. let t = locals_take bytes ls rest e in (tt, t.0, t.1, t.2);
  again = λ ls text rest _ h. locals_again ls text rest h;
}

-- ---- functions

abbrev HasType : ℕ → Func → Type 0
HasType i f = f.type_index ≡ i

module _ (profile : Profile) where
  code_parts_reads : (i : ℕ) → Reads (λ f text. HasType i f × (IsLocals f.locals ⟫ IsExpression profile f.body) text) (code_parts_at profile i)
  code_parts_reads i =
      known_reads (HasType i) (λ f. IsLocals f.locals ⟫ IsExpression profile f.body) (code_parts_at profile i)
      (then_reads (HasType i) IsLocals locals_at (λ (f : Func). f.locals) (λ f. IsExpression profile f.body)
      (λ locals bytes. expression_at profile bytes >>= λ body. Some (record { type_index = i; locals = locals; body = body.0 }, body.1)) locals_reads
      (λ locals. last_reads (λ (f : Func). HasType i f × (f.locals ≡ locals)) (IsExpression profile) (expression_at profile) (λ f. f.body)
      (λ body. record { type_index = i; locals = locals; body = body }) (expression_reads profile) (λ body. ((refl, refl), refl))
      (λ f k. ap₂ (λ (i : ℕ) (ls : List ValueType). let made : Func = record { type_index = i; locals = ls; body = f.body } in made) (sym k.0) (sym k.1))))

  code_reads : (i : ℕ) → ReadsIf (HasType i) (IsFunctionCode profile) (code_at profile i)
  unfolding code_at
  code_reads i =
      let p = measured_reads IsU32 u32_at u32_reads (λ (f : Func) text. HasType i f × (IsLocals f.locals ⟫ IsExpression profile f.body) text)
      (code_parts_at profile i)
      (code_parts_reads i) in
      record {
        takes = λ bytes f rest e. let t = p.takes bytes f rest e in (t.2.1.0, t.1, (t.2.0, t.2.1.1, t.2.2), t.3);
        again = λ f text rest known h. p.again f text rest tt (h.0, (known, h.1), h.2);
      }

  pub codes_take : (is : List ℕ) (bytes : List ℕ) (fs : List Func) (rest : List ℕ) → codes_at profile is bytes ≡ Some (fs, rest)
      → (map (λ f. f.type_index) fs ≡ is) × (text : List ℕ) × Repeats (IsFunctionCode profile) fs text × (bytes ≡ text ++ rest)
  unfolding codes_at
  codes_take [] bytes fs rest e =
      let parts = some_pair_parts [] fs bytes rest e in
      (ap (map (λ (f : Func). f.type_index)) (sym parts.0), [], subst (λ (x : List Func). Repeats (IsFunctionCode profile) x []) parts.0 refl, parts.1)
  codes_take (i ∷ is) bytes fs rest e =
      let s = bind_some (code_at profile i bytes) (λ f. codes_at profile is f.1 >>= λ fs. Some (f.0 ∷ fs.0, fs.1)) (fs, rest) e in
      let t = bind_some (codes_at profile is s.0.1) (λ fs. Some (s.0.0 ∷ fs.0, fs.1)) (fs, rest) s.2 in
      let parts = some_pair_parts (s.0.0 ∷ t.0.0) fs t.0.1 rest t.2 in
      let one = (code_reads i).takes bytes s.0.0 s.0.1 s.1 in
      let two = codes_take is s.0.1 t.0.0 t.0.1 t.1 in (
        ap (map (λ (f : Func). f.type_index)) (sym parts.0) ∙ ap₂ (λ (x : ℕ) (xs : List ℕ). x ∷ xs) one.0 two.0,
        one.1 ++ two.1,
        subst (λ (x : List Func). Repeats (IsFunctionCode profile) x (one.1 ++ two.1)) parts.0 (one.1, two.1, one.2, two.2, refl),
        one.3 ∙ ap (λ (x : List ℕ). one.1 ++ x) (two.3 ∙ ap (λ (x : List ℕ). two.1 ++ x) parts.1) ∙ sym (append_assoc one.1 two.1 rest),
      )

  codes_again : (fs : List Func) (text rest : List ℕ) → Repeats (IsFunctionCode profile) fs text →
      codes_at profile (map (λ f. f.type_index) fs) (text ++ rest) ≡ Some (fs, rest)
  unfolding codes_at
  codes_again [] text rest h = ap (λ (x : List ℕ). Some ([], x ++ rest)) h
  codes_again (f ∷ fs) text rest h =
      let regrouped : text ++ rest ≡ h.0 ++ (h.1 ++ rest) = ap (λ (x : List ℕ). x ++ rest) h.4 ∙ append_assoc h.0 h.1 rest in
      ap (codes_at profile (f.type_index ∷ map (λ (f : Func). f.type_index) fs)) regrouped ∙
      rw ((code_reads f.type_index).again f h.0 (h.1 ++ rest) refl h.2, codes_again fs h.1 rest h.3) refl

  functions_take : (is : List ℕ) (bytes : List ℕ) (fs : List Func) (rest : List ℕ) → functions_at profile is bytes ≡ Some (fs, rest) →
      (text : List ℕ) × IsFunctions profile is fs text × (bytes ≡ text ++ rest)
  unfolding functions_at
  functions_take is bytes fs rest e =
      let s = bind_some (at_most 1024 u32_at bytes) (λ n. cond (eqb n.0 (length is)) (codes_at profile is n.1) None) (fs, rest) e in
      let g = guarded (eqb s.0.0 (length is)) (codes_at profile is s.0.1) (fs, rest) s.2 in
      let one = (number_reads 1024).takes bytes s.0.0 s.0.1 s.1 in
      let two = codes_take is s.0.1 fs rest g.1 in
      let many : s.0.0 ≡ length fs = eqb-true s.0.0 (length is) g.0 ∙ ap length (sym two.0) ∙ length-map fs (λ (f : Func). f.type_index) in (
        one.1 ++ two.1,
        (two.0, (one.1, two.1, subst (λ (n : ℕ). IsAtMost 1024 IsU32 n one.1) many one.2, two.2, refl)),
        one.3 ∙
            ap (λ (x : List ℕ). one.1 ++ x) two.3 ∙ sym (append_assoc one.1 two.1 rest),
      )

  functions_again : (is : List ℕ) (fs : List Func) (text rest : List ℕ) → IsFunctions profile is fs text →
      functions_at profile is (text ++ rest) ≡ Some (fs, rest)
  unfolding functions_at
  functions_again is fs text rest h =
      let k = h.1 in
      let many : length fs ≡ length is = sym (length-map fs (λ (f : Func). f.type_index)) ∙ ap length h.0 in
      let regrouped : text ++ rest ≡ k.0 ++ (k.1 ++ rest) = ap (λ (x : List ℕ). x ++ rest) k.4 ∙ append_assoc k.0 k.1 rest in
      ap (functions_at profile is) regrouped
      ∙ ap (λ (o : Option (ℕ × List ℕ)). o >>= λ n. cond (eqb n.0 (length is)) (codes_at profile is n.1) None)
      ((number_reads 1024).again (length fs) k.0 (k.1 ++ rest) tt k.2)
      ∙ ap (λ (b : Bool). cond b (codes_at profile is (k.1 ++ rest)) None) (eq-eqb (length fs) (length is) many)
      ∙ ap (λ (x : List ℕ). codes_at profile x (k.1 ++ rest)) (sym h.0) ∙ codes_again fs k.1 rest k.3

  pub functions_reads : (is : List ℕ) → Reads (IsFunctions profile is) (functions_at profile is)
  functions_reads is = record {
    takes = λ bytes fs rest e. let t = functions_take is bytes fs rest e in (tt, t.0, t.1, t.2);
    again = λ fs text rest _ h. functions_again is fs text rest h;
  }

  -- ---- data

  pub data_reads : Reads (IsDataSegment profile) (data_at profile)
  unfolding data_at
  data_reads =
      then_reads Any IsU32 u32_at (λ (d : DataSegment). d.memory) _
      (λ memory bytes. expression_at profile bytes >>= λ offset.
      (list_at (2 ^ 32 - 1) byte_at offset.1 >>= λ bytes. Some (record { memory = memory; offset = offset.0; bytes = bytes.0 }, bytes.1))) u32_reads
      (λ memory. then_reads (λ (d : DataSegment). Any d × (d.memory ≡ memory)) (IsExpression profile) (expression_at profile) (λ d. d.offset) _
      (λ offset bytes. list_at (2 ^ 32 - 1) byte_at bytes >>= λ bytes. Some (record { memory = memory; offset = offset; bytes = bytes.0 }, bytes.1))
      (expression_reads profile)
      (λ offset. last_reads (λ (d : DataSegment). (Any d × (d.memory ≡ memory)) × (d.offset ≡ offset)) (IsList (2 ^ 32 - 1) IsByte)
      (list_at (2 ^ 32 - 1) byte_at)
      (λ d. d.bytes) (λ bytes. record { memory = memory; offset = offset; bytes = bytes }) (list_reads (2 ^ 32 - 1) IsByte byte_at byte_reads)
      (λ bytes. (((tt, refl), refl), refl))
      (λ d k. ap₂ (λ (m : ℕ) (o : Code). let made : DataSegment = record { memory = m; offset = o; bytes = d.bytes } in made) (sym k.0.1) (sym k.1))))

  -- ---- globals and element segments

  pub global_reads : Reads (IsGlobal profile) (global_at profile)
  unfolding global_at
  global_reads =
      then_reads Any IsGlobalType global_type_at (λ (g : Global). g.global_type) _
      (λ type bytes. expression_at profile bytes >>= λ init. Some (record { global_type = type; initializer = init.0 }, init.1)) global_type_reads
      (λ type. last_reads (λ (g : Global). Any g × (g.global_type ≡ type)) (IsExpression profile) (expression_at profile) (λ g. g.initializer)
      (λ init. record { global_type = type; initializer = init }) (expression_reads profile) (λ init. ((tt, refl), refl))
      (λ g k. ap (λ (type : GlobalType). let made : Global = record { global_type = type; initializer = g.initializer } in made) (sym k.1)))

  pub element_reads : Reads (IsElementSegment profile) (element_at profile)
  unfolding element_at
  element_reads =
      then_reads Any IsU32 u32_at (λ (e : ElementSegment). e.table) _
      (λ table bytes. expression_at profile bytes >>= λ offset.
      (list_at 1024 u32_at offset.1 >>= λ functions. Some (record { table = table; offset = offset.0; functions = functions.0 }, functions.1))) u32_reads
      (λ table. then_reads (λ (e : ElementSegment). Any e × (e.table ≡ table)) (IsExpression profile) (expression_at profile) (λ e. e.offset) _
      (λ offset bytes. list_at 1024 u32_at bytes >>= λ functions. Some (record { table = table; offset = offset; functions = functions.0 }, functions.1))
      (expression_reads profile)
      (λ offset. last_reads (λ (e : ElementSegment). (Any e × (e.table ≡ table)) × (e.offset ≡ offset)) (IsList 1024 IsU32) (list_at 1024 u32_at)
      (λ e. e.functions) (λ functions. record { table = table; offset = offset; functions = functions }) (list_reads 1024 IsU32 u32_at u32_reads)
      (λ functions. (((tt, refl), refl), refl))
      (λ e k. ap₂ (λ (t : ℕ) (o : Code). let made : ElementSegment = record { table = t; offset = o; functions = e.functions } in made) (sym k.0.1)
      (sym k.1))))
