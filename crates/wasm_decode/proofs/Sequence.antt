-- The parts that sections build in order are those of the module that they spell.
use Rattle.std.proofs.Common.{◌≡◌, ℕ, List, [], ◌++◌, length, map, drop, inl, inr, refl, sym, ap, subst, ◌∙◌}
use Rattle.std.proofs.lemmas.List.{append-nil, nil_from_length}
use Rattle.wasm_profile.specs.declared.profile.Profile.{Profile}
use Rattle.grammar.specs.Spelling.{◌⟫◌, IsMade}
use Rattle.wasm_bytes.specs.Spelling.{IsU32, IsList}
use Rattle.wasm_ast.specs.declared.types.FuncType.{FuncType}
use Rattle.wasm_ast.specs.declared.types.Limits.{Limits}
use Rattle.wasm_ast.specs.declared.module.Import.{Import}
use Rattle.wasm_ast.specs.declared.module.Func.{Func}
use Rattle.wasm_ast.specs.declared.module.Global.{Global}
use Rattle.wasm_ast.specs.declared.module.Export.{Export}
use Rattle.wasm_ast.specs.declared.module.ElementSegment.{ElementSegment}
use Rattle.wasm_ast.specs.declared.module.DataSegment.{DataSegment}
use Rattle.wasm_ast.specs.declared.module.Module.{Module}
use Rattle.wasm_decode.specs.declared.sections.Parts.{Parts}
use Rattle.wasm_decode.specs.TypeSpelling.{IsFuncType, IsTableType, IsMemoryType}
use Rattle.wasm_decode.specs.ExternalSpelling.{IsImport, IsExport}
use Rattle.wasm_decode.specs.FunctionSpelling.{IsGlobal, IsFunctionCode, IsFunctions, IsElementSegment, IsDataSegment}
use Rattle.wasm_decode.specs.PartsOf.{no_parts}
use Rattle.wasm_decode.specs.SectionReading.{section_rows}
use Rattle.wasm_decode.specs.ModuleSpelling.{IsPart, IsSections}
use Rattle.wasm_decode.proofs.Order.{IsStepped, Rest}

-- ---- one step

module _ {A : Type 0} (id : ℕ) (p : Parts) (fill : List A → Parts) (Spells : List A → List ℕ → Type 0) (More : Parts → List ℕ → Type 0) (text : List ℕ)
    (none : p ≡ fill []) where
  -- the list of the part, and what comes after it
  taken : (P : Type 0) → IsStepped id (IsMade fill Spells) p More text →
      ((xs : List A) (front back : List ℕ) → IsPart id Spells xs front → More (fill xs) back → text ≡ front ++ back → P) → P
  taken P h go_on =
      elim h.step [
        | inl s ↦
            let c = s.3 in
            let made = c.1 in
            go_on made.0 (h.section ++ h.customs) h.back (h.section, h.customs, inl (s.0, s.1, s.2, (c.0, made.2, c.2), s.4), h.custom, refl)
            (subst (λ (q : Parts). More q h.back) made.1 h.more) h.split
        | inr e ↦ go_on [] (h.section ++ h.customs) h.back (h.section, h.customs, inr (refl, e.1), h.custom, refl)
            (subst (λ (q : Parts). More q h.back) (sym e.0 ∙ none) h.more) h.split
      ]

  given : (xs : List A) → (IsPart id Spells xs ⟫ More (fill xs)) text → IsStepped id (IsMade fill Spells) p More text
  given xs h =
      let part = h.2 in
      record {
        next = fill xs;
        section = part.0;
        customs = part.1;
        back = h.1;
        step = elim part.2 [
          | inl s ↦ let c = s.3 in inl (s.0, s.1, s.2, (c.0, (xs, refl, c.1), c.2), s.4)
          | inr e ↦ inr (none ∙ ap fill (sym e.0), e.1)
        ];
        custom = part.3;
        more = h.3;
        split = h.4 ∙ ap (λ (x : List ℕ). x ++ h.1) part.4;
      }

-- ---- the code of functions, with and without their types

abbrev types_of : List Func → List ℕ
types_of functions = map (λ f. f.type_index) functions

module _ (profile : Profile) where
  code_alone : (is : List ℕ) (fs : List Func) (text : List ℕ) → IsPart 10 (IsFunctions profile is) fs text →
      IsPart 10 (IsList 1024 (IsFunctionCode profile)) fs text
  code_alone is fs text h =
      elim h.2 [
        | inl s ↦ let c = s.3 in (h.0, h.1, inl (s.0, s.1, s.2, (c.0, c.1.1, c.2), s.4), h.3, h.4)
        | inr e ↦ (h.0, h.1, inr e, h.3, h.4)
      ]

  with_their_types : (fs : List Func) (text : List ℕ) → IsPart 10 (IsList 1024 (IsFunctionCode profile)) fs text →
      IsPart 10 (IsFunctions profile (types_of fs)) fs text
  with_their_types fs text h =
      elim h.2 [
        | inl s ↦ let c = s.3 in (h.0, h.1, inl (s.0, s.1, s.2, (c.0, (refl, c.1), c.2), s.4), h.3, h.4)
        | inr e ↦ (h.0, h.1, inr e, h.3, h.4)
      ]

  types_known : (is : List ℕ) (fs : List Func) (text : List ℕ) → IsPart 10 (IsFunctions profile is) fs text → length is ≡ length fs → is ≡ types_of fs
  types_known is fs text h many =
      elim h.2 [
        | inl s ↦ let c = s.3 in sym c.1.0
        | inr e ↦ nil_from_length is (many ∙ ap length e.0) ∙ sym (ap types_of e.0)
      ]

  -- ---- all steps

  abbrev parts : List FuncType → List Import → List ℕ → List Limits → List Limits → List Global → List Export → List ElementSegment → List Func →
      List DataSegment → Parts
  parts types imports type_indices tables memories globals exports elements functions segments =
      record {
        type_indices = type_indices;
        «module» = record {
          types = types;
          imports = imports;
          functions = functions;
          tables = tables;
          memories = memories;
          globals = globals;
          exports = exports;
          elements = elements;
          «data» = segments;
        };
      }

  -- the parts are spelled, and the types are those of the functions if there are as many
  pub record InSections (end : Parts) (text : List ℕ) : Type 0 where
    pub spelled : IsSections profile end.type_indices end.«module» text
    pub types : length end.type_indices ≡ length end.«module».functions → end.type_indices ≡ types_of end.«module».functions

  pub in_sections : (end : Parts) (text : List ℕ) → Rest profile section_rows end no_parts text → InSections end text
  in_sections end text h =
      let P = InSections end text in
      taken 1 (parts [] [] [] [] [] [] [] [] [] []) (λ x. parts x [] [] [] [] [] [] [] [] []) (IsList 1024 IsFuncType) (Rest profile (drop 1 section_rows) end)
      text refl
      P h (λ x1 f1 b1 s1 more1 e1.
      taken 2 (parts x1 [] [] [] [] [] [] [] [] []) (λ x. parts x1 x [] [] [] [] [] [] [] []) (IsList 64 IsImport) (Rest profile (drop 2 section_rows) end) b1
      refl P
      more1 (λ x2 f2 b2 s2 more2 e2.
      taken 3 (parts x1 x2 [] [] [] [] [] [] [] []) (λ x. parts x1 x2 x [] [] [] [] [] [] []) (IsList 1024 IsU32) (Rest profile (drop 3 section_rows) end) b2
      refl P more2
      (λ x3 f3 b3 s3 more3 e3.
      taken 4 (parts x1 x2 x3 [] [] [] [] [] [] []) (λ x. parts x1 x2 x3 x [] [] [] [] [] []) (IsList 64 IsTableType) (Rest profile (drop 4 section_rows) end)
      b3 refl P
      more3 (λ x4 f4 b4 s4 more4 e4.
      taken 5 (parts x1 x2 x3 x4 [] [] [] [] [] []) (λ x. parts x1 x2 x3 x4 x [] [] [] [] []) (IsList 64 IsMemoryType) (Rest profile (drop 5 section_rows) end)
      b4 refl P
      more4 (λ x5 f5 b5 s5 more5 e5.
      taken 6 (parts x1 x2 x3 x4 x5 [] [] [] [] []) (λ x. parts x1 x2 x3 x4 x5 x [] [] [] []) (IsList 64 (IsGlobal profile))
      (Rest profile (drop 6 section_rows) end) b5 refl P
      more5 (λ x6 f6 b6 s6 more6 e6.
      taken 7 (parts x1 x2 x3 x4 x5 x6 [] [] [] []) (λ x. parts x1 x2 x3 x4 x5 x6 x [] [] []) (IsList 64 IsExport) (Rest profile (drop 7 section_rows) end) b6
      refl P
      more6 (λ x7 f7 b7 s7 more7 e7.
      taken 9 (parts x1 x2 x3 x4 x5 x6 x7 [] [] []) (λ x. parts x1 x2 x3 x4 x5 x6 x7 x [] []) (IsList 64 (IsElementSegment profile))
      (Rest profile (drop 8 section_rows) end) b7
      refl P more7 (λ x8 f8 b8 s8 more8 e8.
      taken 10 (parts x1 x2 x3 x4 x5 x6 x7 x8 [] []) (λ x. parts x1 x2 x3 x4 x5 x6 x7 x8 x []) (IsFunctions profile x3) (Rest profile (drop 9 section_rows) end)
      b8 refl P more8
      (λ x9 f9 b9 s9 more9 e9.
      taken 11 (parts x1 x2 x3 x4 x5 x6 x7 x8 x9 []) (λ x. parts x1 x2 x3 x4 x5 x6 x7 x8 x9 x) (IsList 64 (IsDataSegment profile))
      (Rest profile (drop 10 section_rows) end) b9 refl
      P more9 (λ x10 f10 b10 s10 more10 e10.
      let last : IsPart 11 (IsList 64 (IsDataSegment profile)) x10 b9 =
      subst (λ (x : List ℕ). IsPart 11 (IsList 64 (IsDataSegment profile)) x10 x)
      (sym (append-nil f10) ∙ ap (λ (x : List ℕ). f10 ++ x) (sym more10.1) ∙ sym e10) s10 in
      let made : InSections (parts x1 x2 x3 x4 x5 x6 x7 x8 x9 x10) text =
      record {
        spelled = (
          f1,
          b1,
          s1,
          (
            f2,
            b2,
            s2,
            (
              f3,
              b3,
              s3,
              (f4, b4, s4, (f5, b5, s5, (f6, b6, s6, (f7, b7, s7, (f8, b8, s8, (f9, b9, code_alone x3 x9 f9 s9, last, e9), e8), e7), e6), e5), e4),
              e3,
            ),
            e2,
          ),
          e1,
        );
        types = types_known x3 x9 f9 s9;
      } in
      subst (λ (e : Parts). InSections e text) more10.0 made))))))))))

  pub from_sections : (m : Module) (text : List ℕ) → IsSections profile (types_of m.functions) m text →
      Rest profile section_rows (record { type_indices = types_of m.functions; «module» = m }) no_parts text
  from_sections m text h =
      let end : Parts = record { type_indices = types_of m.functions; «module» = m } in
      let q1 = h in
      let q2 = q1.3 in
      let q3 = q2.3 in
      let q4 = q3.3 in
      let q5 = q4.3 in
      let q6 = q5.3 in
      let q7 = q6.3 in
      let q8 = q7.3 in
      let q9 = q8.3 in
      let q10 = q9.3 in
      let r10 = given 11 (parts m.types m.imports end.type_indices m.tables m.memories m.globals m.exports m.elements m.functions [])
      (λ x. parts m.types m.imports end.type_indices m.tables m.memories m.globals m.exports m.elements m.functions x) (IsList 64 (IsDataSegment profile))
      (Rest profile (drop 10 section_rows) end) q9.1 refl m.«data» (q9.1, [], q10, (refl, refl), sym (append-nil q9.1)) in
      let r9 = given 10 (parts m.types m.imports end.type_indices m.tables m.memories m.globals m.exports m.elements [] [])
      (λ x. parts m.types m.imports end.type_indices m.tables m.memories m.globals m.exports m.elements x []) (IsFunctions profile end.type_indices)
      (Rest profile (drop 9 section_rows) end) q8.1 refl m.functions (q9.0, q9.1, with_their_types m.functions q9.0 q9.2, r10, q9.4) in
      let r8 = given 9 (parts m.types m.imports end.type_indices m.tables m.memories m.globals m.exports [] [] [])
      (λ x. parts m.types m.imports end.type_indices m.tables m.memories m.globals m.exports x [] []) (IsList 64 (IsElementSegment profile))
      (Rest profile (drop 8 section_rows) end) q7.1 refl m.elements (q8.0, q8.1, q8.2, r9, q8.4) in
      let r7 = given 7 (parts m.types m.imports end.type_indices m.tables m.memories m.globals [] [] [] [])
      (λ x. parts m.types m.imports end.type_indices m.tables m.memories m.globals x [] [] []) (IsList 64 IsExport) (Rest profile (drop 7 section_rows) end)
      q6.1 refl
      m.exports (q7.0, q7.1, q7.2, r8, q7.4) in
      let r6 = given 6 (parts m.types m.imports end.type_indices m.tables m.memories [] [] [] [] [])
      (λ x. parts m.types m.imports end.type_indices m.tables m.memories x [] [] [] []) (IsList 64 (IsGlobal profile)) (Rest profile (drop 6 section_rows) end)
      q5.1 refl
      m.globals (q6.0, q6.1, q6.2, r7, q6.4) in
      let r5 = given 5 (parts m.types m.imports end.type_indices m.tables [] [] [] [] [] [])
      (λ x. parts m.types m.imports end.type_indices m.tables x [] [] [] [] []) (IsList 64 IsMemoryType) (Rest profile (drop 5 section_rows) end) q4.1 refl
      m.memories
      (q5.0, q5.1, q5.2, r6, q5.4) in
      let r4 = given 4 (parts m.types m.imports end.type_indices [] [] [] [] [] [] []) (λ x. parts m.types m.imports end.type_indices x [] [] [] [] [] [])
      (IsList 64 IsTableType) (Rest profile (drop 4 section_rows) end) q3.1 refl m.tables (q4.0, q4.1, q4.2, r5, q4.4) in
      let r3 = given 3 (parts m.types m.imports [] [] [] [] [] [] [] []) (λ x. parts m.types m.imports x [] [] [] [] [] [] []) (IsList 1024 IsU32)
      (Rest profile (drop 3 section_rows) end) q2.1 refl end.type_indices (q3.0, q3.1, q3.2, r4, q3.4) in
      let r2 = given 2 (parts m.types [] [] [] [] [] [] [] [] []) (λ x. parts m.types x [] [] [] [] [] [] [] []) (IsList 64 IsImport)
      (Rest profile (drop 2 section_rows) end) q1.1 refl m.imports (q2.0, q2.1, q2.2, r3, q2.4) in
      let r1 = given 1 (parts [] [] [] [] [] [] [] [] [] []) (λ x. parts x [] [] [] [] [] [] [] [] []) (IsList 1024 IsFuncType)
      (Rest profile (drop 1 section_rows) end)
      text refl m.types (q1.0, q1.1, q1.2, r2, q1.4) in
      r1
