-- The module that is read is spelled so, and each that is spelled is read.
use Rattle.std.proofs.Common.{◌≡◌, ℕ, zero, suc, ◌+◌, ◌-◌, ◌<◌, ◌≤◌, false, cond, eqb, ltb, List, [], ◌∷◌, ◌++◌, length, Some, None, refl, sym, ap, subst, ◌∙◌}
use Rattle.std.proofs.Common.{arith}
use Rattle.std.proofs.lemmas.Bool.{eqb-true, eq-eqb, ltb-true, ltb-false, lt-ltb, le-ltb}
use Rattle.std.proofs.lemmas.Option.{some_pair_parts, cond_some, same_Some}
use Rattle.std.proofs.lemmas.List.{length-append}
use Rattle.wasm_profile.specs.declared.profile.Profile.{Profile}
use Rattle.grammar.specs.Spelling.{◌⟫◌, IsText, Repeats}
use Rattle.grammar.specs.Reading.{◌>>=◌, text_at, whole_at}
use Rattle.grammar.specs.Table.{HasRow, row_at}
use Rattle.grammar.specs.Laws.Rows.{has_row, row_found, row_is_not}
use Rattle.grammar.specs.Reads.{Reads}
use Rattle.grammar.specs.Laws.Steps.{bind_some, guarded, refused_past, either}
use Rattle.grammar.specs.Laws.Wholes.{made_reads, text_reads, whole_takes, whole_again, measured_takes, measured_again}
use Rattle.wasm_bytes.specs.Spelling.{IsU32, IsName}
use Rattle.wasm_bytes.specs.Reading.{u32_at, name_at, sized_at}
use Rattle.wasm_bytes.specs.Laws.Names.{name_reads}
use Rattle.wasm_ast.specs.declared.module.Module.{Module}
use Rattle.wasm_decode.specs.declared.sections.Kind.{Kind}
use Rattle.wasm_decode.specs.declared.sections.Kind.TheVariants.{Types, Imports, TypeIndices, Tables, Memories, Globals, Exports, Elements, Functions, Data}
use Rattle.wasm_decode.specs.declared.sections.Parts.{Parts}
use Rattle.wasm_decode.specs.PartsOf.{no_parts}
use Rattle.wasm_decode.specs.SectionReading.{section_rows, fill_at, custom_at, section_at, sections_at}
use Rattle.wasm_decode.proofs.Built.{Fills, Section, custom, known, IsOne, Builds, IsBuilt}
use Rattle.wasm_decode.specs.ModuleReading.{header_bytes, module_at}
use Rattle.wasm_decode.proofs.TypeLaws.{u32_reads, list_reads, func_type_reads, table_type_reads, memory_type_reads}
use Rattle.wasm_decode.proofs.ExternalLaws.{import_reads, export_reads}
use Rattle.wasm_decode.proofs.FunctionLaws.{global_reads, functions_reads, element_reads, data_reads}
use Rattle.wasm_decode.proofs.Walks.{another, all_read}

module _ (profile : Profile) where
  -- ---- sections

  fill_reads : (k : Kind) (p : Parts) → Reads (Fills profile k p) (fill_at profile k p)
  fill_reads Types p = made_reads _ _ _ (list_reads 1024 _ _ func_type_reads)
  fill_reads Imports p = made_reads _ _ _ (list_reads 64 _ _ import_reads)
  fill_reads TypeIndices p = made_reads _ _ _ (list_reads 1024 _ _ u32_reads)
  fill_reads Tables p = made_reads _ _ _ (list_reads 64 _ _ table_type_reads)
  fill_reads Memories p = made_reads _ _ _ (list_reads 64 _ _ memory_type_reads)
  fill_reads Globals p = made_reads _ _ _ (list_reads 64 _ _ (global_reads profile))
  fill_reads Exports p = made_reads _ _ _ (list_reads 64 _ _ export_reads)
  fill_reads Elements p = made_reads _ _ _ (list_reads 64 _ _ (element_reads profile))
  fill_reads Functions p = made_reads _ _ _ (functions_reads profile p.type_indices)
  fill_reads Data p = made_reads _ _ _ (list_reads 64 _ _ (data_reads profile))

  -- what a section makes of the last id and the parts
  abbrev Adds : ℕ → Parts → Section → ℕ → Parts → Type 0
  Adds last p (custom content) id new = (name text rest : List ℕ) × IsName name text × (content ≡ text ++ rest) × (last ≡ id) × (p ≡ new)
  Adds last p (known b k content) id new = HasRow section_rows b k × (last < b) × Fills profile k p new content × (b ≡ id)

  builds : (last : ℕ) (p : Parts) (s : Section) (id : ℕ) (new : Parts) (ss : List Section) (end : Parts) → Adds last p s id new → Builds profile id new ss end →
      Builds profile last p (s ∷ ss) end
  builds last p (custom content) id new ss end a b =
      let at_id = subst (λ (i : ℕ). Builds profile i new ss end) (sym a.5) b in
      (a.0, a.1, a.2, a.3, a.4, subst (λ (q : Parts). Builds profile last q ss end) (sym a.6) at_id)
  builds last p (known c k content) id new ss end a b = (new, a.0, a.1, a.2, subst (λ (i : ℕ). Builds profile i new ss end) (sym a.3) b)

  adds : (last : ℕ) (p : Parts) (s : Section) (ss : List Section) (end : Parts) → Builds profile last p (s ∷ ss) end →
      (id : ℕ) × (new : Parts) × Adds last p s id new × Builds profile id new ss end
  adds last p (custom content) ss end b = (last, p, (b.0, b.1, b.2, b.3, b.4, refl, refl), b.5)
  adds last p (known c k content) ss end b = (c, b.0, (b.1, b.2, b.3, refl), b.4)

  -- one section at the front
  record IsNext (last : ℕ) (p : Parts) (bytes : List ℕ) (id : ℕ) (new : Parts) (rest : List ℕ) : Type 0 where
    section : Section
    text : List ℕ
    spelled : IsOne section text
    split : bytes ≡ text ++ rest
    added : Adds last p section id new

  section_takes : (last : ℕ) (p : Parts) (bytes : List ℕ) (id : ℕ) (new : Parts) (rest : List ℕ) → section_at profile last p bytes ≡ Some ((id, new), rest) →
      IsNext last p bytes id new rest
  unfolding section_at
  section_takes last p [] id new rest e = absurd cc
  section_takes last p (b ∷ bytes) id new rest e =
      let as_before = λ (u : Unit {0} × List ℕ). let made : (ℕ × Parts) × List ℕ = ((last, p), u.1) in Some made in
      let as_new = λ (n : Parts × List ℕ). let made : (ℕ × Parts) × List ℕ = ((b, n.0), n.1) in Some made in
      let filled = λ (k : Kind). cond (ltb last b) (sized_at (whole_at (fill_at profile k p)) bytes >>= as_new) None in
      either (eqb b 0) (sized_at custom_at bytes >>= as_before) (row_at section_rows b >>= filled) ((id, new), rest) (IsNext last p (b ∷ bytes) id new rest)
      (λ y named.
      let u = bind_some (sized_at custom_at bytes) as_before ((id, new), rest) named in
      let parts = some_pair_parts (last, p) (id, new) u.0.1 rest u.2 in
      let ids = some_pair_parts last id p new (ap (λ (x : ℕ × Parts). Some x) parts.0) in
      let t = measured_takes IsU32 u32_at u32_reads custom_at bytes u.0.0 u.0.1 u.1 in
      let n = bind_some (name_at t.1) (λ name. Some tt) u.0.0 t.2 in
      let name = name_reads.takes t.1 n.0.0 n.0.1 n.1 in
      record {
        section = custom t.1;
        text = b ∷ t.0;
        spelled = (b ∷ [], t.0, ap (λ (x : ℕ). x ∷ []) (eqb-true b 0 y), (t.1, refl, t.3), refl);
        split = ap (λ (x : List ℕ). b ∷ x) (t.4 ∙ ap (λ (x : List ℕ). t.0 ++ x) parts.1);
        added = (n.0.0, name.1, n.0.1, name.2, name.3, ids.0, ids.1);
      })
      (λ _ known_kind.
      let k = bind_some (row_at section_rows b) filled ((id, new), rest) known_kind in
      let g = guarded (ltb last b) (sized_at (whole_at (fill_at profile k.0 p)) bytes >>= as_new) ((id, new), rest) k.2 in
      let u = bind_some (sized_at (whole_at (fill_at profile k.0 p)) bytes) as_new ((id, new), rest) g.1 in
      let parts = some_pair_parts (b, u.0.0) (id, new) u.0.1 rest u.2 in
      let ids = some_pair_parts b id u.0.0 new (ap (λ (x : ℕ × Parts). Some x) parts.0) in
      let t = measured_takes IsU32 u32_at u32_reads (whole_at (fill_at profile k.0 p)) bytes u.0.0 u.0.1 u.1 in
      let fills = whole_takes (Fills profile k.0 p) (fill_at profile k.0 p) (fill_reads k.0 p) t.1 u.0.0 t.2 in
      record {
        section = known b k.0 t.1;
        text = b ∷ t.0;
        spelled = (b ∷ [], t.0, refl, (t.1, refl, t.3), refl);
        split = ap (λ (x : List ℕ). b ∷ x) (t.4 ∙ ap (λ (x : List ℕ). t.0 ++ x) parts.1);
        added = (has_row section_rows b k.0 k.1, ltb-true last b g.0, subst (λ (q : Parts). Fills profile k.0 p q t.1) ids.1 fills, ids.0);
      })
      e

  section_again : (last : ℕ) (p : Parts) (s : Section) (text : List ℕ) (id : ℕ) (new : Parts) (rest : List ℕ) → IsOne s text → Adds last p s id new →
      (0 < length text) × (section_at profile last p (text ++ rest) ≡ Some ((id, new), rest))
  unfolding section_at
  section_again last p (custom content) text id new rest h a =
      let c = h.3 in
      let sized = subst (λ (x : List ℕ). (IsU32 (length x) ⟫ IsText x) h.1) c.1 c.2 in
      let whole : text ≡ 0 ∷ h.1 = h.4 ∙ ap (λ (x : List ℕ). x ++ h.1) h.2 in
      let named : custom_at content ≡ Some tt = ap custom_at a.4 ∙ rw (name_reads.again a.0 a.1 a.2 tt a.3) refl in (
        rw whole (omega arith),
        ap (λ (x : List ℕ). section_at profile last p (x ++ rest)) whole ∙
            rw (measured_again IsU32 u32_at u32_reads custom_at content h.1 rest tt named sized, a.5, a.6) refl,
      )
  section_again last p (known b k content) text id new rest h a =
      let c = h.3 in
      let sized = subst (λ (x : List ℕ). (IsU32 (length x) ⟫ IsText x) h.1) c.1 c.2 in
      let whole : text ≡ b ∷ h.1 = h.4 ∙ ap (λ (x : List ℕ). x ++ h.1) h.2 in
      let found = row_found section_rows b k refl a.0 in
      let filled = whole_again (Fills profile k p) (fill_at profile k p) (fill_reads k p) content new a.2 in (
        rw whole (omega arith),
        ap (λ (x : List ℕ). section_at profile last p (x ++ rest)) whole ∙
            rw (
              row_is_not section_rows b 0 k refl found,
              found,
              lt-ltb last b a.1,
              measured_again IsU32 u32_at u32_reads (whole_at (fill_at profile k p)) content h.1 rest new filled sized,
              a.3,
            ) refl,
      )

  sections_take : (n last : ℕ) (p : Parts) (bytes : List ℕ) (end : Parts) → sections_at profile n last p bytes ≡ Some end →
      (ss : List Section) × Repeats IsOne ss bytes × Builds profile last p ss end
  unfolding sections_at
  sections_take zero last p [] end e = ([], refl, same_Some p end e)
  sections_take zero last p (b ∷ bytes) end e = absurd cc
  sections_take (suc n) last p [] end e = ([], refl, same_Some p end e)
  sections_take (suc n) last p (b ∷ bytes) end e =
      let s = bind_some (section_at profile last p (b ∷ bytes)) (λ s. sections_at profile n s.0.0 s.0.1 s.1) end e in
      let t = section_takes last p (b ∷ bytes) s.0.0.0 s.0.0.1 s.0.1 s.1 in
      let i = sections_take n s.0.0.0 s.0.0.1 s.0.1 end s.2 in
      (t.section ∷ i.0, (t.text, s.0.1, t.spelled, i.1, t.split), builds last p t.section s.0.0.0 s.0.0.1 i.0 end t.added i.2)

  sections_again : (ss : List Section) (n last : ℕ) (p : Parts) (bytes : List ℕ) (end : Parts) → Repeats IsOne ss bytes → Builds profile last p ss end →
      length bytes ≤ n → sections_at profile n last p bytes ≡ Some end
  sections_again [] n last p bytes end h b le = all_read profile n last p bytes h ∙ ap (λ (x : Parts). Some x) b
  sections_again (s ∷ ss) n last p bytes end h b le =
      let a = adds last p s ss end b in
      let one = section_again last p s h.0 a.0 a.1 h.1 h.2 a.2 in
      let here : section_at profile last p bytes ≡ Some ((a.0, a.1), h.1) = ap (section_at profile last p) h.4 ∙ one.1 in
      let total : length bytes ≡ length h.0 + length h.1 = ap length h.4 ∙ length-append h.0 h.1 in
      another profile n last p bytes a.0 a.1 h.1 (omega (arith, one.0)) le here ∙ sections_again ss (n - 1) a.0 a.1 h.1 end h.3 a.3 (omega (arith, one.0))

  -- ---- the module

  pub module_built : (bytes : List ℕ) (m : Module) → module_at profile bytes ≡ Some m → (length bytes ≤ 262144) × IsBuilt profile m bytes
  unfolding module_at
  module_built bytes m e =
      let whole = λ (p : Parts). cond (eqb (length p.type_indices) (length p.«module».functions)) (Some p.«module») None in
      let after = λ (h : Unit {0} × List ℕ). sections_at profile (length h.1) 0 no_parts h.1 >>= whole in
      let short = refused_past (ltb 262144 (length bytes)) (text_at header_bytes bytes >>= after) m e in
      let h = bind_some (text_at header_bytes bytes) after m short.1 in
      let s = bind_some (sections_at profile (length h.0.1) 0 no_parts h.0.1) whole m h.2 in
      let p = s.0 in
      let g = cond_some (eqb (length p.type_indices) (length p.«module».functions)) p.«module» m s.2 in
      let t = sections_take (length h.0.1) 0 no_parts h.0.1 p s.1 in
      let front = (text_reads header_bytes).takes bytes h.0.0 h.0.1 h.1 in
      let built : IsBuilt profile p.«module» bytes = record {
        sections = t.0;
        type_indices = p.type_indices;
        text = h.0.1;
        split = (front.1, h.0.1, front.2, refl, front.3);
        spelled = t.1;
        builds = t.2;
        counted = eqb-true _ _ g.0;
      } in
      (ltb-false 262144 (length bytes) short.0, subst (λ (x : Module). IsBuilt profile x bytes) g.1 built)

  pub module_read : (bytes : List ℕ) (m : Module) → length bytes ≤ 262144 → IsBuilt profile m bytes → module_at profile bytes ≡ Some m
  unfolding module_at
  module_read bytes m le h =
      let f = h.split in
      let short : ltb 262144 (length bytes) ≡ false = le-ltb 262144 (length bytes) le in
      let whole : bytes ≡ f.0 ++ h.text = f.4 ∙ ap (λ (x : List ℕ). f.0 ++ x) f.3 in
      let header : text_at header_bytes bytes ≡ Some (tt, h.text) = ap (text_at header_bytes) whole ∙ (text_reads header_bytes).again tt f.0 h.text tt f.2 in
      rw (
        short,
        header,
        sections_again h.sections (length h.text) 0 no_parts h.text (record { type_indices = h.type_indices; «module» = m }) h.spelled h.builds
            (omega arith),
        eq-eqb _ _ h.counted,
      ) refl
