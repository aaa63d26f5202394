-- The sections that are built one after another stand in the order of their rows, and those of no section are left out.
use Rattle.std.proofs.Common.{◌≡◌, ℕ, ◌<◌, ◌≤◌, cond, ltb, List, [], ◌∷◌, ◌++◌, length, ◌⊎◌, inl, inr, refl, sym, ap, subst, ◌∙◌, append_assoc, lit<, arith}
use Rattle.std.proofs.lemmas.Bool.{cases_lt, lt-ltb, le-ltb}
use Rattle.wasm_profile.specs.declared.profile.Profile.{Profile}
use Rattle.grammar.specs.Spelling.{◌⟫◌, IsEmpty, IsText, Repeats}
use Rattle.grammar.specs.Table.{HasRow}
use Rattle.wasm_bytes.specs.Spelling.{IsU32}
use Rattle.wasm_decode.specs.declared.sections.Kind.{Kind}
use Rattle.wasm_decode.specs.declared.sections.Parts.{Parts}
use Rattle.wasm_decode.specs.SectionReading.{section_rows}
use Rattle.wasm_decode.specs.ModuleSpelling.{IsSection, IsCustom, IsCustoms}
use Rattle.wasm_decode.proofs.Built.{Fills, Section, custom, known, IsOne, Builds}

abbrev pub Rows : Type 0
Rows = List (ℕ × Kind)

-- ---- the rows from an id on

abbrev Ascends : ℕ → Rows → Type 0
Ascends n [] = Unit {0}
Ascends n (r ∷ rows) = (n < r.0) × Ascends r.0 rows

abbrev pub above : ℕ → Rows → Rows
above id [] = []
above id (r ∷ rows) = cond (ltb id r.0) (r ∷ rows) (above id rows)

ascends_from : (m n : ℕ) (rows : Rows) → m ≤ n → Ascends n rows → Ascends m rows
ascends_from m n [] le a = tt
ascends_from m n (r ∷ rows) le a = (omega (arith, a.0), a.1)

row_above : (n : ℕ) (rows : Rows) (id : ℕ) (k : Kind) → Ascends n rows → HasRow rows id k → n < id
row_above n [] id k a h = absurd h
row_above n (r ∷ rows) id k a (inl h) = omega (arith, a.0, h.0)
row_above n (r ∷ rows) id k a (inr h) = omega (arith, a.0, row_above r.0 rows id k a.1 h)

all_above : (n : ℕ) (rows : Rows) → Ascends n rows → above n rows ≡ rows
all_above n [] a = refl
all_above n (r ∷ rows) a = rw (lt-ltb n r.0 a.0) refl

rows_ascend : Ascends 0 section_rows
rows_ascend = (lit< tt, (lit< tt, (lit< tt, (lit< tt, (lit< tt, (lit< tt, (lit< tt, (lit< tt, (lit< tt, (lit< tt, tt))))))))))

-- ---- what is spelled row by row

-- a section that fills the next parts, or none
abbrev pub IsStep : ℕ → (Parts → List ℕ → Type 0) → Parts → Parts → List ℕ → Type 0
IsStep id Fill p next text = IsSection id (Fill next) text ⊎ ((p ≡ next) × IsEmpty text)

-- one step to the next parts with custom sections after it, and the rest
pub record IsStepped (id : ℕ) (Fill : Parts → List ℕ → Type 0) (p : Parts) (More : Parts → List ℕ → Type 0) (text : List ℕ) : Type 0 where
  pub next : Parts
  pub section : List ℕ
  pub customs : List ℕ
  pub back : List ℕ
  pub step : IsStep id Fill p next section
  pub custom : IsCustoms customs
  pub more : More next back
  pub split : text ≡ (section ++ customs) ++ back

module _ (profile : Profile) where
  abbrev pub Rest : Rows → Parts → Parts → List ℕ → Type 0
  Rest [] end p text = (p ≡ end) × IsEmpty text
  Rest (r ∷ rows) end p text = IsStepped r.0 (Fills profile r.1 p) p (Rest rows end) text

  no_customs : IsCustoms []
  no_customs = ([], refl)

  -- nothing for the first row
  left_out : (r : ℕ × Kind) (rows : Rows) (end p : Parts) (text : List ℕ) → Rest rows end p text → Rest (r ∷ rows) end p text
  left_out r rows end p text h = record {
    next = p;
    section = [];
    customs = [];
    back = text;
    step = inr (refl, refl);
    custom = no_customs;
    more = h;
    split = refl;
  }

  nothing_left : (rows : Rows) (p : Parts) → Rest rows p p []
  nothing_left [] p = (refl, refl)
  nothing_left (r ∷ rows) p = left_out r rows p p [] (nothing_left rows p)

  -- a section of a row, and the rows after it
  pub record IsTail (rows : Rows) (end p : Parts) (text : List ℕ) : Type 0 where
    pub front : List ℕ
    pub back : List ℕ
    pub custom : IsCustoms front
    pub rest : Rest rows end p back
    pub split : text ≡ front ++ back

  stepped : (rows : Rows) (last id : ℕ) (k : Kind) (p next end : Parts) (text back : List ℕ) → HasRow rows id k → last < id → Ascends 0 rows →
      IsSection id (Fills profile k p next) text → IsTail (above id rows) end next back → Rest (above last rows) end p (text ++ back)
  stepped [] last id k p next end text back h lt a s t = absurd h
  stepped (r ∷ rows) last id k p next end text back (inl h) lt a s t =
      let id_is : r.0 ≡ id = sym h.0 in
      let kind_is : r.1 ≡ k = sym h.1 in
      let passed : above id (r ∷ rows) ≡ rows = rw (le-ltb id r.0 (omega (arith, h.0))) (ap (λ (n : ℕ). above n rows) h.0 ∙ all_above r.0 rows a.1) in
      let spelled = subst (λ (n : ℕ). IsSection n (Fills profile r.1 p next) text) h.0 (subst (λ (x : Kind). IsSection id (Fills profile x p next) text) h.1 s)
      in
      let here : Rest (r ∷ rows) end p (text ++ back) = record {
        next = next;
        section = text;
        customs = t.front;
        back = t.back;
        step = inl spelled;
        custom = t.custom;
        more = subst (λ (rs : Rows). Rest rs end next t.back) passed t.rest;
        split = ap (λ (x : List ℕ). text ++ x) t.split ∙ sym (append_assoc text t.front t.back);
      } in
      rw (lt-ltb last r.0 (omega (arith, h.0))) here
  stepped (r ∷ rows) last id k p next end text back (inr h) lt a s t =
      let over : r.0 < id = row_above r.0 rows id k a.1 h in
      let passed : above id (r ∷ rows) ≡ above id rows = rw (le-ltb id r.0 (omega (arith, over))) refl in
      let after : Rest (above last rows) end p (text ++ back) =
      stepped rows last id k p next end text back h lt (ascends_from 0 r.0 rows (omega arith) a.1) s (subst (λ (rs : Rows). IsTail rs end next back) passed t)
      in
      elim (cases_lt last r.0) [
        | inl low ↦
            let all : above last rows ≡ rows = all_above last rows (ascends_from last r.0 rows (omega (arith, low)) a.1) in
            rw (lt-ltb last r.0 low) (left_out r rows end p (text ++ back) (subst (λ (rs : Rows). Rest rs end p (text ++ back)) all after))
        | inr far ↦ rw (le-ltb last r.0 far) after
      ]

  -- a custom section in front
  custom_first : (rows : Rows) (end p : Parts) (name text back : List ℕ) → IsCustom name text → IsTail rows end p back → IsTail rows end p (text ++ back)
  custom_first rows end p name text back h t = record {
    front = text ++ t.front;
    back = t.back;
    custom = (name ∷ t.custom.0, (text, t.front, h, t.custom.1, refl));
    rest = t.rest;
    split = ap (λ (x : List ℕ). text ++ x) t.split ∙ sym (append_assoc text t.front t.back);
  }

  pub in_order : (ss : List Section) (last : ℕ) (p end : Parts) (text : List ℕ) → Repeats IsOne ss text → Builds profile last p ss end →
      IsTail (above last section_rows) end p text
  in_order [] last p end text h b = record {
    front = [];
    back = text;
    custom = no_customs;
    rest = subst (λ (x : List ℕ). Rest (above last section_rows) end p x) (sym h)
        (subst (λ (e : Parts). Rest (above last section_rows) e p []) b (nothing_left (above last section_rows) p));
    split = refl;
  }
  in_order (custom content ∷ ss) last p end text h b =
      let tail = in_order ss last p end h.1 h.3 b.5 in
      let s = h.2 in
      let sized = s.3 in
      let named : IsCustom b.0 h.0 =
      (s.0, s.1, s.2, (content, (b.1, b.2, b.3, tt, b.4), subst (λ (x : List ℕ). (IsU32 (length x) ⟫ IsText x) s.1) sized.1 sized.2), s.4) in
      subst (λ (x : List ℕ). IsTail (above last section_rows) end p x) (sym h.4) (custom_first (above last section_rows) end p b.0 h.0 h.1 named tail)
  in_order (known id k content ∷ ss) last p end text h b =
      let tail = in_order ss id b.0 end h.1 h.3 b.4 in
      let s = h.2 in
      let sized = s.3 in
      let filled : IsSection id (Fills profile k p b.0) h.0 =
      (s.0, s.1, s.2, (content, b.3, subst (λ (x : List ℕ). (IsU32 (length x) ⟫ IsText x) s.1) sized.1 sized.2), s.4) in
      record {
        front = [];
        back = text;
        custom = no_customs;
        rest = subst (λ (x : List ℕ). Rest (above last section_rows) end p x) (sym h.4)
            (stepped section_rows last id k p b.0 end h.0 h.1 b.1 b.2 rows_ascend filled tail);
        split = refl;
      }

  -- ---- and what is spelled row by row is built so

  pub record AreBuilt (last : ℕ) (p end : Parts) (text : List ℕ) : Type 0 where
    pub sections : List Section
    pub spelled : Repeats IsOne sections text
    pub builds : Builds profile last p sections end

  after_customs : (names : List (List ℕ)) (last : ℕ) (p end : Parts) (front back : List ℕ) → Repeats IsCustom names front → AreBuilt last p end back →
      AreBuilt last p end (front ++ back)
  after_customs [] last p end front back h t = subst (λ (x : List ℕ). AreBuilt last p end (x ++ back)) (sym h) t
  after_customs (name ∷ names) last p end front back h t =
      let tail = after_customs names last p end h.1 back h.3 t in
      let s = h.2 in
      let c = s.3 in
      let n = c.1 in
      record {
        sections = custom c.0 ∷ tail.sections;
        spelled = (h.0, h.1 ++ back, (s.0, s.1, s.2, (c.0, refl, c.2), s.4), tail.spelled, ap (λ (x : List ℕ). x ++ back) h.4 ∙ append_assoc h.0 h.1 back);
        builds = (name, n.0, n.1, n.2, n.4, tail.builds);
      }

  pub rows_built : (rows : Rows) (last : ℕ) (p end : Parts) (text : List ℕ) → Ascends last rows →
      ((id : ℕ) (k : Kind) → HasRow rows id k → HasRow section_rows id k) → Rest rows end p text → AreBuilt last p end text
  rows_built [] last p end text a sub h = record { sections = []; spelled = h.1; builds = h.0 }
  rows_built (r ∷ rows) last p end text a sub h =
      let more = λ (id : ℕ) (k : Kind) (x : HasRow rows id k). sub id k (inr x) in
      let whole : text ≡ h.section ++ (h.customs ++ h.back) = h.split ∙ append_assoc h.section h.customs h.back in
      elim h.step [
        | inl s ↦
            let tail = after_customs h.custom.0 r.0 h.next end h.customs h.back h.custom.1 (rows_built rows r.0 h.next end h.back a.1 more h.more) in
            let c = s.3 in
            record {
              sections = known r.0 r.1 c.0 ∷ tail.sections;
              spelled = (h.section, h.customs ++ h.back, (s.0, s.1, s.2, (c.0, refl, c.2), s.4), tail.spelled, whole);
              builds = (h.next, sub r.0 r.1 (inl (refl, refl)), a.0, c.1, tail.builds);
            }
        | inr e ↦
            let tail = after_customs h.custom.0 last h.next end h.customs h.back h.custom.1
            (rows_built rows last h.next end h.back (ascends_from last r.0 rows (omega (arith, a.0)) a.1) more h.more) in
            let same : text ≡ h.customs ++ h.back = whole ∙ ap (λ (x : List ℕ). x ++ (h.customs ++ h.back)) e.1 in
            subst (λ (x : List ℕ). AreBuilt last p end x) (sym same) (subst (λ (q : Parts). AreBuilt last q end (h.customs ++ h.back)) (sym e.0) tail)
      ]

  pub all_built : (p end : Parts) (front back : List ℕ) → IsCustoms front → Rest section_rows end p back → AreBuilt 0 p end (front ++ back)
  all_built p end front back c h = after_customs c.0 0 p end front back c.1 (rows_built section_rows 0 p end back rows_ascend (λ id k x. x) h)
