-- A whole is read if its parts are.
use Rattle.std.proofs.Common.{◌≡◌, ℕ, zero, suc, ◌≤◌, true, false, cond, eqb, ltb, leb, List, [], ◌∷◌, ◌++◌, length, take, drop, Option, Some, None, refl, sym}
use Rattle.std.proofs.Common.{ap, ap₂, subst, ◌∙◌, append_assoc, arith}
use Rattle.std.proofs.lemmas.Bool.{eqb-true, eq-eqb, leb-true, le-leb, ltb-false, le-ltb}
use Rattle.std.proofs.lemmas.Option.{some_pair_parts, cond_some}
use Rattle.std.proofs.lemmas.List.{append-nil, nil_from_length, take_at, drop_at, take-append-drop, length-append, length-take}
use Rattle.grammar.specs.Spelling.{◌⟫◌, IsByte, IsText, IsMade, IsAtMost, Repeats, IsCounted, IsMeasured}
use Rattle.grammar.specs.Reading.{◌>>=◌, byte_at, made_at, tagged_at, text_at, at_most, repeats_at, counted_at, whole_at, within_at, measured_at}
use Rattle.grammar.specs.Table.{IsRowByte, IsByRow, row_at, row_byte_at, by_row_at, is_unique}
use Rattle.grammar.specs.Laws.Rows.{has_row, row_found}
use Rattle.grammar.specs.Reads.{ReadsIf, Reads, Any, SpellsOnce}
use Rattle.grammar.specs.Laws.Steps.{bind_some, guarded, refused_past, byte_taken}

-- ---- what is read is spelled once

pub spells_once : {A : Type 0} (Spells : A → List ℕ → Type 0) (read : List ℕ → Option (A × List ℕ)) → Reads Spells read → SpellsOnce Spells
spells_once Spells read p a b front back rest more h k e =
    some_pair_parts a b rest more (sym (p.again a front rest tt h) ∙ ap read e ∙ p.again b back more tt k)

-- ---- bytes

pub byte_reads : Reads IsByte byte_at
byte_reads = record {
  takes = λ bytes b rest e. (tt, b ∷ [], refl, byte_taken bytes b rest e);
  again = λ b text rest _ h. ap (λ (x : List ℕ). byte_at (x ++ rest)) h;
}

-- a byte of a table, in which no byte stands twice
pub row_reads : {K : Type 0} (rows : List (ℕ × K)) → is_unique rows ≡ true → Reads (IsRowByte rows) (row_byte_at rows)
row_reads {K = K} rows unique = record {
  takes = λ bytes k rest e.
      let s = bind_some (byte_at bytes) (λ b. row_at rows b.0 >>= λ k. Some (k, b.1)) (k, rest) e in
      let t = bind_some (row_at rows s.0.0) (λ k. Some (k, s.0.1)) (k, rest) s.2 in
      let parts = some_pair_parts t.0 k s.0.1 rest t.2 in
      let is : row_at rows s.0.0 ≡ Some k = t.1 ∙ ap (λ (x : K). Some x) parts.0 in
      (tt, s.0.0 ∷ [], (s.0.0, has_row rows s.0.0 k is, refl), byte_taken bytes s.0.0 s.0.1 s.1 ∙ ap (λ (r : List ℕ). s.0.0 ∷ r) parts.1);
  again = λ k text rest _ h.
      ap (λ (x : List ℕ). row_byte_at rows (x ++ rest)) h.2 ∙ rw (row_found rows h.0 k unique h.1) refl;
}

-- a byte of a table, and then what its value says
pub by_row_reads : {K A : Type 0} (rows : List (ℕ × K)) (IsAfter : K → A → List ℕ → Type 0) (after : K → List ℕ → Option (A × List ℕ)) → is_unique rows ≡ true →
    ((k : K) → Reads (IsAfter k) (after k)) → Reads (IsByRow rows IsAfter) (by_row_at rows after)
by_row_reads {K = K} rows IsAfter after unique p = record {
  takes = λ bytes x rest e.
      let s = bind_some (row_byte_at rows bytes) (λ k. after k.0 k.1) (x, rest) e in
      let one = (row_reads rows unique).takes bytes s.0.0 s.0.1 s.1 in
      let two = (p s.0.0).takes s.0.1 x rest s.2 in (
        tt,
        one.1 ++ two.1,
        (one.2.0, s.0.0, one.2.1, (one.1, two.1, one.2.2, two.2, refl)),
        one.3 ∙ ap (λ (r : List ℕ). one.1 ++ r) two.3 ∙
            sym (append_assoc one.1 two.1 rest),
      );
  again = λ x text rest _ h.
      let s = h.3 in
      let regrouped : text ++ rest ≡ s.0 ++ (s.1 ++ rest) = ap (λ (r : List ℕ). r ++ rest) s.4 ∙ append_assoc s.0 s.1 rest in
      ap (by_row_at rows after) regrouped
      ∙ ap (λ (o : Option (K × List ℕ)). o >>= λ k. after k.0 k.1) ((row_reads rows unique).again h.1 s.0 (s.1 ++ rest) tt (h.0, h.2, s.2))
      ∙ (p h.1).again x s.1 rest tt s.3;
}

-- a byte in front
pub tagged_reads : {A : Type 0} (Known : A → Type 0) (b : ℕ) (Spells : A → List ℕ → Type 0) (read : List ℕ → Option (A × List ℕ)) → ReadsIf Known Spells read →
    ReadsIf Known (λ x. IsByte b ⟫ Spells x) (tagged_at b read)
tagged_reads Known b Spells read p = record {
  takes = λ bytes x rest e.
      let s = bind_some (byte_at bytes) (λ tag. cond (eqb tag.0 b) (read tag.1) None) (x, rest) e in
      let g = guarded (eqb s.0.0 b) (read s.0.1) (x, rest) s.2 in
      let one = p.takes s.0.1 x rest g.1 in
      let front : bytes ≡ b ∷ s.0.1 = byte_taken bytes s.0.0 s.0.1 s.1 ∙ ap (λ (n : ℕ). n ∷ s.0.1) (eqb-true _ _ g.0) in
      (one.0, b ∷ one.1, (b ∷ [], one.1, refl, one.2, refl), front ∙ ap (λ (x : List ℕ). b ∷ x) one.3);
  again = λ x text rest known h.
      let regrouped : text ++ rest ≡ b ∷ (h.1 ++ rest) = ap (λ (x : List ℕ). x ++ rest) (h.4 ∙ ap (λ (x : List ℕ). x ++ h.1) h.2) in
      ap (tagged_at b read) regrouped ∙ rw (eq-eqb b b refl) (p.again x h.1 rest known h.3);
}

-- those bytes
pub text_reads : (bytes : List ℕ) → Reads (λ (_ : Unit {0}). IsText bytes) (text_at bytes)
text_reads [] = record {
  takes = λ bytes x rest e. let parts = some_pair_parts tt x bytes rest e in (tt, [], refl, parts.1);
  again = λ x text rest _ h. ap (λ (r : List ℕ). text_at [] (r ++ rest)) h;
}
text_reads (b ∷ more) =
    let p = tagged_reads Any b (λ (_ : Unit {0}). IsText more) (text_at more) (text_reads more) in
    record {
      takes = λ bytes x rest e.
          let t = p.takes bytes x rest e in
          (tt, t.1, t.2.4 ∙ ap₂ (λ (x y : List ℕ). x ++ y) t.2.2 t.2.3, t.3);
      again = λ x text rest _ h. p.again x text rest tt (b ∷ [], more, refl, refl, h);
    }

-- ---- parts of a value, one after another

-- a part, and then what depends on it
pub then_reads : {A B : Type 0} (Known : B → Type 0) (First : A → List ℕ → Type 0) (first : List ℕ → Option (A × List ℕ)) (get : B → A)
    (Second : B → List ℕ → Type 0) (second : A → List ℕ → Option (B × List ℕ))
    → Reads First first → ((a : A) → ReadsIf (λ b. Known b × (get b ≡ a)) Second (second a))
    → ReadsIf Known (λ b. First (get b) ⟫ Second b) (λ bytes. first bytes >>= λ x. second x.0 x.1)
then_reads {A = A} Known First first get Second second p q = record {
  takes = λ bytes b rest e.
      let s = bind_some (first bytes) (λ x. second x.0 x.1) (b, rest) e in
      let one = p.takes bytes s.0.0 s.0.1 s.1 in
      let two = (q s.0.0).takes s.0.1 b rest s.2 in (
        two.0.0,
        one.1 ++ two.1,
        (one.1, two.1, subst (λ a. First a one.1) (sym two.0.1) one.2, two.2, refl),
        one.3 ∙ ap (λ (x : List ℕ). one.1 ++ x) two.3 ∙
            sym (append_assoc one.1 two.1 rest),
      );
  again = λ b text rest known h.
      let regrouped : text ++ rest ≡ h.0 ++ (h.1 ++ rest) = ap (λ (x : List ℕ). x ++ rest) h.4 ∙ append_assoc h.0 h.1 rest in
      ap (λ (x : List ℕ). first x >>= λ x. second x.0 x.1) regrouped
      ∙ ap (λ (o : Option (A × List ℕ)). o >>= λ x. second x.0 x.1) (p.again (get b) h.0 (h.1 ++ rest) tt h.2)
      ∙ (q (get b)).again b h.1 rest (known, refl) h.3;
}

-- the last part, after which the value is made
pub last_reads : {A B : Type 0} (Known : B → Type 0) (Last : A → List ℕ → Type 0) (last : List ℕ → Option (A × List ℕ)) (get : B → A) (make : A → B)
    → Reads Last last → ((a : A) → Known (make a) × (get (make a) ≡ a)) → ((b : B) → Known b → make (get b) ≡ b)
    → ReadsIf Known (λ b. Last (get b)) (λ bytes. last bytes >>= λ x. Some (make x.0, x.1))
last_reads {A = A} Known Last last get make p made only = record {
  takes = λ bytes b rest e.
      let s = bind_some (last bytes) (λ x. Some (make x.0, x.1)) (b, rest) e in
      let one = p.takes bytes s.0.0 s.0.1 s.1 in
      let parts = some_pair_parts (make s.0.0) b s.0.1 rest s.2 in
      let known = made s.0.0 in
      (subst Known parts.0 known.0, one.1, subst (λ a. Last a one.1) (sym known.1 ∙ ap get parts.0) one.2, one.3 ∙ ap (λ (x : List ℕ). one.1 ++ x) parts.1);
  again = λ b text rest known h.
      ap (λ (o : Option (A × List ℕ)). o >>= λ x. Some (make x.0, x.1)) (p.again (get b) text rest tt h) ∙ ap (λ b. Some (b, rest)) (only b known);
}

-- a value made of one that is read
pub made_reads : {A B : Type 0} (make : A → B) (Spells : A → List ℕ → Type 0) (read : List ℕ → Option (A × List ℕ)) → Reads Spells read →
    Reads (IsMade make Spells) (made_at make read)
made_reads {A = A} make Spells read p = record {
  takes = λ bytes b rest e.
      let s = bind_some (read bytes) (λ a. Some (make a.0, a.1)) (b, rest) e in
      let parts = some_pair_parts (make s.0.0) b s.0.1 rest s.2 in
      let one = p.takes bytes s.0.0 s.0.1 s.1 in
      (tt, one.1, (s.0.0, sym parts.0, one.2), one.3 ∙ ap (λ (r : List ℕ). one.1 ++ r) parts.1);
  again = λ b text rest _ h.
      ap (λ (o : Option (A × List ℕ)). o >>= λ a. Some (make a.0, a.1)) (p.again h.0 text rest tt h.2) ∙ ap (λ b. Some (b, rest)) (sym h.1);
}

-- a number that is small enough
pub bounded_reads : (most : ℕ) (Spells : ℕ → List ℕ → Type 0) (read : List ℕ → Option (ℕ × List ℕ)) → Reads Spells read →
    Reads (IsAtMost most Spells) (at_most most read)
bounded_reads most Spells read p = record {
  takes = λ bytes n rest e.
      let s = bind_some (read bytes) (λ n. cond (leb n.0 most) (Some n) None) (n, rest) e in
      let g = cond_some (leb s.0.0 most) s.0 (n, rest) s.2 in
      let same = some_pair_parts s.0.0 n s.0.1 rest (ap (λ (y : ℕ × List ℕ). Some y) g.1) in
      let one = p.takes bytes s.0.0 s.0.1 s.1 in (
        tt,
        one.1,
        (subst (λ (m : ℕ). m ≤ most) same.0 (leb-true _ _ g.0), subst (λ (m : ℕ). Spells m one.1) same.0 one.2),
        one.3 ∙
            ap (λ (r : List ℕ). one.1 ++ r) same.1,
      );
  again = λ n text rest _ h.
      ap (λ (o : Option (ℕ × List ℕ)). o >>= λ n. cond (leb n.0 most) (Some n) None) (p.again n text rest tt h.1) ∙ rw (le-leb _ _ h.0) refl;
}

-- what is known of a value as a part of its spelling
pub known_reads : {A : Type 0} (Known : A → Type 0) (Spells : A → List ℕ → Type 0) (read : List ℕ → Option (A × List ℕ)) → ReadsIf Known Spells read →
    Reads (λ x text. Known x × Spells x text) read
known_reads Known Spells read p = record {
  takes = λ bytes x rest e. let t = p.takes bytes x rest e in (tt, t.1, (t.0, t.2), t.3);
  again = λ x text rest _ h. p.again x text rest h.0 h.1;
}

-- ---- lists

pub repeats_takes : {A : Type 0} (Spells : A → List ℕ → Type 0) (read : List ℕ → Option (A × List ℕ)) → Reads Spells read →
    (n : ℕ) (bytes : List ℕ) (xs : List A) (rest : List ℕ) → repeats_at read n bytes ≡ Some (xs, rest)
    → (length xs ≡ n) × (text : List ℕ) × Repeats Spells xs text × (bytes ≡ text ++ rest)
unfolding repeats_at
repeats_takes Spells read p zero bytes xs rest e =
    let parts = some_pair_parts [] xs bytes rest e in
    (ap length (sym parts.0), [], subst (λ ys. Repeats Spells ys []) parts.0 refl, parts.1)
repeats_takes {A = A} Spells read p (suc n) bytes xs rest e =
    let s = bind_some (read bytes) (λ x. repeats_at read n x.1 >>= λ xs. Some (x.0 ∷ xs.0, xs.1)) (xs, rest) e in
    let t = bind_some (repeats_at read n s.0.1) (λ xs. Some (s.0.0 ∷ xs.0, xs.1)) (xs, rest) s.2 in
    let one = p.takes bytes s.0.0 s.0.1 s.1 in
    let two = repeats_takes Spells read p n s.0.1 t.0.0 t.0.1 t.1 in
    let parts = some_pair_parts (s.0.0 ∷ t.0.0) xs t.0.1 rest t.2 in (
      sym (ap length parts.0) ∙
          ap suc two.0,
      one.1 ++ two.1,
      subst (λ ys. Repeats Spells ys (one.1 ++ two.1)) parts.0 (one.1, two.1, one.2, two.2, refl),
      one.3 ∙
          ap (λ (x : List ℕ). one.1 ++ x) (two.3 ∙ ap (λ (x : List ℕ). two.1 ++ x) parts.1) ∙ sym (append_assoc one.1 two.1 rest),
    )

pub repeats_again : {A : Type 0} (Spells : A → List ℕ → Type 0) (read : List ℕ → Option (A × List ℕ)) → Reads Spells read → (xs : List A) (text rest : List ℕ) →
    Repeats Spells xs text → repeats_at read (length xs) (text ++ rest) ≡ Some (xs, rest)
unfolding repeats_at
repeats_again Spells read p [] text rest h = ap (λ (x : List ℕ). Some ([], x ++ rest)) h
repeats_again Spells read p (x ∷ xs) text rest h =
    let regrouped : text ++ rest ≡ h.0 ++ (h.1 ++ rest) = ap (λ (x : List ℕ). x ++ rest) h.4 ∙ append_assoc h.0 h.1 rest in
    ap (repeats_at read (suc (length xs))) regrouped ∙ rw (p.again x h.0 (h.1 ++ rest) tt h.2, repeats_again Spells read p xs h.1 rest h.3) refl

pub counted_reads : {A : Type 0} (IsCount : ℕ → List ℕ → Type 0) (count : List ℕ → Option (ℕ × List ℕ)) → Reads IsCount count
    → (most : ℕ) (Spells : A → List ℕ → Type 0) (read : List ℕ → Option (A × List ℕ)) → Reads Spells read →
    Reads (IsCounted IsCount most Spells) (counted_at count most read)
unfolding counted_at
counted_reads IsCount count counts most Spells read p = record {
  takes = λ bytes xs rest e.
      let s = bind_some (at_most most count bytes) (λ n. repeats_at read n.0 n.1) (xs, rest) e in
      let one = (bounded_reads most IsCount count counts).takes bytes s.0.0 s.0.1 s.1 in
      let two = repeats_takes Spells read p s.0.0 s.0.1 xs rest s.2 in (
        tt,
        one.1 ++ two.1,
        (one.1, two.1, subst (λ n. IsAtMost most IsCount n one.1) (sym two.0) one.2, two.2, refl),
        one.3 ∙
            ap (λ (x : List ℕ). one.1 ++ x) two.3 ∙ sym (append_assoc one.1 two.1 rest),
      );
  again = λ xs text rest _ h.
      let regrouped : text ++ rest ≡ h.0 ++ (h.1 ++ rest) = ap (λ (x : List ℕ). x ++ rest) h.4 ∙ append_assoc h.0 h.1 rest in
      ap (counted_at count most read) regrouped
      ∙ ap (λ (o : Option (ℕ × List ℕ)). o >>= λ n. repeats_at read n.0 n.1)
      ((bounded_reads most IsCount count counts).again (length xs) h.0 (h.1 ++ rest) tt h.2)
      ∙ repeats_again Spells read p xs h.1 rest h.3;
}

-- ---- all of the bytes

pub whole_takes : {A : Type 0} (Spells : A → List ℕ → Type 0) (read : List ℕ → Option (A × List ℕ)) → Reads Spells read → (bytes : List ℕ) (x : A) →
    whole_at read bytes ≡ Some x → Spells x bytes
whole_takes Spells read p bytes x e =
    let s = bind_some (read bytes) (λ x. cond (eqb (length x.1) 0) (Some x.0) None) x e in
    let g = cond_some (eqb (length s.0.1) 0) s.0.0 x s.2 in
    let t = p.takes bytes s.0.0 s.0.1 s.1 in
    let nothing : s.0.1 ≡ [] = nil_from_length s.0.1 (eqb-true _ _ g.0) in
    let all : t.1 ≡ bytes = sym (append-nil t.1) ∙ ap (λ (r : List ℕ). t.1 ++ r) (sym nothing) ∙ sym t.3 in
    subst (λ (r : List ℕ). Spells x r) all (subst (λ y. Spells y t.1) g.1 t.2)

pub whole_again : {A : Type 0} (Spells : A → List ℕ → Type 0) (read : List ℕ → Option (A × List ℕ)) → Reads Spells read → (bytes : List ℕ) (x : A) →
    Spells x bytes → whole_at read bytes ≡ Some x
whole_again Spells read p bytes x h = ap (whole_at read) (sym (append-nil bytes)) ∙ rw (p.again x bytes [] tt h) refl

-- ---- a length, and that many bytes

module _ {A : Type 0} (IsLength : ℕ → List ℕ → Type 0) (measure : List ℕ → Option (ℕ × List ℕ)) (measures : Reads IsLength measure) where
  pub measured_takes : (content_of : List ℕ → Option A) (bytes : List ℕ) (x : A) (rest : List ℕ) → measured_at measure content_of bytes ≡ Some (x, rest)
      → (text : List ℕ) × (content : List ℕ) × (content_of content ≡ Some x) × (IsLength (length content) ⟫ IsText content) text × (bytes ≡ text ++ rest)
  unfolding measured_at
  measured_takes content_of bytes x rest e =
      let s = bind_some (measure bytes) (λ n. within_at content_of n.0 n.1) (x, rest) e in
      let n = s.0 in
      let made = λ (x : A). Some (x, drop n.0 n.1) in
      let g = refused_past (ltb (length n.1) n.0) (content_of (take n.0 n.1) >>= made) (x, rest) s.2 in
      let u = bind_some (content_of (take n.0 n.1)) made (x, rest) g.1 in
      let parts = some_pair_parts u.0 x (drop n.0 n.1) rest u.2 in
      let t = measures.takes bytes n.0 n.1 s.1 in
      let long : n.0 ≤ length n.1 = ltb-false _ _ g.0 in
      let len : n.0 ≡ length (take n.0 n.1) = omega (arith, length-take n.0 n.1) in
      let split : n.1 ≡ take n.0 n.1 ++ rest = sym (take-append-drop n.0 n.1) ∙ ap (λ (r : List ℕ). take n.0 n.1 ++ r) parts.1 in (
        t.1 ++ take n.0 n.1,
        take n.0 n.1,
        u.1 ∙
            ap (λ (y : A). Some y) parts.0,
        (t.1, take n.0 n.1, subst (λ (m : ℕ). IsLength m t.1) len t.2, refl, refl),
        t.3 ∙
            ap (λ (r : List ℕ). t.1 ++ r) split ∙ sym (append_assoc t.1 (take n.0 n.1) rest),
      )

  pub measured_again : (content_of : List ℕ → Option A) (content text rest : List ℕ) (x : A) → content_of content ≡ Some x →
      (IsLength (length content) ⟫ IsText content) text
      → measured_at measure content_of (text ++ rest) ≡ Some (x, rest)
  unfolding measured_at
  measured_again content_of content text rest x h k =
      let whole : text ++ rest ≡ k.0 ++ (content ++ rest) =
      ap (λ (r : List ℕ). r ++ rest) (k.4 ∙ ap (λ (r : List ℕ). k.0 ++ r) k.3) ∙ append_assoc k.0 content rest in
      let long : ltb (length (content ++ rest)) (length content) ≡ false = le-ltb _ _ (omega (arith, length-append content rest)) in
      ap (measured_at measure content_of) whole ∙
      ap (λ (o : Option (ℕ × List ℕ)). o >>= λ n. within_at content_of n.0 n.1) (measures.again (length content) k.0 (content ++ rest) tt k.2)
      ∙ rw (long, take_at content rest (length content) refl, drop_at content rest (length content) refl, h) refl

  pub measured_reads : (Spells : A → List ℕ → Type 0) (read : List ℕ → Option (A × List ℕ)) → Reads Spells read →
      Reads (λ x. IsMeasured IsLength (Spells x)) (measured_at measure (whole_at read))
  measured_reads Spells read p = record {
    takes = λ bytes x rest e. let t = measured_takes (whole_at read) bytes x rest e in (tt, t.0, (t.1, whole_takes Spells read p t.1 x t.2, t.3), t.4);
    again = λ x text rest _ h. measured_again (whole_at read) h.0 text rest x (whole_again Spells read p h.0 x h.1) h.2;
  }
