-- What stands at the place of a cursor stands there in all the bytes.
use Rattle.std.proofs.Common.{◌≡◌, ℕ, zero, suc, slice_get, ◌+◌, ◌-◌, ◌/◌, ◌≤◌, ◌^◌, ◌↔◌, inl, inr, true, false, cond, ltb, List, [], ◌∷◌, ◌++◌, length, take}
use Rattle.std.proofs.Common.{drop, slice_index_or, Option, Some, None, refl, sym, ap, ◌∙◌, subst, append_assoc, arith}
use Rattle.std.specs.Prelude.{◌⊎◌, Bool}
use Rattle.std.specs.Str.{is_utf8}
use Rattle.std.proofs.lemmas.List.{drop_at, length-append, length-take, take-append-drop}
use Rattle.std.proofs.lemmas.Bool.{cases_lt, ltb-false, le-ltb, lt-ltb}
use Rattle.grammar.specs.Reading.{◌>>=◌}
use Rattle.wasm_bytes.specs.declared.fault.ByteFault.{ByteFault}
use Rattle.wasm_bytes.specs.declared.fault.FaultKind.{FaultKind}
use Rattle.wasm_bytes.specs.declared.fault.FaultKind.TheVariants.{EndedEarly, BadNumber, NotUtf8}
use Rattle.wasm_bytes.specs.Spelling.{IsU32, IsS32, IsS64}
use Rattle.wasm_bytes.specs.Reading.{u32_at, name_at}
use Rattle.wasm_bytes.specs.Faults.{InFront, Begins, unsigned_fault, signed_fault, u32_fault, s32_fault, s64_fault, content_fault, name_fault, fault_offset}
use Rattle.wasm_bytes.specs.Faults.{fault_at}
use Rattle.wasm_bytes.specs.Laws.Leb.{unsigned_takes, unsigned_reads}
use Rattle.wasm_bytes.specs.Refusals.{u32_refusal, s32_refusal, s64_refusal}
use Rattle.wasm_bytes.proofs.Items.{nothing}
use Rattle.wasm_bytes.specs.Place.{Place, IsPlace, offset_of}
use Rattle.wasm_bytes.specs.Stands.{Spans, Never, NoNumber, NoText, Says}

-- of two splittings of one list, one cuts later
cut_later : (a b c d : List ℕ) → a ++ b ≡ c ++ d → ((m : List ℕ) × (a ≡ c ++ m)) ⊎ ((m : List ℕ) × (c ≡ a ++ m))
cut_later a b [] d e = inl (a, refl)
cut_later [] b (y ∷ c) d e = inr (y ∷ c, refl)
cut_later (x ∷ a) b (y ∷ c) d e =
    let head : x ≡ y = cc in
    let tail : a ++ b ≡ c ++ d = cc in
    elim (cut_later a b c d tail) [ inl m ↦ inl (m.0, rw (head, m.1) refl) | inr m ↦ inr (m.0, rw (head, m.1) refl) ]

never_longer : {A : Type 0} (Spells : A → List ℕ → Type 0) (bytes more : List ℕ) → Never Spells bytes → Never Spells (bytes ++ more)
never_longer {A} Spells bytes more h = (front, begins)
  where
    front : ¬ InFront Spells (bytes ++ more)
    front f = elim (cut_later bytes more f.1 f.2 f.4) [
      | inl m ↦ h.0 (f.0, f.1, m.0, f.3, m.1)
      | inr m ↦ h.1 (f.0, m.0, subst (Spells f.0) m.1 f.3)
    ]

    begins : ¬ Begins Spells (bytes ++ more)
    begins b = h.1 (b.0, more ++ b.1, subst (Spells b.0) (append_assoc bytes more b.1) b.2)

-- the byte that is spelled from an offset on is the one at that offset
byte_is : (bytes : List ℕ) (k b : ℕ) (rest : List ℕ) → drop k bytes ≡ b ∷ rest → slice_get bytes k ≡ Some b
byte_is [] zero b rest e = absurd cc
byte_is [] (suc k) b rest e = absurd cc
byte_is (x ∷ bytes) zero b rest e = let same : x ≡ b = cc in ap Some same
byte_is (x ∷ bytes) (suc k) b rest e = byte_is bytes k b rest e

module _ (whole : List ℕ) (end : ℕ) (rest : List ℕ) (p : IsPlace whole end rest) where
  -- the bytes from the place on
  pub from_place : drop (end - length rest) whole ≡ rest ++ p.after
  from_place =
      let offset : end - length rest ≡ length p.before = omega (arith, p.offset) in
      rw (offset, p.parts) (drop_at p.before (rest ++ p.after) (length p.before) refl)

  pub moved : (text left : List ℕ) → rest ≡ text ++ left → IsPlace whole end left
  moved text left e =
      record {
        before = p.before ++ text;
        after = p.after;
        parts = p.parts ∙ ap (λ r. p.before ++ (r ++ p.after)) e ∙ ap (λ r. p.before ++ r) (append_assoc text left p.after) ∙
            sym (append_assoc p.before text (left ++ p.after));
        offset = omega (arith, p.offset, ap (λ (r : List ℕ). length r) e, length-append text left, length-append p.before text);
      }

  pub spanned : {A : Type 0} (Spells : A → List ℕ → Type 0) (x : A) (text left : List ℕ) → Spells x text → rest ≡ text ++ left →
      Spans Spells x whole (end - length rest) (end - length left)
  spanned Spells x text left s e = (
    text,
    left ++ p.after,
    s,
    from_place ∙ ap (λ r. r ++ p.after) e ∙
        append_assoc text left p.after,
    omega (arith, p.offset, ap (λ (r : List ℕ). length r) e, length-append text left),
  )

  pub never_here : {A : Type 0} (Spells : A → List ℕ → Type 0) → Never Spells rest → Never Spells (drop (end - length rest) whole)
  never_here Spells h = subst (Never Spells) (sym from_place) (never_longer Spells rest p.after h)

  pub within : end ≤ length whole
  within = omega (arith, p.offset, ap (λ (r : List ℕ). length r) p.parts, length-append p.before (rest ++ p.after), length-append rest p.after)

-- what is left fits, and stands at a place
abbrev pub Fits : List ℕ → ℕ → List ℕ → Type 0
Fits whole end rest = (length rest ≤ end) × IsPlace whole end rest

pub fits_after : (whole : List ℕ) (end : ℕ) (rest text left : List ℕ) → Fits whole end rest → rest ≡ text ++ left → Fits whole end left
fits_after whole end rest text left f e =
    let m = moved whole end rest f.1 text left e in (omega (arith, m.offset), m)

abbrev place_of : List ℕ → ℕ → List ℕ → Place
place_of whole end rest = record { whole = whole; end = end; rest = rest }

pub spans : {A : Type 0} (Spells : A → List ℕ → Type 0) (x : A) (whole : List ℕ) (end : ℕ) (rest text left : List ℕ) (p : Place) → IsPlace whole end rest →
    place_of whole end rest ≡ p → Spells x text → rest ≡ text ++ left → Spans Spells x p.whole (offset_of p) (end - length left)
spans Spells x whole end rest text left p i v s e =
    subst (λ p. Spans Spells x p.whole (offset_of p) (end - length left)) v (spanned whole end rest i Spells x text left s e)

not_text : (bound : ℕ) (bytes : List ℕ) → unsigned_fault bound bytes ≡ NotUtf8 → ⊥
unfolding unsigned_fault
not_text bound [] e = absurd cc
not_text bound (b ∷ rest) e =
    elim (cases_lt b 128) [
      | inl lt ↦ absurd (let f : BadNumber ≡ NotUtf8 = rw (lt-ltb b 128 lt) at e in cc)
      | inr far ↦ elim (cases_lt 128 bound) [
        | inl wide ↦ not_text (bound / 128) rest (rw (le-ltb b 128 far, lt-ltb 128 bound wide) at e)
        | inr narrow ↦ absurd (let f : BadNumber ≡ NotUtf8 = rw (le-ltb b 128 far, le-ltb 128 bound narrow) at e in cc)
      ]
    ]

not_text_signed : (half : ℕ) (bytes : List ℕ) → signed_fault half bytes ≡ NotUtf8 → ⊥
unfolding signed_fault
not_text_signed half [] e = absurd cc
not_text_signed half (b ∷ rest) e =
    elim (cases_lt b 128) [
      | inl lt ↦ absurd (let f : BadNumber ≡ NotUtf8 = rw (lt-ltb b 128 lt) at e in cc)
      | inr far ↦ elim (cases_lt 64 half) [
        | inl wide ↦ not_text_signed (half / 128) rest (rw (le-ltb b 128 far, lt-ltb 64 half wide) at e)
        | inr narrow ↦ absurd (let f : BadNumber ≡ NotUtf8 = rw (le-ltb b 128 far, le-ltb 64 half narrow) at e in cc)
      ]
    ]

-- a number that is not bytes' beginning and does not begin with them is never spelled
never_of : {A : Type 0} (Spells : A → List ℕ → Type 0) (bytes : List ℕ) (fault : FaultKind) → ¬ InFront Spells bytes →
    ((fault ≡ EndedEarly) ↔ Begins Spells bytes) → fault ≡ BadNumber → Never Spells bytes
never_of Spells bytes fault none law e = (none, λ b. let ended : fault ≡ EndedEarly = law.1 b in let f : EndedEarly ≡ BadNumber = sym ended ∙ e in cc)

module _ (whole : List ℕ) (end : ℕ) (rest : List ℕ) (i : IsPlace whole end rest) where
  abbrev here : Place
  here = place_of whole end rest

  abbrev SaysHere : FaultKind → Type 0
  SaysHere kind = Says kind (fault_offset here kind) end whole

  number_says : {A : Type 0} (Spells : A → List ℕ → Type 0) (fault : FaultKind) → ¬ InFront Spells rest → ((fault ≡ EndedEarly) ↔ Begins Spells rest) →
      (fault ≡ NotUtf8 → ⊥) → (Never Spells (drop (offset_of here) whole) → NoNumber (drop (offset_of here) whole)) → (kind : FaultKind) → kind ≡ fault →
      SaysHere kind
  number_says Spells fault none law text wrap EndedEarly e = refl
  number_says Spells fault none law text wrap BadNumber e =
      wrap (never_here whole end rest i Spells (never_of Spells rest fault none law (sym e)))
  number_says Spells fault none law text wrap NotUtf8 e = absurd (text (sym e))

  u32_here : ¬ InFront IsU32 rest → (kind : FaultKind) → kind ≡ u32_fault rest → SaysHere kind
  u32_here none kind e =
      number_says IsU32 (u32_fault rest) none (u32_refusal rest none) (not_text (2 ^ 32) rest) (λ n. inl n) kind e

  long_or_not : (b u : Bool) (x : List ℕ × List ℕ) (kind : FaultKind) → kind ≡ cond b EndedEarly NotUtf8 → cond b None (cond u (Some x) None) ≡ None →
      (kind ≡ EndedEarly) ⊎ ((kind ≡ NotUtf8) × (b ≡ false) × (u ≡ false))
  long_or_not true u x kind k r = inl k
  long_or_not false true x kind k r = absurd cc
  long_or_not false false x kind k r = inr (k, refl, refl)

  text_here : (n : ℕ × List ℕ) → u32_at rest ≡ Some n → ltb (length n.1) n.0 ≡ false → is_utf8 (take n.0 n.1) ≡ false → NoText (drop (offset_of here) whole)
  text_here n e long utf =
      let t = unsigned_takes (2 ^ 32) rest n.0 n.1 e in
      let fits : n.0 ≤ length n.1 = ltb-false _ _ long in
      let len : n.0 ≡ length (take n.0 n.1) = omega (arith, fits, length-take n.0 n.1) in
      let split : n.1 ≡ take n.0 n.1 ++ drop n.0 n.1 = sym (take-append-drop n.0 n.1) in
      let name = take n.0 n.1 in
      let more = drop n.0 n.1 in
      let all : n.1 ++ i.after ≡ name ++ (more ++ i.after) = ap (λ r. r ++ i.after) split ∙ append_assoc name more i.after in (
        t.0,
        name,
        more ++ i.after,
        subst (λ n. IsU32 n t.0) len t.1,
        from_place whole end rest i ∙ ap (λ r. r ++ i.after) t.2 ∙ append_assoc t.0 n.1 i.after ∙
            ap (λ r. t.0 ++ r) all,
        utf,
      )

  abbrev content : ℕ × List ℕ → Option (List ℕ × List ℕ)
  content n =
      cond (ltb (length n.1) n.0) None (cond (is_utf8 (take n.0 n.1)) (Some (take n.0 n.1, drop n.0 n.1)) None)

  name_here : (o : Option (ℕ × List ℕ)) → u32_at rest ≡ o → (kind : FaultKind) → kind ≡ content_fault rest o → (o >>= content) ≡ None → SaysHere kind
  name_here None e kind k r = u32_here (nothing IsU32 u32_at (unsigned_reads (2 ^ 32)) rest e) kind k
  name_here (Some n) e kind k r =
      elim (long_or_not (ltb (length n.1) n.0) (is_utf8 (take n.0 n.1)) (take n.0 n.1, drop n.0 n.1) kind k r) [
        | inl ended ↦ subst SaysHere (sym ended) refl
        | inr h ↦ subst SaysHere (sym h.0) (text_here n e h.1 h.2)
      ]

  pub says_name : (kind : FaultKind) → kind ≡ name_fault rest → name_at rest ≡ None → SaysHere kind
  unfolding name_fault name_at
  says_name kind k r = name_here (u32_at rest) refl kind k r

  -- the fault of a cursor that stands here
  pub told : (p : Place) → here ≡ p → (e : ByteFault) (kind : FaultKind) → e ≡ fault_at p kind → SaysHere kind → Says e.kind e.offset p.end p.whole
  told p v e kind f s =
      rw f (subst (λ (p : Place). Says kind (fault_offset p kind) p.end p.whole) v s)

  pub says_u32 : ¬ InFront IsU32 rest → (kind : FaultKind) → kind ≡ u32_fault rest → SaysHere kind
  says_u32 none kind e = u32_here none kind e

  pub says_s32 : ¬ InFront IsS32 rest → (kind : FaultKind) → kind ≡ s32_fault rest → SaysHere kind
  says_s32 none kind e =
      number_says IsS32 (s32_fault rest) none (s32_refusal rest none) (not_text_signed (2 ^ 31) rest) (λ n. inr (inl n)) kind e

  pub says_s64 : ¬ InFront IsS64 rest → (kind : FaultKind) → kind ≡ s64_fault rest → SaysHere kind
  says_s64 none kind e =
      number_says IsS64 (s64_fault rest) none (s64_refusal rest none) (not_text_signed (2 ^ 63) rest) (λ n. inr (inr n)) kind e

-- a byte, and those after it
pub byte_and_rest : (bytes : List ℕ) → 1 ≤ length bytes → bytes ≡ (slice_index_or bytes 0 0 ∷ []) ++ take (length bytes - 1) (drop 1 bytes)
byte_and_rest [] le = absurd (omega (arith, le))
byte_and_rest (b ∷ bytes) le = ap (λ (r : List ℕ). b ∷ r) (sym (take-is (length (b ∷ bytes) - 1) bytes (omega arith)))
  where
    take-is : (n : ℕ) (xs : List ℕ) → n ≡ length xs → take n xs ≡ xs
    take-is n [] e = rw e refl
    take-is n (x ∷ xs) e = rw e (ap (λ (r : List ℕ). x ∷ r) (take-is (length xs) xs refl))

-- the next byte, and the offset behind it
pub byte_here : (whole : List ℕ) (end : ℕ) (rest : List ℕ) (b : ℕ) (left : List ℕ) (p : Place) → IsPlace whole end rest → place_of whole end rest ≡ p →
    rest ≡ (b ∷ []) ++ left → (slice_get p.whole (offset_of p) ≡ Some b) × (end - length left ≡ offset_of p + 1)
byte_here whole end rest b left p i v e =
    subst (λ p. (slice_get p.whole (offset_of p) ≡ Some b) × (end - length left ≡ offset_of p + 1)) v (
      byte_is whole (end - length rest) b (left ++ i.after) (from_place whole end rest i ∙ ap (λ r. r ++ i.after) e),
      omega (arith, i.offset, ap (λ (r : List ℕ). length r) e),
    )
