-- What a section is read as, by its id and by its size.
use Rattle.std.proofs.Common.{◌≡◌, ◌<◌, ◌≤◌, ℕ, false, List, [], ◌∷◌, length, take, drop, Option, Some, None, refl, arith}
use Rattle.std.specs.Prelude.{◌==◌}
use Rattle.std.proofs.lemmas.Bool.{lt-ltb, le-ltb, ne_eqb}
use Rattle.wasm_profile.specs.declared.profile.Profile.{Profile}
use Rattle.grammar.specs.Reading.{byte_at, whole_at, measured_at}
use Rattle.grammar.specs.Table.{row_at}
use Rattle.wasm_bytes.specs.Reading.{u32_at, sized_at}
use Rattle.wasm_decode.specs.declared.sections.Kind.{Kind}
use Rattle.wasm_decode.specs.declared.sections.Parts.{Parts}
use Rattle.wasm_decode.specs.SectionReading.{section_rows, custom_at, fill_at, section_at}

not_custom : (id : ℕ) → 0 < id → (id == 0) ≡ false
not_custom id h = ne_eqb id 0 (λ e. omega (arith, e, h))

module _ (profile : Profile) (last : ℕ) (p : Parts) (bytes : List ℕ) (rest : List ℕ) where
  pub custom_read : (left : List ℕ) → byte_at bytes ≡ Some (0, rest) → sized_at custom_at rest ≡ Some (tt, left) →
      section_at profile last p bytes ≡ Some ((last, p), left)
  unfolding section_at
  custom_read left at e = rw (at, e) refl

  module _ (id : ℕ) (at : byte_at bytes ≡ Some (id, rest)) (known : 0 < id) where
    pub unknown_none : row_at section_rows id ≡ None → section_at profile last p bytes ≡ None
    unfolding section_at
    unknown_none e = rw (at, not_custom id known, e) refl

    module _ (kind : Kind) (is : row_at section_rows id ≡ Some kind) where
      pub misplaced_none : id ≤ last → section_at profile last p bytes ≡ None
      unfolding section_at
      misplaced_none le = rw (at, not_custom id known, is, le-ltb last id le) refl

      pub known_read : (new : Parts) (left : List ℕ) → last < id → sized_at (whole_at (fill_at profile kind p)) rest ≡ Some (new, left) →
          section_at profile last p bytes ≡ Some ((id, new), left)
      unfolding section_at
      known_read new left lt e = rw (at, not_custom id known, is, lt-ltb last id lt, e) refl

none_left : (xs : List ℕ) → length xs ≡ 0 → xs ≡ []
none_left [] e = refl
none_left (x ∷ xs) e = absurd (omega (arith, e))

module _ {A : Type 0} (read : List ℕ → Option (A × List ℕ)) (bytes rest : List ℕ) (n : ℕ) (at : u32_at bytes ≡ Some (n, rest)) where
  pub sized_short : length rest < n → sized_at (whole_at read) bytes ≡ None
  unfolding measured_at
  sized_short lt = rw (at, lt-ltb (length rest) n lt) refl

  module _ (x : A) (left : List ℕ) (fits : n ≤ length rest) (is : read (take n rest) ≡ Some (x, left)) where
    pub sized_more : (left ≡ [] → ⊥) → sized_at (whole_at read) bytes ≡ None
    unfolding measured_at
    sized_more ne = rw (at, le-ltb (length rest) n fits, is, ne_eqb (length left) 0 (λ e. ne (none_left left e))) refl

    pub sized_whole : left ≡ [] → sized_at (whole_at read) bytes ≡ Some (x, drop n rest)
    unfolding measured_at
    sized_whole e = rw (at, le-ltb (length rest) n fits, is, e) refl
