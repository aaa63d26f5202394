-- Reading sections one after another, as a loop does.
use Rattle.std.proofs.Common.{◌≡◌, ℕ, zero, suc, ◌-◌, ◌≤◌, ◌<◌, List, [], ◌∷◌, length, Some, None, refl, arith}
use Rattle.wasm_profile.specs.declared.profile.Profile.{Profile}
use Rattle.wasm_decode.specs.declared.sections.Parts.{Parts}
use Rattle.wasm_decode.specs.SectionReading.{section_at, sections_at}

module _ (profile : Profile) where
  pub another : (n last : ℕ) (m : Parts) (bytes : List ℕ) (id : ℕ) (new : Parts) (rest : List ℕ) → length rest < length bytes → length bytes ≤ n →
      section_at profile last m bytes ≡ Some ((id, new), rest) → sections_at profile n last m bytes ≡ sections_at profile (n - 1) id new rest
  unfolding sections_at
  another n last m [] id new rest lt le e = absurd (omega arith)
  another zero last m (b ∷ bytes) id new rest lt le e = absurd (omega arith)
  another (suc n) last m (b ∷ bytes) id new rest lt le e =
      let k : suc n - 1 ≡ n = omega arith in
      rw (e, k) refl

  pub none_more : (n last : ℕ) (m : Parts) (bytes : List ℕ) → ¬ (bytes ≡ []) → section_at profile last m bytes ≡ None →
      sections_at profile n last m bytes ≡ None
  unfolding sections_at
  none_more n last m [] some e = absurd (some refl)
  none_more zero last m (b ∷ bytes) some e = refl
  none_more (suc n) last m (b ∷ bytes) some e = rw e refl

  pub all_read : (n last : ℕ) (m : Parts) (bytes : List ℕ) → bytes ≡ [] → sections_at profile n last m bytes ≡ Some m
  unfolding sections_at
  all_read zero last m [] e = refl
  all_read (suc n) last m [] e = refl
  all_read n last m (b ∷ bytes) e = absurd cc
