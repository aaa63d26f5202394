-- Where no number stands, the bytes ended early exactly where they begin some number.
use Rattle.std.proofs.Common.{◌≡◌, ℕ, zero, suc, ◌+◌, ◌-◌, ◌*◌, ◌/◌, ◌^◌, ◌<◌, ◌≤◌, ◌↔◌, inl, inr, ℤ, pos, ◌+ℤ◌, ◌*ℤ◌, List, [], ◌∷◌, ◌++◌, refl, ap, lit<}
use Rattle.std.proofs.Common.{lit≤, arith}
use Rattle.std.proofs.lemmas.Bool.{cases_lt, le-ltb, lt-ltb}
use Rattle.wasm_bytes.specs.declared.fault.FaultKind.TheVariants.{EndedEarly, BadNumber}
use Rattle.wasm_bytes.specs.Spelling.{IsUnsigned, IsSigned, IsU32, IsS32, IsS64}
use Rattle.wasm_bytes.specs.Faults.{InFront, Begins, unsigned_fault, signed_fault, u32_fault, s32_fault, s64_fault}
use Rattle.wasm_bytes.specs.Laws.Leb.{unsigned_longer, signed_longer}

-- ---- unsigned

abbrev IsBelow : ℕ → ℕ → List ℕ → Type 0
IsBelow bound n text = IsUnsigned bound text n

unsigned_begins : (bound : ℕ) (bytes : List ℕ) → 0 < bound → unsigned_fault bound bytes ≡ EndedEarly → Begins (IsBelow bound) bytes
unfolding unsigned_fault
unsigned_begins bound [] some e = (0, 0 ∷ [], (lit< tt, some, refl))
unsigned_begins bound (b ∷ rest) some e =
    elim (cases_lt b 128) [
      | inl lt ↦ absurd (let f : BadNumber ≡ EndedEarly = rw (lt-ltb b 128 lt) at e in cc)
      | inr far ↦ elim (cases_lt 128 bound) [
        | inl wide ↦
            let t = unsigned_begins (bound / 128) rest (omega arith) (rw (le-ltb b 128 far, lt-ltb 128 bound wide) at e) in
            ((b - 128) + 128 * t.0, t.1, unsigned_longer bound b (rest ++ t.1) t.0 far wide t.2)
        | inr narrow ↦ absurd (let f : BadNumber ≡ EndedEarly = rw (le-ltb b 128 far, le-ltb 128 bound narrow) at e in cc)
      ]
    ]

unsigned_ended : (bound : ℕ) (bytes : List ℕ) (n : ℕ) (more : List ℕ) → ¬ InFront (IsBelow bound) bytes → IsUnsigned bound (bytes ++ more) n →
    unsigned_fault bound bytes ≡ EndedEarly
unfolding unsigned_fault
unsigned_ended bound [] n more none h = refl
unsigned_ended bound (b ∷ []) n [] none h = absurd (none (n, b ∷ [], [], h, refl))
unsigned_ended bound (b ∷ []) n (c ∷ more) none h = rw (le-ltb b 128 h.0, lt-ltb 128 bound h.1) refl
unsigned_ended bound (b ∷ c ∷ rest) n more none h =
    let shorter : ¬ InFront (IsBelow (bound / 128)) (c ∷ rest) =
    λ t. none ((b - 128) + 128 * t.0, b ∷ t.1, t.2, unsigned_longer bound b t.1 t.0 h.0 h.1 t.3, ap (λ (r : List ℕ). b ∷ r) t.4) in
    let inner = unsigned_ended (bound / 128) (c ∷ rest) h.2 more shorter h.4 in
    rw (le-ltb b 128 h.0, lt-ltb 128 bound h.1) inner

-- ---- signed

-- The half is above zero at each of its k further bytes, and needs no more of them.
abbrev Lasts : ℕ → ℕ → Type 0
Lasts zero half = (0 < half) × (half ≤ 64)
Lasts (suc k) half = (0 < half) × Lasts k (half / 128)

lasts_some : (k half : ℕ) → Lasts k half → 0 < half
lasts_some zero half h = h.0
lasts_some (suc k) half h = h.0

signed_begins : (k half : ℕ) (bytes : List ℕ) → Lasts k half → signed_fault half bytes ≡ EndedEarly → Begins (λ z text. IsSigned half text z) bytes
unfolding signed_fault
signed_begins k half [] some e = (pos 0, 0 ∷ [], inl (lit< tt, lasts_some k half some, refl))
signed_begins zero half (b ∷ rest) some e =
    elim (cases_lt b 128) [
      | inl lt ↦ absurd (let f : BadNumber ≡ EndedEarly = rw (lt-ltb b 128 lt) at e in cc)
      | inr far ↦ absurd (let f : BadNumber ≡ EndedEarly = rw (le-ltb b 128 far, le-ltb 64 half some.1) at e in cc)
    ]
signed_begins (suc k) half (b ∷ rest) some e =
    elim (cases_lt b 128) [
      | inl lt ↦ absurd (let f : BadNumber ≡ EndedEarly = rw (lt-ltb b 128 lt) at e in cc)
      | inr far ↦ elim (cases_lt 64 half) [
        | inl wide ↦
            let t = signed_begins k (half / 128) rest some.1 (rw (le-ltb b 128 far, lt-ltb 64 half wide) at e) in
            (pos (b - 128) +ℤ pos 128 *ℤ t.0, t.1, signed_longer half b (rest ++ t.1) t.0 far wide t.2)
        | inr narrow ↦ absurd (let f : BadNumber ≡ EndedEarly = rw (le-ltb b 128 far, le-ltb 64 half narrow) at e in cc)
      ]
    ]

signed_ended : (half : ℕ) (bytes : List ℕ) (z : ℤ) (more : List ℕ) → ¬ InFront (λ z text. IsSigned half text z) bytes → IsSigned half (bytes ++ more) z →
    signed_fault half bytes ≡ EndedEarly
unfolding signed_fault
signed_ended half [] z more none h = refl
signed_ended half (b ∷ []) z [] none h = absurd (none (z, b ∷ [], [], h, refl))
signed_ended half (b ∷ []) z (c ∷ more) none h = rw (le-ltb b 128 h.0, lt-ltb 64 half h.1) refl
signed_ended half (b ∷ c ∷ rest) z more none h =
    let shorter : ¬ InFront (λ z text. IsSigned (half / 128) text z) (c ∷ rest) =
    λ t. none (pos (b - 128) +ℤ pos 128 *ℤ t.0, b ∷ t.1, t.2, signed_longer half b t.1 t.0 h.0 h.1 t.3, ap (λ (r : List ℕ). b ∷ r) t.4) in
    let inner = signed_ended (half / 128) (c ∷ rest) h.2 more shorter h.4 in
    rw (le-ltb b 128 h.0, lt-ltb 64 half h.1) inner

-- ---- of each width

pub u32_refusal : (bytes : List ℕ) → ¬ InFront IsU32 bytes → (u32_fault bytes ≡ EndedEarly) ↔ Begins IsU32 bytes
u32_refusal bytes none = (unsigned_begins (2 ^ 32) bytes (lit< tt), λ h. unsigned_ended (2 ^ 32) bytes h.0 h.1 none h.2)

pub s32_refusal : (bytes : List ℕ) → ¬ InFront IsS32 bytes → (s32_fault bytes ≡ EndedEarly) ↔ Begins IsS32 bytes
s32_refusal bytes none =
    (signed_begins 4 (2 ^ 31) bytes (lit< tt, (lit< tt, (lit< tt, (lit< tt, (lit< tt, lit≤ tt))))), λ h. signed_ended (2 ^ 31) bytes h.0 h.1 none h.2)

pub s64_refusal : (bytes : List ℕ) → ¬ InFront IsS64 bytes → (s64_fault bytes ≡ EndedEarly) ↔ Begins IsS64 bytes
s64_refusal bytes none = (
  signed_begins 9 (2 ^ 63) bytes (lit< tt, (lit< tt, (lit< tt, (lit< tt, (lit< tt, (lit< tt, (lit< tt, (lit< tt, (lit< tt, (lit< tt, lit≤ tt)))))))))),
  λ h. signed_ended (2 ^ 63) bytes h.0 h.1 none h.2,
)
