-- Reading a LEB128 number takes a spelling from the front, and reads each spelling.
use Rattle.std.proofs.Common.{◌≡◌, ℕ, ◌+◌, ◌-◌, ◌*◌, ◌/◌, ◌<◌, ◌≤◌, inl, inr, ℤ, pos, negsuc, ◌+ℤ◌, ◌*ℤ◌, ltb, leb, List, [], ◌∷◌, ◌++◌, Some, refl, sym, ap}
use Rattle.std.proofs.Common.{subst, ◌∙◌, arith}
use Rattle.std.proofs.lemmas.Bool.{cases_lt, ltb-true, le-ltb, lt-ltb, leb-true, le-leb}
use Rattle.std.proofs.lemmas.Option.{cond_some, some_pair_parts}
use Rattle.wasm_bytes.specs.Spelling.{IsUnsigned, IsSigned}
use Rattle.grammar.specs.Reads.{Reads}
use Rattle.grammar.specs.Reading.{◌>>=◌}
use Rattle.wasm_bytes.specs.Reading.{unsigned_at, signed_at}
use Rattle.grammar.specs.Laws.Steps.{bind_some, guarded}

pub unsigned_again : (bound : ℕ) (text : List ℕ) (n : ℕ) (rest : List ℕ) → IsUnsigned bound text n → unsigned_at bound (text ++ rest) ≡ Some (n, rest)
unfolding unsigned_at
unsigned_again bound [] n rest h = absurd h
unsigned_again bound (b ∷ []) n rest h = rw (lt-ltb b 128 h.0, lt-ltb b bound h.1, h.2) refl
unsigned_again bound (b ∷ c ∷ bs) n rest h =
    rw (le-ltb b 128 h.0, lt-ltb 128 bound h.1, unsigned_again (bound / 128) (c ∷ bs) h.2 rest h.4, h.3) refl

pub unsigned_longer : (bound b : ℕ) (text : List ℕ) (high : ℕ) → 128 ≤ b → 128 < bound → IsUnsigned (bound / 128) text high →
    IsUnsigned bound (b ∷ text) ((b - 128) + 128 * high)
unsigned_longer bound b [] high le lt h = absurd h
unsigned_longer bound b (c ∷ bs) high le lt h = (le, lt, high, refl, h)

pub unsigned_takes : (bound : ℕ) (bytes : List ℕ) (n : ℕ) (rest : List ℕ) → unsigned_at bound bytes ≡ Some (n, rest) →
    (text : List ℕ) × IsUnsigned bound text n × (bytes ≡ text ++ rest)
unfolding unsigned_at
unsigned_takes bound [] n rest e = absurd cc
unsigned_takes bound (b ∷ bytes) n rest e =
    elim (cases_lt b 128) [
      | inl lt ↦
          let g = cond_some (ltb b bound) (b, bytes) (n, rest) (rw (lt-ltb b 128 lt) at e) in
          let p = some_pair_parts b n bytes rest (ap (λ (x : ℕ × List ℕ). Some x) g.1) in
          (b ∷ [], (lt, ltb-true b bound g.0, sym p.0), ap (λ (x : List ℕ). b ∷ x) p.1)
      | inr le ↦
          let more = λ (high : ℕ × List ℕ). Some ((b - 128) + 128 * high.0, high.1) in
          let g = guarded (ltb 128 bound) (unsigned_at (bound / 128) bytes >>= more) (n, rest) (rw (le-ltb b 128 le) at e) in
          let s = bind_some (unsigned_at (bound / 128) bytes) more (n, rest) g.1 in
          let p = some_pair_parts ((b - 128) + 128 * s.0.0) n s.0.1 rest s.2 in
          let i = unsigned_takes (bound / 128) bytes s.0.0 s.0.1 s.1 in (
            b ∷ i.0,
            subst (IsUnsigned bound (b ∷ i.0)) p.0 (unsigned_longer bound b i.0 s.0.0 le (ltb-true 128 bound g.0) i.1),
            ap (λ (x : List ℕ). b ∷ x) (i.2 ∙ ap (λ (x : List ℕ). i.0 ++ x) p.1),
          )
    ]

pub unsigned_reads : (bound : ℕ) → Reads (λ n text. IsUnsigned bound text n) (unsigned_at bound)
unsigned_reads bound =
    record {
      takes = λ bytes n rest e. let t = unsigned_takes bound bytes n rest e in (tt, t.0, t.1, t.2);
      again = λ n text rest _ h. unsigned_again bound text n rest h;
    }

signed_again : (half : ℕ) (text : List ℕ) (z : ℤ) (rest : List ℕ) → IsSigned half text z → signed_at half (text ++ rest) ≡ Some (z, rest)
unfolding signed_at
signed_again half [] z rest h = absurd h
signed_again half (b ∷ []) z rest (inl h) = rw (lt-ltb b 64 h.0, lt-ltb b half h.1, h.2) refl
signed_again half (b ∷ []) z rest (inr h) = rw (le-ltb b 64 h.0, lt-ltb b 128 h.1, le-leb 128 (b + half) h.2, h.3) refl
signed_again half (b ∷ c ∷ bs) z rest h =
    let far : 64 ≤ b = omega (arith, h.0) in
    rw (le-ltb b 64 far, le-ltb b 128 h.0, lt-ltb 64 half h.1, signed_again (half / 128) (c ∷ bs) h.2 rest h.4, h.3) refl

pub signed_longer : (half b : ℕ) (text : List ℕ) (high : ℤ) → 128 ≤ b → 64 < half → IsSigned (half / 128) text high →
    IsSigned half (b ∷ text) (pos (b - 128) +ℤ pos 128 *ℤ high)
signed_longer half b [] high le lt h = absurd h
signed_longer half b (c ∷ bs) high le lt h = (le, lt, high, refl, h)

signed_takes : (half : ℕ) (bytes : List ℕ) (z : ℤ) (rest : List ℕ) → signed_at half bytes ≡ Some (z, rest) →
    (text : List ℕ) × IsSigned half text z × (bytes ≡ text ++ rest)
unfolding signed_at
signed_takes half [] z rest e = absurd cc
signed_takes half (b ∷ bytes) z rest e =
    elim (cases_lt b 64) [
      | inl lt ↦
          let g = cond_some (ltb b half) (pos b, bytes) (z, rest) (rw (lt-ltb b 64 lt) at e) in
          let p = some_pair_parts (pos b) z bytes rest (ap (λ (x : ℤ × List ℕ). Some x) g.1) in
          (b ∷ [], inl (lt, ltb-true b half g.0, sym p.0), ap (λ (x : List ℕ). b ∷ x) p.1)
      | inr far ↦ elim (cases_lt b 128) [
        | inl lt ↦
            let g = cond_some (leb 128 (b + half)) (negsuc (127 - b), bytes) (z, rest) (rw (le-ltb b 64 far, lt-ltb b 128 lt) at e) in
            let p = some_pair_parts (negsuc (127 - b)) z bytes rest (ap (λ (x : ℤ × List ℕ). Some x) g.1) in
            (b ∷ [], inr (far, lt, leb-true 128 (b + half) g.0, sym p.0), ap (λ (x : List ℕ). b ∷ x) p.1)
        | inr le ↦
            let more = λ (high : ℤ × List ℕ). Some (pos (b - 128) +ℤ pos 128 *ℤ high.0, high.1) in
            let g = guarded (ltb 64 half) (signed_at (half / 128) bytes >>= more) (z, rest) (rw (le-ltb b 64 far, le-ltb b 128 le) at e) in
            let s = bind_some (signed_at (half / 128) bytes) more (z, rest) g.1 in
            let p = some_pair_parts (pos (b - 128) +ℤ pos 128 *ℤ s.0.0) z s.0.1 rest s.2 in
            let i = signed_takes (half / 128) bytes s.0.0 s.0.1 s.1 in (
              b ∷ i.0,
              subst (IsSigned half (b ∷ i.0)) p.0 (signed_longer half b i.0 s.0.0 le (ltb-true 64 half g.0) i.1),
              ap (λ (x : List ℕ). b ∷ x) (i.2 ∙ ap (λ (x : List ℕ). i.0 ++ x) p.1),
            )
      ]
    ]

pub signed_reads : (half : ℕ) → Reads (λ z text. IsSigned half text z) (signed_at half)
signed_reads half = record {
  takes = λ bytes z rest e. let t = signed_takes half bytes z rest e in (tt, t.0, t.1, t.2);
  again = λ z text rest _ h. signed_again half text z rest h;
}
