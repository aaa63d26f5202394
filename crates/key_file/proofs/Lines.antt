-- The lines of key files, from the first on.
use Rattle.std.proofs.Common.{◌≡◌, ℕ, ◌+◌, ◌*◌, ◌<◌, List, [], ◌∷◌, ◌++◌, length, take, drop, Ok, Err, refl, sym, ap, subst, ◌∙◌, arith}
use Rattle.std.proofs.Common.{append_assoc, length-append}
use Rattle.std.proofs.Math.Seq.{take-append_seam, drop-append_seam}
use Rattle.std.proofs.lemmas.List.{append-nil, take-append-drop}
use Rattle.hex.specs.Hex.{decode_of, decode_sized}
use Rattle.hex.specs.declared.error.FromHexError.{FromHexError}
use Rattle.hex.proofs.HexLemmas.{decode_of-ok, decode_of-same, decode_sized-ok, decode_sized-twice}
use Rattle.key_file.specs.KeyFiles.{AreSeeds, BeginsWith}

-- ---- the first line

sixty_four : (digits seed : List ℕ) → decode_of digits ≡ Ok seed → length seed ≡ 32 → length digits ≡ 64
sixty_four digits seed h n = let e = (decode_of-ok digits seed h).2 in omega (arith, e, n)

pub taken : (bytes seed rest : List ℕ) (h : BeginsWith bytes seed rest) → take 64 bytes ≡ h.0
taken bytes seed rest h =
    let n = sixty_four h.0 seed h.2 h.3 in
    ap (take 64) h.1 ∙ ap (λ (k : ℕ). take k (h.0 ++ 10 ∷ rest)) (sym n) ∙ take-append_seam h.0 (10 ∷ rest)

pub dropped : (bytes seed rest : List ℕ) → BeginsWith bytes seed rest → drop 64 bytes ≡ 10 ∷ rest
dropped bytes seed rest h =
    let n = sixty_four h.0 seed h.2 h.3 in
    ap (drop 64) h.1 ∙ ap (λ (k : ℕ). drop k (h.0 ++ 10 ∷ rest)) (sym n) ∙ drop-append_seam h.0 (10 ∷ rest)

pub longer : (bytes seed rest : List ℕ) → BeginsWith bytes seed rest → length bytes ≡ 65 + length rest
longer bytes seed rest h =
    let n = sixty_four h.0 seed h.2 h.3 in
    let e = ap length h.1 ∙ length-append h.0 (10 ∷ rest) in
    omega (arith, n, e)

pub one_line : (bytes a b r s : List ℕ) → BeginsWith bytes a r → BeginsWith bytes b s → (a ≡ b) × (r ≡ s)
one_line bytes a b r s h k =
    let digits = sym (taken bytes a r h) ∙ taken bytes b s k in (
      decode_of-same k.0 a b (subst (λ d. decode_of d ≡ Ok a) digits h.2) k.2,
      ap (drop 1) (sym (dropped bytes a r h) ∙ dropped bytes b s k),
    )

no_line : (bytes seed rest : List ℕ) → BeginsWith bytes seed rest → bytes ≡ [] → ⊥
no_line bytes seed rest h e = let n = longer bytes seed rest h in let z = ap length e in absurd (omega (arith, n, z))

pub no_short : (bytes : List ℕ) → length bytes < 64 → (seed rest : List ℕ) → BeginsWith bytes seed rest → ⊥
no_short bytes short seed rest h = let n = longer bytes seed rest h in absurd (omega (arith, n, short))

pub no_end : (bytes : List ℕ) → length (drop 64 bytes) ≡ 0 → (seed rest : List ℕ) → BeginsWith bytes seed rest → ⊥
no_end bytes none seed rest h = let e = ap length (dropped bytes seed rest h) in absurd (omega (arith, e, none))

first_or : ℕ → List ℕ → ℕ
first_or n [] = n
first_or n (x ∷ xs) = x

pub no_other : (bytes : List ℕ) (x : ℕ) (xs : List ℕ) → drop 64 bytes ≡ x ∷ xs → (x ≡ 10 → ⊥)
    → (seed rest : List ℕ) → BeginsWith bytes seed rest → ⊥
unfolding first_or
no_other bytes x xs e other seed rest h = other (ap (first_or 0) (sym e ∙ dropped bytes seed rest h))

pub no_hex : (bytes : List ℕ) (e : FromHexError) → decode_sized (take 64 bytes) 32 ≡ Err e
    → (seed rest : List ℕ) → BeginsWith bytes seed rest → ⊥
no_hex bytes e bad seed rest h =
    let n : length h.0 ≡ 2 * 32 = sixty_four h.0 seed h.2 h.3 in
    let good = decode_sized-twice h.0 32 n ∙ h.2 in
    let worse = subst (λ d. decode_sized d 32 ≡ Err e) (taken bytes seed rest h) bad in
    cc (sym good ∙ worse)

pub a_line : (bytes more rest seed : List ℕ) → more ≡ drop 64 bytes → more ≡ 10 ∷ rest → decode_sized (take 64 bytes) 32 ≡ Ok seed
    → BeginsWith bytes seed rest
a_line bytes more rest seed back e h =
    let n = decode_sized-ok (take 64 bytes) 32 seed h in
    let d = sym (decode_sized-twice (take 64 bytes) 32 n) ∙ h in
    let l = (decode_of-ok (take 64 bytes) seed d).2 in
    let whole = sym (take-append-drop 64 bytes) ∙ ap (λ (xs : List ℕ). take 64 bytes ++ xs) (sym back ∙ e) in
    (take 64 bytes, whole, d, omega (arith, n, l))

-- ---- some lines

pub one_list : (bytes : List ℕ) (a b : List (List ℕ)) → AreSeeds bytes a → AreSeeds bytes b → a ≡ b
one_list bytes [] [] h k = refl
one_list bytes [] (b ∷ bs) h k = absurd (no_line bytes b k.0 k.1 h)
one_list bytes (a ∷ more) [] h k = absurd (no_line bytes a h.0 h.1 k)
one_list bytes (a ∷ more) (b ∷ bs) h k =
    let e = one_line bytes a b h.0 k.0 h.1 k.1 in
    let rest = one_list k.0 more bs (subst (λ r. AreSeeds r more) e.1 h.2) k.2 in
    ap (λ (x : List ℕ). x ∷ more) e.0 ∙ ap (λ (xs : List (List ℕ)). b ∷ xs) rest

pub size : (bytes : List ℕ) (seeds : List (List ℕ)) → AreSeeds bytes seeds → length bytes ≡ 65 * length seeds
size bytes [] h = ap length h
size bytes (a ∷ more) h = let n = longer bytes a h.0 h.1 in let e = size h.0 more h.2 in omega (arith, n, e)

-- the seeds of all bytes are those that were found, and those of what is left
pub record Leaves (bytes : List ℕ) (found : List (List ℕ)) (left : List ℕ) : Type 0 where
  pub whole : (more : List (List ℕ)) → AreSeeds left more → AreSeeds bytes (found ++ more)
  pub begun : (all : List (List ℕ)) → AreSeeds bytes all → (more : List (List ℕ)) × (all ≡ found ++ more) × AreSeeds left more

pub nothing_found : (bytes : List ℕ) → Leaves bytes [] bytes
nothing_found bytes = record { whole = λ more h. h; begun = λ all h. (all, refl, h) }

behind : (left seed rest : List ℕ) (more : List (List ℕ)) → BeginsWith left seed rest → AreSeeds left more
    → (others : List (List ℕ)) × (more ≡ seed ∷ others) × AreSeeds rest others
behind left seed rest [] h k = absurd (no_line left seed rest h k)
behind left seed rest (b ∷ bs) h k =
    let e = one_line left seed b rest k.0 h k.1 in
    (bs, ap (λ (x : List ℕ). x ∷ bs) (sym e.0), subst (λ r. AreSeeds r bs) (sym e.1) k.2)

pub one_found : (bytes : List ℕ) (found : List (List ℕ)) (left seed rest : List ℕ) → Leaves bytes found left → BeginsWith left seed rest
    → Leaves bytes (found ++ seed ∷ []) rest
one_found bytes found left seed rest l h = record {
  whole = λ more k. subst (AreSeeds bytes) (sym (append_assoc found (seed ∷ []) more)) (l.whole (seed ∷ more) (rest, h, k));
  begun = λ all k.
      let was = l.begun all k in
      let now = behind left seed rest was.0 h was.2 in
      (now.0, was.1 ∙ ap (λ (xs : List (List ℕ)). found ++ xs) now.1 ∙ sym (append_assoc found (seed ∷ []) now.0), now.2);
}

pub all_found : (bytes : List ℕ) (found : List (List ℕ)) → Leaves bytes found [] → AreSeeds bytes found
all_found bytes found l = subst (AreSeeds bytes) (append-nil found) (l.whole [] refl)

-- where nothing is left, they are no others
pub only_found : (bytes : List ℕ) (found all : List (List ℕ)) → Leaves bytes found [] → AreSeeds bytes all → all ≡ found
only_found bytes found all l h = one_list bytes all found h (all_found bytes found l)

no_seeds : (left : List ℕ) (more : List (List ℕ)) → ((seed rest : List ℕ) → BeginsWith left seed rest → ⊥) → (left ≡ [] → ⊥)
    → AreSeeds left more → ⊥
no_seeds left [] none some h = some h
no_seeds left (b ∷ bs) none some h = none b h.0 h.1

-- where no line begins what is left, there are none
pub stuck : (bytes : List ℕ) (found : List (List ℕ)) (left : List ℕ) → Leaves bytes found left
    → ((seed rest : List ℕ) → BeginsWith left seed rest → ⊥) → (left ≡ [] → ⊥) → (all : List (List ℕ)) → AreSeeds bytes all → ⊥
stuck bytes found left l none some all h = let was = l.begun all h in no_seeds left was.0 none some was.2
