-- Spellings that tell what they spell, whatever follows.
use Rattle.std.proofs.Common.{◌≡◌, ◌<◌, ◌^◌, ℕ, List, [], ◌∷◌, ◌++◌, Option, length, refl, sym, ap, ◌∙◌, append_assoc, arith}
use Rattle.std.specs.Int.{Width, w16, w32, w64, to_be_bytes, from_be_bytes}
use Rattle.std.specs.List.{AllByRecursion, flat_map}
use Rattle.std.proofs.lemmas.Nat.{from_be_bytes-to_be_bytes_8}
use Rattle.std.proofs.lemmas.Option.{some_pair_parts}
use Rattle.fab_types.specs.Limits.{IsKey, IsValue}
use Rattle.fab_types.specs.Spelling.{short_bytes, long_bytes, membership_bytes, version_bytes}
use Rattle.fab_types.specs.Within.{IsMembership, IsVersion}
use Rattle.fab_types.specs.Version.{Version}
use Rattle.fab_types.specs.declared.membership.Membership.{Membership}
use Rattle.wire.specs.Reading.{front_and_rest, long_at, membership_at, number_at, short_at, version_at}
use Rattle.wire.proofs.Codec.{Codec}
use Rattle.wire.proofs.Measured.{fixed, number32, short}
use Rattle.wire.proofs.MembershipLaws.{membership}
use Rattle.wire.proofs.SetLaws.{value, version}
use Rattle.checkpoint.specs.Checkpoint.{amendment_bytes, counted_bytes, kept_entry_bytes, placed_id_bytes}

pub record Unique {A : Type 0} (Known : A → Type 0) (spelling : A → List ℕ) : Type 0 where
  pub one : (x y : A) (r s : List ℕ) → Known x → Known y → spelling x ++ r ≡ spelling y ++ s → (x ≡ y) × (r ≡ s)

of_codec : {A : Type 0} (Known : A → Type 0) (spelling : A → List ℕ) (read : List ℕ → Option (A × List ℕ)) → Codec Known spelling read → Unique Known spelling
of_codec Known spelling read p = record {
  one = λ x y r s k l e. some_pair_parts x y r s (sym (p.again x r k) ∙ ap read e ∙ p.again y s l);
}

-- so many bytes
pub bytes_of : (n : ℕ) → Unique (λ (t : List ℕ). length t ≡ n) (λ t. t)
bytes_of n = of_codec (λ t. length t ≡ n) (λ t. t) (front_and_rest n) (fixed n)

pub four_bytes : Unique (λ n. n < 2 ^ 32) (to_be_bytes w32)
four_bytes = of_codec (λ n. n < 2 ^ 32) (to_be_bytes w32) (number_at w32) number32

pub eight_bytes : Unique (λ n. n < 2 ^ 64) (to_be_bytes w64)
eight_bytes = record {
  one = λ n m r s k l e.
      let parts = (bytes_of 8).one (to_be_bytes w64 n) (to_be_bytes w64 m) r s refl refl e in
      (sym (from_be_bytes-to_be_bytes_8 n k) ∙ ap (from_be_bytes w64) parts.0 ∙ from_be_bytes-to_be_bytes_8 m l, parts.1);
}

-- with what follows it
regrouped : (a b r c d s : List ℕ) → (a ++ b) ++ r ≡ (c ++ d) ++ s → a ++ (b ++ r) ≡ c ++ (d ++ s)
regrouped a b r c d s e = sym (append_assoc a b r) ∙ e ∙ append_assoc c d s

-- one behind the other
pub both : {A B : Type 0} {KnownA : A → Type 0} {a-bytes : A → List ℕ} {KnownB : B → Type 0} {b-bytes : B → List ℕ} → Unique KnownA a-bytes →
    Unique KnownB b-bytes → Unique {A = A × B} (λ p. KnownA p.0 × KnownB p.1) (λ p. a-bytes p.0 ++ b-bytes p.1)
both {a-bytes = a-bytes} {b-bytes = b-bytes} first second = record {
  one = λ x y r s k l e.
      let one = first.one x.0 y.0 (b-bytes x.1 ++ r) (b-bytes y.1 ++ s) k.0 l.0
      (regrouped (a-bytes x.0) (b-bytes x.1) r (a-bytes y.0) (b-bytes y.1) s e) in
      let two = second.one x.1 y.1 r s k.1 l.1 one.1 in
      ((λ i. (one.0 i, two.0 i)), two.1);
}

-- as many items of each list
each : {A : Type 0} (Known : A → Type 0) (spelling : A → List ℕ) → Unique Known spelling → (xs ys : List A) (r s : List ℕ) → length xs ≡ length ys →
    AllByRecursion Known xs → AllByRecursion Known ys → flat_map spelling xs ++ r ≡ flat_map spelling ys ++ s → (xs ≡ ys) × (r ≡ s)
each Known spelling u [] [] r s n k l e = (refl, e)
each Known spelling u [] (y ∷ ys) r s n k l e = absurd (omega (arith, n))
each Known spelling u (x ∷ xs) [] r s n k l e = absurd (omega (arith, n))
each Known spelling u (x ∷ xs) (y ∷ ys) r s n k l e =
    let one = u.one x y (flat_map spelling xs ++ r) (flat_map spelling ys ++ s) k.0 l.0
    (regrouped (spelling x) (flat_map spelling xs) r (spelling y) (flat_map spelling ys) s e) in
    let rest = each Known spelling u xs ys r s (omega (arith, n)) k.1 l.1 one.1 in
    ((λ i. one.0 i ∷ rest.0 i), rest.1)

-- a list behind its count
pub counted : {A : Type 0} {Small : ℕ → Type 0} {Known : A → Type 0} {spelling : A → List ℕ} (w : Width) → Unique Small (to_be_bytes w) →
    Unique Known spelling → Unique (λ xs. Small (length xs) × AllByRecursion Known xs) (counted_bytes w spelling)
counted {Known = Known} {spelling = spelling} w count u = record {
  one = λ xs ys r s k l e.
      let one = count.one (length xs) (length ys) (flat_map spelling xs ++ r) (flat_map spelling ys ++ s) k.0 l.0
      (regrouped (to_be_bytes w (length xs)) (flat_map spelling xs) r (to_be_bytes w (length ys)) (flat_map spelling ys) s e) in
      each Known spelling u xs ys r s one.0 k.1 l.1 one.1;
}

-- ---- what a checkpoint lists

key_value : Unique (λ (p : List ℕ × List ℕ). IsKey p.0 × IsValue p.1) (λ p. short_bytes p.0 ++ long_bytes p.1)
key_value = both (of_codec IsKey short_bytes (short_at 1 64) (short 1 64)) (of_codec IsValue long_bytes (long_at 4096) value)

pub kept_entry : Unique (λ (e : List ℕ × (List ℕ × Version)). IsKey e.0 × IsValue e.1.0 × IsVersion e.1.1) kept_entry_bytes
kept_entry = record {
  one = λ x y r s k l e.
      let all = (both key_value (of_codec IsVersion version_bytes version_at version)).one ((x.0, x.1.0), x.1.1) ((y.0, y.1.0), y.1.1) r s
      ((k.0, k.1), k.2) ((l.0, l.1), l.2) e in
      ((λ i. ((all.0 i).0.0, ((all.0 i).0.1, (all.0 i).1))), all.1);
}

sized : Unique IsMembership (λ (m : Membership). long_bytes (membership_bytes m))
sized = record {
  one = λ x y r s k l e.
      let parts = (bytes_of 2).one (to_be_bytes w16 (length (membership_bytes x))) (to_be_bytes w16 (length (membership_bytes y)))
      (membership_bytes x ++ r) (membership_bytes y ++ s) refl refl
      (regrouped (to_be_bytes w16 (length (membership_bytes x))) (membership_bytes x) r (to_be_bytes w16 (length (membership_bytes y))) (membership_bytes y) s e) in
      (of_codec IsMembership membership_bytes membership_at membership).one x y r s k l parts.1;
}

pub amendment : Unique (λ (a : ℕ × Membership). (a.0 < 2 ^ 32) × IsMembership a.1) amendment_bytes
amendment = both four_bytes sized

pub placed_id : Unique (λ (e : List ℕ × ℕ). (length e.0 ≡ 32) × (e.1 < 2 ^ 32)) placed_id_bytes
placed_id = both (bytes_of 32) four_bytes
