-- Hashes with the lengths of records, and the bytes of each length.
use Rattle.std.proofs.Common.{◌≡◌, ◌<◌, ◌^◌, ℕ, List, [], ◌∷◌, ◌++◌, length, map, refl, sym, ap, ◌∙◌, arith}
use Rattle.std.specs.Int.{w32, to_be_bytes}
use Rattle.std.specs.List.{AllByRecursion, zip}
use Rattle.std.proofs.lemmas.List.{length-map}
use Rattle.std.proofs.lemmas.List.Folds.{flat_map-map}
use Rattle.std.proofs.lemmas.Slice.Zip.{length-zip}
use Rattle.ledger_model.specs.Chain.{Bytes}
use Rattle.checkpoint.specs.Checkpoint.{counted_bytes, sized_hash_bytes}
use Rattle.checkpoint.specs.Within.{IsHash}
use Rattle.checkpoint.proofs.Unique.{Unique, both, bytes_of, counted, four_bytes}

abbrev part_of : Bytes × ℕ → Bytes × Bytes
part_of b = (b.0, to_be_bytes w32 b.1)

abbrev pub parts_of : List Bytes → List ℕ → List (Bytes × Bytes)
parts_of hashes sizes = map part_of (zip hashes sizes)

abbrev pub ArePartsWithin : List (Bytes × Bytes) → Type 0
ArePartsWithin parts = (length parts < 2 ^ 32) × AllByRecursion (λ (p : Bytes × Bytes). (length p.0 ≡ 32) × (length p.1 ≡ 4)) parts

-- they are told by their bytes
pub sized_hashes : Unique ArePartsWithin (counted_bytes w32 (λ (p : Bytes × Bytes). p.0 ++ p.1))
sized_hashes = counted w32 four_bytes (both (bytes_of 32) (bytes_of 4))

pub parts_spelled : (hashes : List Bytes) (sizes : List ℕ) →
    counted_bytes w32 (λ (p : Bytes × Bytes). p.0 ++ p.1) (parts_of hashes sizes) ≡ counted_bytes w32 sized_hash_bytes (zip hashes sizes)
parts_spelled hashes sizes =
    let count = length-map (zip hashes sizes) part_of in
    let listed = flat_map-map (λ (p : Bytes × Bytes). p.0 ++ p.1) part_of (zip hashes sizes) in
    λ i. to_be_bytes w32 (count i) ++ listed i

all_parts : (hashes : List Bytes) (sizes : List ℕ) → AllByRecursion IsHash hashes →
    AllByRecursion (λ (p : Bytes × Bytes). (length p.0 ≡ 32) × (length p.1 ≡ 4)) (parts_of hashes sizes)
all_parts [] sizes all = tt
all_parts (x ∷ xs) [] all = tt
all_parts (x ∷ xs) (n ∷ ns) all = ((all.0, refl), all_parts xs ns all.1)

pub parts_within : (hashes : List Bytes) (sizes : List ℕ) → (length hashes < 2 ^ 32) × AllByRecursion IsHash hashes → ArePartsWithin (parts_of hashes sizes)
parts_within hashes sizes within =
    let few = within.0 in
    let count = length-map (zip hashes sizes) part_of in
    let pairs = length-zip hashes sizes in
    (omega (arith, few, count, pairs), all_parts hashes sizes within.1)

first_parts : (hashes : List Bytes) (sizes : List ℕ) → length hashes ≡ length sizes →
    map (λ (p : Bytes × Bytes). p.0) (parts_of hashes sizes) ≡ hashes
first_parts [] sizes fits = refl
first_parts (x ∷ xs) [] fits = absurd (omega (arith, fits))
first_parts (x ∷ xs) (n ∷ ns) fits = ap (λ (l : List Bytes). x ∷ l) (first_parts xs ns (omega (arith, fits)))

-- so the hashes are the same
pub same_hashes : (hashes others : List Bytes) (sizes rivals : List ℕ) → length hashes ≡ length sizes → length others ≡ length rivals →
    parts_of hashes sizes ≡ parts_of others rivals → hashes ≡ others
same_hashes hashes others sizes rivals fits fit same =
    sym (first_parts hashes sizes fits) ∙ ap (λ (ps : List (Bytes × Bytes)). map (λ (p : Bytes × Bytes). p.0) ps) same ∙ first_parts others rivals fit
