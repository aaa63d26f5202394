-- What a number in LEB128 is read as, by cases of its first byte.
use Rattle.std.proofs.Common.{◌≡◌, ℕ, ◌+◌, ◌-◌, ◌*◌, ◌/◌, ◌<◌, ◌≤◌, ◌^◌, ℤ, pos, negsuc, ◌+ℤ◌, ◌-ℤ◌, ◌*ℤ◌, neg_ℤ, ◌≤ℤ◌, ◌<ℤ◌, List, ◌∷◌, length, take, drop}
use Rattle.std.proofs.Common.{slice_index_or, Some, None, refl, to_z, of_z, w64, arith}
use Rattle.std.proofs.lemmas.Int.{ints}
use Rattle.std.proofs.lemmas.Bool.{lt-ltb, le-ltb, le-leb, lt-leb}
use Rattle.wasm_bytes.specs.Reading.{unsigned_at, signed_at}
use Rattle.wasm_bytes.specs.Faults.{unsigned_fault}
use Rattle.wasm_bytes.proofs.Places.{byte_and_rest}

-- bytes that do not end here, by the first of them
pub in_front : (bytes : List ℕ) (b : ℕ) → 1 ≤ length bytes → b ≡ slice_index_or bytes 0 0 → bytes ≡ b ∷ take (length bytes - 1) (drop 1 bytes)
in_front bytes b le e = rw e (byte_and_rest bytes le)

module _ (bound b : ℕ) (rest : List ℕ) where
  pub unsigned_ended : 128 ≤ b → 128 < bound → unsigned_at (bound / 128) rest ≡ None → unsigned_at bound (b ∷ rest) ≡ None
  unfolding unsigned_at
  unsigned_ended more wide e = rw (le-ltb b 128 more, lt-ltb 128 bound wide, e) refl

  pub unsigned_goes_on : 128 ≤ b → 128 < bound → unsigned_fault bound (b ∷ rest) ≡ unsigned_fault (bound / 128) rest
  unfolding unsigned_fault
  unsigned_goes_on more wide = rw (le-ltb b 128 more, lt-ltb 128 bound wide) refl

  pub unsigned_joined : (high : ℕ) (left : List ℕ) → 128 ≤ b → 128 < bound → unsigned_at (bound / 128) rest ≡ Some (high, left) →
      unsigned_at bound (b ∷ rest) ≡ Some ((b - 128) + 128 * high, left)
  unfolding unsigned_at
  unsigned_joined high left more wide e = rw (le-ltb b 128 more, lt-ltb 128 bound wide, e) refl

module _ (half b : ℕ) (rest : List ℕ) where
  pub signed_last : b < 64 → b < half → signed_at half (b ∷ rest) ≡ Some (pos b, rest)
  unfolding signed_at
  signed_last one low = rw (lt-ltb b 64 one, lt-ltb b half low) refl

  pub signed_large : b < 64 → half ≤ b → signed_at half (b ∷ rest) ≡ None
  unfolding signed_at
  signed_large one high = rw (lt-ltb b 64 one, le-ltb b half high) refl

  pub signed_below : 64 ≤ b → b < 128 → 128 ≤ b + half → signed_at half (b ∷ rest) ≡ Some (negsuc (127 - b), rest)
  unfolding signed_at
  signed_below above one low = rw (le-ltb b 64 above, lt-ltb b 128 one, le-leb 128 (b + half) low) refl

  pub signed_low : 64 ≤ b → b < 128 → b + half < 128 → signed_at half (b ∷ rest) ≡ None
  unfolding signed_at
  signed_low above one low = rw (le-ltb b 64 above, lt-ltb b 128 one, lt-leb 128 (b + half) low) refl

  pub signed_long : 128 ≤ b → half ≤ 64 → signed_at half (b ∷ rest) ≡ None
  unfolding signed_at
  signed_long more narrow = rw (le-ltb b 64 (omega arith), le-ltb b 128 more, le-ltb 64 half narrow) refl

  pub signed_ended : 128 ≤ b → 64 < half → signed_at (half / 128) rest ≡ None → signed_at half (b ∷ rest) ≡ None
  unfolding signed_at
  signed_ended more wide e = rw (le-ltb b 64 (omega arith), le-ltb b 128 more, lt-ltb 64 half wide, e) refl

  pub signed_joined : (high : ℤ) (left : List ℕ) → 128 ≤ b → 64 < half → signed_at (half / 128) rest ≡ Some (high, left) →
      signed_at half (b ∷ rest) ≡ Some (pos (b - 128) +ℤ pos 128 *ℤ high, left)
  unfolding signed_at
  signed_joined high left more wide e = rw (le-ltb b 64 (omega arith), le-ltb b 128 more, lt-ltb 64 half wide, e) refl

pub as_negative : (n : ℕ) → 64 ≤ n → n < 128 → to_z w64 (of_z w64 (to_z w64 n -ℤ pos 128)) ≡ negsuc (127 - n)
as_negative n above one = omega (arith, ints)

pub as_joined : (n : ℕ) (z : ℤ) (half : ℕ) → n < 128 → half ≤ 2 ^ 63 → neg_ℤ (pos (half / 128)) ≤ℤ z → z <ℤ pos (half / 128) →
    to_z w64 (of_z w64 (to_z w64 n +ℤ to_z w64 (of_z w64 (pos 128 *ℤ to_z w64 (of_z w64 z))))) ≡ pos n +ℤ pos 128 *ℤ z
as_joined n z half small wide low high = omega (arith, ints)

-- a number that seven bits more made stays within its bounds
pub joined_within : (n high bound : ℕ) → n < 128 → high < bound / 128 → n + 128 * high < bound
joined_within n high bound small within = omega arith

pub joined_low : (n : ℕ) (z : ℤ) (half : ℕ) → n < 128 → neg_ℤ (pos (half / 128)) ≤ℤ z → neg_ℤ (pos half) ≤ℤ (pos n +ℤ pos 128 *ℤ z)
joined_low n z half small low = omega (arith, ints)

pub joined_high : (n : ℕ) (z : ℤ) (half : ℕ) → n < 128 → z <ℤ pos (half / 128) → (pos n +ℤ pos 128 *ℤ z) <ℤ pos half
joined_high n z half small high = omega (arith, ints)
