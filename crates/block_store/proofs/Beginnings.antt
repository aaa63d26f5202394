-- A beginning of a record behind whole records.
use Rattle.std.proofs.Common.{◌≡◌, ℕ, zero, suc, ◌+◌, ◌-◌, ◌<◌, ◌≤◌, ◌⊎◌, inl, inr, List, [], ◌∷◌, ◌++◌, length, take, map, ap, subst, ◌∙◌, append_assoc, arith}
use Rattle.std.specs.List.{flat_map}
use Rattle.std.specs.Int.{w32, to_be_bytes}
use Rattle.std.proofs.Math.Seq.{take-append-add}
use Rattle.std.proofs.lemmas.List.{length-append, length-map, length-take}
use Rattle.sha2.specs.Sha256.{sha256}
use Rattle.sha2.proofs.Facts256.{length-sha256}
use Rattle.fab_types.specs.Committed.{Committed}
use Rattle.fab_types.specs.FlagNumber.{flag_number}
use Rattle.fab_types.specs.BlockSpelling.{block_bytes}
use Rattle.wire.proofs.BlockLaws.{block_length}
use Rattle.block_store.specs.Record.{framed_bytes, digest_input, record_bytes, IsRecord}
use Rattle.block_store.specs.Store.{AreRecords, Loads, IsBeginning}
use Rattle.block_store.specs.declared.end.End.TheVariants.{Torn}
use Rattle.block_store.proofs.OneAnswer.{four}

pub less_or_not : (m n : ℕ) → (m < n) ⊎ (n ≤ m)
less_or_not m zero = inr (omega arith)
less_or_not zero (suc n) = inl (omega arith)
less_or_not (suc m) (suc n) = elim (less_or_not m n) [ inl h ↦ inl (omega (arith, h)) | inr h ↦ inr (omega (arith, h)) ]

take_behind : (front tail : List ℕ) (k : ℕ) → length front ≤ k → take k (front ++ tail) ≡ front ++ take (k - length front) tail
take_behind front tail k h =
    let parts : k ≡ length front + (k - length front) = omega (arith, h) in
    ap (λ (n : ℕ). take n (front ++ tail)) parts ∙ take-append-add front tail (k - length front)

module _ (n : ℕ) (c : Committed) (k : ℕ) (is : IsRecord n c) (short : k < length (record_bytes c)) where
  abbrev len : List ℕ
  len = to_be_bytes w32 (length (block_bytes c.block))

  abbrev numbers : List ℕ
  numbers = map flag_number c.flags

  abbrev digest : List ℕ
  digest = sha256 (digest_input c)

  in_block : 4 ≤ k → k - 4 < length (block_bytes c.block) → IsBeginning n (take k (record_bytes c))
  in_block some few =
      let tail = block_bytes c.block ++ (numbers ++ digest) in
      inr (inl (record {
        len = length (block_bytes c.block);
        part = take (k - 4) tail;
        is_length = block_length c.block is.block.block;
        bytes_are = ap (take k) (four len (block_bytes c.block) numbers digest) ∙ take_behind len tail k some;
        short = omega (arith, few, length-take (k - 4) tail);
      }))

  behind_block : 4 ≤ k → length (block_bytes c.block) ≤ k - 4 → IsBeginning n (take k (record_bytes c))
  behind_block some many =
      let tail = numbers ++ digest in
      let front = framed_bytes c.block in
      let front_len = length-append len (block_bytes c.block) in
      let numbers_len = length-map c.flags flag_number in
      let one_each = is.flags in
      let digest_len = length-sha256 (digest_input c) in
      inr (inr (record {
        block = c.block;
        part = take (k - length front) tail;
        is_block = is.block;
        bytes_are = ap (take k) (append_assoc front numbers digest) ∙ take_behind front tail k (omega (arith, some, many, front_len));
        short = omega (
          arith,
          some,
          many,
          short,
          front_len,
          numbers_len,
          one_each,
          digest_len,
          length-take (k - length front) tail,
          length-append (digest_input c) digest,
          length-append front numbers,
        );
      }))

  cut_record : IsBeginning n (take k (record_bytes c))
  cut_record =
      elim (less_or_not k 4) [
        | inl h ↦ inl (omega (arith, h, length-take k (record_bytes c)))
        | inr h ↦ elim (less_or_not (k - 4) (length (block_bytes c.block))) [ inl few ↦ in_block h few | inr many ↦ behind_block h many ]
      ]

some_taken : (k : ℕ) (bytes : List ℕ) → 0 < k → k < length bytes → take k bytes ≡ [] → ⊥
some_taken k bytes some short e = let none = ap length e in absurd (omega (arith, some, short, none, length-take k bytes))

cut_loads : (n m : ℕ) (cs : List Committed) (c : Committed) (k : ℕ) → m ≡ n + length cs → AreRecords n cs → IsRecord m c → 0 < k → k < length (record_bytes c) →
    Loads n (flat_map record_bytes cs ++ take k (record_bytes c)) cs Torn
cut_loads n m [] c k e are is some short =
    let here : m ≡ n = omega (arith, e) in
    (some_taken k (record_bytes c) some short, cut_record n c k (subst (λ (i : ℕ). IsRecord i c) here is) short)
cut_loads n m (d ∷ cs) c k e are is some short = (
  flat_map record_bytes cs ++ take k (record_bytes c),
  are.0,
  append_assoc (record_bytes d) (flat_map record_bytes cs) (take k (record_bytes c)),
  cut_loads (suc n) m cs c k (omega (arith, e)) are.1 is some short,
)

pub beginning_loads : (cs : List Committed) (c : Committed) (k : ℕ) → AreRecords 1 cs → IsRecord (suc (length cs)) c → 0 < k → k < length (record_bytes c) →
    Loads 1 (flat_map record_bytes cs ++ take k (record_bytes c)) cs Torn
beginning_loads cs c k = cut_loads 1 (suc (length cs)) cs c k (omega arith)
