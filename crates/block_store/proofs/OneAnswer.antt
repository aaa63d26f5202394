-- A store has one list of records and one end.
use Rattle.std.proofs.Common.{◌≡◌, ℕ, zero, suc, ◌^◌, ◌+◌, ◌<◌, ◌≤◌, inl, inr, List, [], ◌∷◌, ◌++◌, length, take, drop, map, refl, sym, ap, ap₂, subst, ◌∙◌}
use Rattle.std.proofs.Common.{append_assoc, arith}
use Rattle.std.proofs.lemmas.List.Elements.{All-map}
use Rattle.std.specs.Int.{w32, to_be_bytes}
use Rattle.std.proofs.Math.Seq.{take-append_seam, drop-append_seam}
use Rattle.std.proofs.lemmas.List.{length-append, length-map}
use Rattle.std.proofs.lemmas.Option.{some_pair_parts}
use Rattle.sha2.specs.Sha256.{sha256}
use Rattle.sha2.proofs.Facts256.{length-sha256}
use Rattle.fab_types.specs.Committed.{Committed}
use Rattle.fab_types.specs.FlagNumber.{flag_number}
use Rattle.fab_types.specs.declared.block.Block.{Block}
use Rattle.fab_types.specs.declared.flag.Flag.{Flag}
use Rattle.fab_types.specs.declared.flag.Flag.TheVariants.{Valid, EndorsementPolicyFailure, MvccReadConflict, PhantomReadConflict, DuplicateTxid}
use Rattle.fab_types.specs.BlockSpelling.{block_bytes}
use Rattle.fab_types.specs.BlockWithin.{IsBlock}
use Rattle.wire.specs.Reading.{block_at, number_at}
use Rattle.wire.proofs.BlockLaws.{block, block_length}
use Rattle.wire.proofs.Measured.{number32}
use Rattle.wire.proofs.Whole.{is_one}
use Rattle.block_store.specs.Record.{framed_bytes, digest_input, record_bytes, IsBlockAt, IsRecord}
use Rattle.block_store.specs.Store.{Loads, Ends, AreFlags, IsLength, IsBeginning, IsDamaged, EndsInLength, EndsInBlock, HasNoLength, HasNoBlock}
use Rattle.block_store.specs.declared.end.End.{End}
use Rattle.block_store.specs.declared.end.End.TheVariants.{Clean, Torn, Damaged, DeviceFailed}

-- ---- what stands in front of the same bytes is the same

same_front : (a b x y : List ℕ) → length a ≡ length b → a ++ x ≡ b ++ y → (a ≡ b) × (x ≡ y)
same_front a b x y len e = (
  sym (take-append_seam a x) ∙ ap₂ (λ (n : ℕ) (t : List ℕ). take n t) len e ∙ take-append_seam b y,
  sym (drop-append_seam a x) ∙ ap₂ (λ (n : ℕ) (t : List ℕ). drop n t) len e ∙ drop-append_seam b y,
)

same_length : (m n : ℕ) (x y : List ℕ) → m < 2 ^ 32 → n < 2 ^ 32 → to_be_bytes w32 m ++ x ≡ to_be_bytes w32 n ++ y → (m ≡ n) × (x ≡ y)
same_length m n x y a b e = some_pair_parts m n x y (sym (number32.again m x a) ∙ ap (number_at w32) e ∙ number32.again n y b)

length_small : (n : ℕ) → IsLength n → n < 2 ^ 32
length_small n h = let most = h.1 in omega (arith, most)

-- ---- bytes with a block in front

module _ (n : ℕ) (bytes : List ℕ) (b : Block) (tail : List ℕ) (is : IsBlockAt n b) (are : bytes ≡ framed_bytes b ++ tail) where
  abbrev text : List ℕ
  text = block_bytes b

  text_length : IsLength (length text)
  text_length = block_length b is.block

  front : (len : ℕ) (rest : List ℕ) → len < 2 ^ 32 → bytes ≡ to_be_bytes w32 len ++ rest → (len ≡ length text) × (rest ≡ text ++ tail)
  front len rest fits e =
      same_length len (length text) rest (text ++ tail) fits (length_small (length text) text_length)
      (sym e ∙ are ∙ append_assoc (to_be_bytes w32 (length text)) text tail)

  has_length : EndsInLength bytes → ⊥
  has_length h =
      let all = ap length are in
      absurd (omega (arith, h, all, length-append (framed_bytes b) tail, length-append (to_be_bytes w32 (length text)) text))

  has_right_length : HasNoLength bytes → ⊥
  has_right_length h = h.no_length (subst IsLength (sym (front h.len h.rest h.fits h.bytes_are).0) text_length)

  is_whole : EndsInBlock bytes → ⊥
  is_whole h =
      let same = front h.len h.part (length_small h.len h.is_length) h.bytes_are in
      let len = same.0 in
      let all = ap length same.1 in
      let short = h.short in
      absurd (omega (arith, len, all, short, length-append text tail))

  is_spelled : HasNoBlock n bytes → ⊥
  is_spelled h =
      let same = front (length h.text) (h.text ++ h.rest) (length_small (length h.text) h.is_length)
      (h.bytes_are ∙ append_assoc (to_be_bytes w32 (length h.text)) h.text h.rest) in
      h.no_block b is (sym (same_front h.text text h.rest tail same.0 same.1).0)

  same_block : (d : Block) (left : List ℕ) → IsBlockAt n d → bytes ≡ framed_bytes d ++ left → (b ≡ d) × (tail ≡ left)
  same_block d left k e =
      let same = front (length (block_bytes d)) (block_bytes d ++ left) (length_small (length (block_bytes d)) (block_length d k.block))
      (e ∙ append_assoc (to_be_bytes w32 (length (block_bytes d))) (block_bytes d) left) in
      let parts = same_front (block_bytes d) text left tail same.0 same.1 in
      (is_one IsBlock block_bytes block_at block b d is.block k.block (sym parts.0), sym parts.1)

-- ---- bytes with the flags and the digest behind the block

too_short : (part numbers digest rest : List ℕ) (count : ℕ) → part ≡ numbers ++ (digest ++ rest) → length numbers ≡ count → length digest ≡ 32 →
    length part < count + 32 → ⊥
too_short part numbers digest rest count e m d short =
    let all = ap length e in
    absurd (omega (arith, all, m, d, short, length-append numbers (digest ++ rest), length-append digest rest))

sealed_is_whole : (n : ℕ) (bytes : List ℕ) (b : Block) (numbers digest rest : List ℕ) → IsBlockAt n b →
    bytes ≡ framed_bytes b ++ (numbers ++ (digest ++ rest)) →
    length numbers ≡ length b.envelopes → length digest ≡ 32 → IsBeginning n bytes → ⊥
sealed_is_whole n bytes b numbers digest rest is are m d (inl h) = has_length n bytes b (numbers ++ (digest ++ rest)) is are h
sealed_is_whole n bytes b numbers digest rest is are m d (inr (inl h)) = is_whole n bytes b (numbers ++ (digest ++ rest)) is are h
sealed_is_whole n bytes b numbers digest rest is are m d (inr (inr h)) =
    let same = same_block n bytes b (numbers ++ (digest ++ rest)) is are h.block h.part h.is_block h.bytes_are in
    too_short h.part numbers digest rest (length h.block.envelopes) (sym same.1) (m ∙ ap (λ (x : Block). length x.envelopes) same.0) d h.short

pub four : (a b c d : List ℕ) → a ++ b ++ c ++ d ≡ a ++ (b ++ (c ++ d))
four a b c d = simp append_assoc

-- ---- a record

abbrev sealing : Committed → List ℕ
sealing c = sha256 (digest_input c)

module _ (n : ℕ) (bytes : List ℕ) (c : Committed) (rest : List ℕ) (is : IsRecord n c) (are : bytes ≡ record_bytes c ++ rest) where
  abbrev numbers : List ℕ
  numbers = map flag_number c.flags

  abbrev behind : List ℕ
  behind = numbers ++ (sealing c ++ rest)

  split : bytes ≡ framed_bytes c.block ++ behind
  split = are ∙ four (framed_bytes c.block) numbers (sealing c) rest

  one_each : length numbers ≡ length c.block.envelopes
  one_each = length-map c.flags flag_number ∙ is.flags

  pub not_beginning : IsBeginning n bytes → ⊥
  not_beginning = sealed_is_whole n bytes c.block numbers (sealing c) rest is.block split one_each (length-sha256 (digest_input c))

  same_parts : (b : Block) (others digest left : List ℕ) → IsBlockAt n b → length others ≡ length b.envelopes → length digest ≡ 32 →
      bytes ≡ framed_bytes b ++ (others ++ (digest ++ left))
      → (c.block ≡ b) × (numbers ≡ others) × (sealing c ≡ digest) × (rest ≡ left)
  same_parts b others digest left k len d e =
      let same = same_block n bytes c.block behind is.block split b (others ++ (digest ++ left)) k e in
      let flags = same_front numbers others (sealing c ++ rest) (digest ++ left) (one_each ∙ ap (λ (x : Block). length x.envelopes) same.0 ∙ sym len) same.1 in
      let ends = same_front (sealing c) digest rest left (length-sha256 (digest_input c) ∙ sym d) flags.1 in
      (same.0, flags.0, ends.0, ends.1)

flag_small : (f : Flag) → flag_number f ≤ 4
flag_small Valid = omega arith
flag_small EndorsementPolicyFailure = omega arith
flag_small MvccReadConflict = omega arith
flag_small PhantomReadConflict = omega arith
flag_small DuplicateTxid = omega arith

are_flags : (fs : List Flag) → AreFlags (map flag_number fs)
are_flags fs = All-map (λ m. m ≤ 4) flag_number fs (λ i f _. flag_small _)

pub not_damaged : (n : ℕ) (bytes : List ℕ) (c : Committed) (rest : List ℕ) → IsRecord n c → bytes ≡ record_bytes c ++ rest → IsDamaged n bytes → ⊥
not_damaged n bytes c rest is are (inl h) = has_right_length n bytes c.block (behind n bytes c rest is are) is.block (split n bytes c rest is are) h
not_damaged n bytes c rest is are (inr (inl h)) = is_spelled n bytes c.block (behind n bytes c rest is are) is.block (split n bytes c rest is are) h
not_damaged n bytes c rest is are (inr (inr h)) =
    let same = same_parts n bytes c rest is are h.block h.numbers h.digest h.rest h.is_block h.one_each h.digest_len
    (h.bytes_are ∙ four (framed_bytes h.block) h.numbers h.digest h.rest) in
    elim h.bad [
      | inl wrong ↦ wrong (subst AreFlags same.1 (are_flags c.flags))
      | inr other ↦ other (sym same.2 ∙ ap₂ (λ (x : Block) (y : List ℕ). sha256 (framed_bytes x ++ y)) same.0 same.1)
    ]

abbrev pub flag_of : ℕ → Flag
flag_of zero = Valid
flag_of (suc zero) = EndorsementPolicyFailure
flag_of (suc (suc zero)) = MvccReadConflict
flag_of (suc (suc (suc zero))) = PhantomReadConflict
flag_of (suc (suc (suc (suc n)))) = DuplicateTxid

flag_back : (f : Flag) → flag_of (flag_number f) ≡ f
flag_back Valid = refl
flag_back EndorsementPolicyFailure = refl
flag_back MvccReadConflict = refl
flag_back PhantomReadConflict = refl
flag_back DuplicateTxid = refl

flags_back : (fs : List Flag) → map flag_of (map flag_number fs) ≡ fs
flags_back [] = refl
flags_back (f ∷ fs) = ap₂ (λ (x : Flag) (xs : List Flag). x ∷ xs) (flag_back f) (flags_back fs)

pub same_record : (n : ℕ) (bytes : List ℕ) (c d : Committed) (rest left : List ℕ) → IsRecord n c → IsRecord n d → bytes ≡ record_bytes c ++ rest →
    bytes ≡ record_bytes d ++ left → (c ≡ d) × (rest ≡ left)
same_record n bytes c d rest left is other are same =
    let parts = same_parts n bytes c rest is are d.block (map flag_number d.flags) (sealing d) left other.block (one_each n bytes d left other same)
    (length-sha256 (digest_input d)) (split n bytes d left other same) in
    let flags : c.flags ≡ d.flags = sym (flags_back c.flags) ∙ ap (map flag_of) parts.1 ∙ flags_back d.flags in
    (ap₂ (λ (b : Block) (fs : List Flag). let made : Committed = record { block = b; flags = fs } in made) parts.0 flags, parts.3)

-- ---- an end

begins_or_damaged : (n : ℕ) (bytes : List ℕ) → IsBeginning n bytes → IsDamaged n bytes → ⊥
begins_or_damaged n bytes (inl h) (inl k) =
    let all = ap length k.bytes_are in
    absurd (omega (arith, h, all, length-append (to_be_bytes w32 k.len) k.rest))
begins_or_damaged n bytes (inl h) (inr (inl k)) =
    let all = ap length k.bytes_are in
    absurd (omega (arith, h, all, length-append (to_be_bytes w32 (length k.text) ++ k.text) k.rest, length-append (to_be_bytes w32 (length k.text)) k.text))
begins_or_damaged n bytes (inr (inl h)) (inl k) =
    k.no_length (subst IsLength (same_length h.len k.len h.part k.rest (length_small h.len h.is_length) k.fits (sym h.bytes_are ∙ k.bytes_are)).0 h.is_length)
begins_or_damaged n bytes (inr (inl h)) (inr (inl k)) =
    let same = same_length h.len (length k.text) h.part (k.text ++ k.rest) (length_small h.len h.is_length) (length_small (length k.text) k.is_length)
    (sym h.bytes_are ∙ k.bytes_are ∙ append_assoc (to_be_bytes w32 (length k.text)) k.text k.rest) in
    let len = same.0 in
    let all = ap length same.1 in
    let short = h.short in
    absurd (omega (arith, len, all, short, length-append k.text k.rest))
begins_or_damaged n bytes (inr (inr h)) (inl k) = has_right_length n bytes h.block h.part h.is_block h.bytes_are k
begins_or_damaged n bytes (inr (inr h)) (inr (inl k)) = is_spelled n bytes h.block h.part h.is_block h.bytes_are k
begins_or_damaged n bytes h (inr (inr k)) =
    sealed_is_whole n bytes k.block k.numbers k.digest k.rest k.is_block (k.bytes_are ∙ four (framed_bytes k.block) k.numbers k.digest k.rest) k.one_each
    k.digest_len h

nothing_begins : (n : ℕ) → IsBeginning n []
nothing_begins n = inl (omega arith)

one_end : (n : ℕ) (bytes : List ℕ) (e f : End) → Ends n bytes e → Ends n bytes f → e ≡ f
one_end n bytes Clean Clean h k = refl
one_end n bytes Torn Torn h k = refl
one_end n bytes (Damaged l) (Damaged m) h k = ap (λ (x : ℕ). Damaged x) (h.0 ∙ sym k.0)
one_end n bytes Clean Torn h k = absurd (k.0 h)
one_end n bytes Torn Clean h k = absurd (h.0 k)
one_end n bytes Clean (Damaged m) h k = absurd (begins_or_damaged n [] (nothing_begins n) (subst (IsDamaged n) h k.1))
one_end n bytes (Damaged m) Clean h k = absurd (begins_or_damaged n [] (nothing_begins n) (subst (IsDamaged n) k h.1))
one_end n bytes Torn (Damaged m) h k = absurd (begins_or_damaged n bytes h.1 k.1)
one_end n bytes (Damaged m) Torn h k = absurd (begins_or_damaged n bytes k.1 h.1)
one_end n bytes DeviceFailed f h k = absurd h
one_end n bytes e DeviceFailed h k = absurd k

goes_on : (n : ℕ) (bytes : List ℕ) (c : Committed) (rest : List ℕ) → IsRecord n c → bytes ≡ record_bytes c ++ rest → (e : End) → Ends n bytes e → ⊥
goes_on n bytes c rest is are Clean h = not_beginning n bytes c rest is are (subst (IsBeginning n) (sym h) (nothing_begins n))
goes_on n bytes c rest is are Torn h = not_beginning n bytes c rest is are h.1
goes_on n bytes c rest is are (Damaged m) h = not_damaged n bytes c rest is are h.1
goes_on n bytes c rest is are DeviceFailed h = h

-- ---- the whole store

pub one_answer : (n : ℕ) (bytes : List ℕ) (cs ds : List Committed) (e f : End) → Loads n bytes cs e → Loads n bytes ds f → (cs ≡ ds) × (e ≡ f)
one_answer n bytes [] [] e f h k = (refl, one_end n bytes e f h k)
one_answer n bytes [] (d ∷ ds) e f h k = absurd (goes_on n bytes d k.0 k.1 k.2 e h)
one_answer n bytes (c ∷ cs) [] e f h k = absurd (goes_on n bytes c h.0 h.1 h.2 f k)
one_answer n bytes (c ∷ cs) (d ∷ ds) e f h k =
    let first = same_record n bytes c d h.0 k.0 h.1 k.1 h.2 k.2 in
    let more = one_answer (suc n) k.0 cs ds e f (subst (λ (t : List ℕ). Loads (suc n) t cs e) first.1 h.3) k.3 in
    (ap₂ (λ (x : Committed) (xs : List Committed). x ∷ xs) first.0 more.0, more.1)
