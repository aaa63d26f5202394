-- Each list of bytes is a store: it has records and an end.
use Rattle.std.proofs.Common.{◌≡◌, ◌≢◌, ℕ, zero, suc, ◌^◌, ◌+◌, ◌<◌, ◌≤◌, ◌⊎◌, inl, inr, List, [], ◌∷◌, ◌++◌, length, take, drop, map, get_or, Option, Some}
use Rattle.std.proofs.Common.{None, refl, sym, ap, ap₂, subst, ◌∙◌, append_assoc, arith}
use Rattle.std.specs.List.{AllByRecursion}
use Rattle.std.specs.Int.{w32, to_be_bytes, from_be_bytes}
use Rattle.std.proofs.lemmas.List.{length-append, length-drop, length-map, length-take, take-append-drop}
use Rattle.sha2.specs.Sha256.{sha256}
use Rattle.sha2.proofs.Facts256.{length-sha256}
use Rattle.fab_types.specs.Committed.{Committed}
use Rattle.fab_types.specs.FlagNumber.{flag_number}
use Rattle.fab_types.specs.declared.block.Block.{Block}
use Rattle.grammar.specs.Reading.{whole_at}
use Rattle.fab_types.specs.BlockSpelling.{block_bytes}
use Rattle.fab_types.specs.BlockWithin.{IsBlock}
use Rattle.wire.specs.Reading.{block_at}
use Rattle.wire.proofs.BlockLaws.{block}
use Rattle.wire.proofs.Codec.{whole_known, whole_read}
use Rattle.wire.proofs.Whole.{is_one}
use Rattle.block_store.specs.Record.{framed_bytes, digest_input, record_bytes, IsBlockAt, IsRecord}
use Rattle.block_store.specs.Store.{Loads, AreFlags, IsLength, IsBeginning, IsDamaged}
use Rattle.block_store.specs.declared.end.End.{End}
use Rattle.block_store.specs.declared.end.End.TheVariants.{Clean, Torn, Damaged}
use Rattle.block_store.proofs.Beginnings.{less_or_not}
use Rattle.block_store.proofs.Fronts.{take_fits, length_split, numbers_len, digest_len, split}
use Rattle.block_store.proofs.OneAnswer.{flag_of}

-- ---- what can be told

number_or_not : (m n : ℕ) → (m ≡ n) ⊎ (m ≢ n)
number_or_not m n =
    elim (less_or_not m n) [
      | inl h ↦ inr (λ e. absurd (omega (arith, h, e)))
      | inr h ↦ elim (less_or_not n m) [ inl k ↦ inr (λ e. absurd (omega (arith, k, e))) | inr k ↦ inl (omega (arith, h, k)) ]
    ]

same_or_not : (xs ys : List ℕ) → (xs ≡ ys) ⊎ (xs ≢ ys)
same_or_not [] [] = inl refl
same_or_not [] (y ∷ ys) = inr (λ e. absurd (cc e))
same_or_not (x ∷ xs) [] = inr (λ e. absurd (cc e))
same_or_not (x ∷ xs) (y ∷ ys) =
    elim (number_or_not x y) [
      | inr other ↦ inr (λ e. other (ap (λ (l : List ℕ). get_or l 0 0) e))
      | inl same ↦ elim (same_or_not xs ys) [ inl more ↦ inl (ap₂ (λ (a : ℕ) (l : List ℕ). a ∷ l) same more) | inr other ↦ inr (λ e. other (ap (drop 1) e)) ]
    ]

length_or_not : (n : ℕ) → IsLength n ⊎ (¬ IsLength n)
length_or_not n =
    elim (less_or_not n 103) [
      | inl few ↦ inr (λ k. let least = k.0 in absurd (omega (arith, few, least)))
      | inr least ↦ elim (less_or_not 526406 n) [ inl many ↦ inr (λ k. let most = k.1 in absurd (omega (arith, many, most))) | inr most ↦ inl (least, most) ]
    ]

flag_there : (m : ℕ) → m ≤ 4 → flag_number (flag_of m) ≡ m
flag_there zero h = refl
flag_there (suc zero) h = refl
flag_there (suc (suc zero)) h = refl
flag_there (suc (suc (suc zero))) h = refl
flag_there (suc (suc (suc (suc zero)))) h = refl
flag_there (suc (suc (suc (suc (suc m))))) h = absurd (omega (arith, h))

flags_or_not : (numbers : List ℕ) → (map flag_number (map flag_of numbers) ≡ numbers) ⊎ (¬ AreFlags numbers)
flags_or_not [] = inl refl
flags_or_not (m ∷ numbers) =
    elim (less_or_not 4 m) [
      | inl big ↦ inr (λ h. let small = h 0 0 (omega arith) in absurd (omega (arith, big, small)))
      | inr small ↦ elim (flags_or_not numbers) [
        | inl more ↦ inl (ap₂ (λ (a : ℕ) (l : List ℕ). a ∷ l) (flag_there m small) more)
        | inr none ↦ inr (λ h. none (λ k d l. h (suc k) d (omega (arith, l))))
      ]
    ]

abbrev HasBlock : ℕ → List ℕ → Type 0
HasBlock n text = (b : Block) × IsBlockAt n b × (block_bytes b ≡ text)

block_read : (n : ℕ) (text : List ℕ) (o : Option Block) → whole_at block_at text ≡ o → HasBlock n text ⊎ ((b : Block) → IsBlockAt n b → block_bytes b ≢ text)
block_read n text None e =
    inr (λ b k same. let both : Some b ≡ None = sym (whole_read IsBlock block_bytes block_at block text b k.block same) ∙ e in absurd (cc both))
block_read n text (Some b) e =
    let k = whole_known IsBlock block_bytes block_at block text b e in
    elim (number_or_not b.header.number n) [
      | inl same ↦ inl (b, record { block = k.0; number = same }, k.1)
      | inr other ↦ inr (λ d l same.
          other (ap (λ (x : Block). x.header.number) (is_one IsBlock block_bytes block_at block b d k.0 l.block (k.1 ∙ sym same)) ∙ l.number))
    ]

-- ---- a front

record HasRecord (n : ℕ) (bytes : List ℕ) : Type 0 where
  committed : Committed
  rest : List ℕ
  is_record : IsRecord n committed
  bytes_are : bytes ≡ record_bytes committed ++ rest

abbrev Front : ℕ → List ℕ → Type 0
Front n bytes = IsBeginning n bytes ⊎ (IsDamaged n bytes ⊎ HasRecord n bytes)

module _ (n : ℕ) (b : Block) (bytes rest : List ℕ) (is : IsBlockAt n b) (are : bytes ≡ framed_bytes b ++ rest) (enough : length b.envelopes + 32 ≤ length rest)
  where
    abbrev numbers : List ℕ
    numbers = take (length b.envelopes) rest

    abbrev after : List ℕ
    after = drop (length b.envelopes) rest

    abbrev digest : List ℕ
    digest = take 32 after

    abbrev left : List ℕ
    left = drop 32 after

    one_each : length numbers ≡ length b.envelopes
    one_each = numbers_len n b bytes rest b.envelopes is are refl enough numbers after digest left refl refl refl refl

    digest_fits : length digest ≡ 32
    digest_fits = digest_len n b bytes rest b.envelopes is are refl enough numbers after digest left refl refl refl refl

    parts : bytes ≡ framed_bytes b ++ numbers ++ digest ++ left
    parts = split n b bytes rest b.envelopes is are refl enough numbers after digest left refl refl refl refl ∙
        sym (append_assoc (framed_bytes b ++ numbers) digest left)

    bad : ((¬ AreFlags numbers) ⊎ (digest ≢ sha256 (framed_bytes b ++ numbers))) → IsDamaged n bytes
    bad h = inr (inr (record {
      block = b;
      numbers = numbers;
      digest = digest;
      rest = left;
      is_block = is;
      one_each = one_each;
      digest_len = digest_fits;
      bad = h;
      bytes_are = parts;
    }))

    abbrev committed_of : Committed
    committed_of = record { block = b; flags = map flag_of numbers }

    good : map flag_number (map flag_of numbers) ≡ numbers → digest ≡ sha256 (framed_bytes b ++ numbers) → HasRecord n bytes
    good flags same =
        let before : digest_input committed_of ≡ framed_bytes b ++ numbers = ap (λ (l : List ℕ). framed_bytes b ++ l) flags in
        let all : record_bytes committed_of ≡ framed_bytes b ++ numbers ++ digest = ap₂ (λ (x y : List ℕ). x ++ y) before (ap sha256 before ∙ sym same) in
        record {
          committed = committed_of;
          rest = left;
          is_record = record { block = is; flags = length-map numbers flag_of ∙ one_each };
          bytes_are = parts ∙ ap (λ (l : List ℕ). l ++ left) (sym all);
        }

    sealed_front : Front n bytes
    sealed_front =
        elim (flags_or_not numbers) [
          | inr none ↦ inr (inl (bad (inl none)))
          | inl flags ↦ elim (same_or_not digest (sha256 (framed_bytes b ++ numbers)))
              [ inl same ↦ inr (inr (good flags same)) | inr other ↦ inr (inl (bad (inr other))) ]
        ]

behind_front : (n : ℕ) (b : Block) (bytes rest : List ℕ) → IsBlockAt n b → bytes ≡ framed_bytes b ++ rest → Front n bytes
behind_front n b bytes rest is are =
    elim (less_or_not (length rest) (length b.envelopes + 32)) [
      | inl short ↦ inl (inr (inr (record { block = b; part = rest; is_block = is; bytes_are = are; short = short })))
      | inr enough ↦ sealed_front n b bytes rest is are enough
    ]

-- all the bytes of the length are there
text_front : (n : ℕ) (bytes text rest : List ℕ) → IsLength (length text) → bytes ≡ to_be_bytes w32 (length text) ++ (text ++ rest) → Front n bytes
text_front n bytes text rest is are =
    let grouped : bytes ≡ to_be_bytes w32 (length text) ++ text ++ rest = are ∙ sym (append_assoc (to_be_bytes w32 (length text)) text rest) in
    elim (block_read n text (whole_at block_at text) refl) [
      | inl h ↦ behind_front n h.0 bytes rest h.1 (grouped ∙ ap (λ (t : List ℕ). to_be_bytes w32 (length t) ++ t ++ rest) (sym h.2))
      | inr none ↦ inr (inl (inr (inl (record { text = text; rest = rest; is_length = is; no_block = none; bytes_are = grouped }))))
    ]

length_front : (n len : ℕ) (bytes rest : List ℕ) → len < 2 ^ 32 → bytes ≡ to_be_bytes w32 len ++ rest → Front n bytes
length_front n len bytes rest fits are =
    elim (length_or_not len) [
      | inr none ↦ inr (inl (inl (record { len = len; rest = rest; fits = fits; no_length = none; bytes_are = are })))
      | inl is ↦ elim (less_or_not (length rest) len) [
        | inl short ↦ inl (inr (inl (record { len = len; part = rest; is_length = is; bytes_are = are; short = short })))
        | inr enough ↦
            let same : length (take len rest) ≡ len = omega (arith, enough, length-take len rest) in
            text_front n bytes (take len rest) (drop len rest) (subst IsLength (sym same) is)
            (are ∙ ap₂ (λ (m : ℕ) (t : List ℕ). to_be_bytes w32 m ++ t) (sym same) (sym (take-append-drop len rest)))
      ]
    ]

-- ---- bytes

abbrev AreBytes : List ℕ → Type 0
AreBytes bytes = AllByRecursion (λ b. b < 256) bytes

byte_at : (bytes : List ℕ) → AreBytes bytes → (i : ℕ) → get_or bytes i 0 < 256
byte_at [] h i = omega arith
byte_at (b ∷ bytes) h zero = h.0
byte_at (b ∷ bytes) h (suc i) = byte_at bytes h.1 i

bytes_behind : (front rest : List ℕ) → AreBytes (front ++ rest) → AreBytes rest
bytes_behind [] rest h = h
bytes_behind (b ∷ front) rest h = bytes_behind front rest h.1

front_of : (n : ℕ) (bytes : List ℕ) → AreBytes bytes → Front n bytes
front_of n bytes all =
    elim (less_or_not (length bytes) 4) [
      | inl few ↦ inl (inl few)
      | inr some ↦
          let fits = take_fits 4 bytes (byte_at bytes all) in
          let small : from_be_bytes w32 (take 4 bytes) < 2 ^ 32 = omega (arith, fits 0, fits 1, fits 2, fits 3) in
          length_front n (from_be_bytes w32 (take 4 bytes)) bytes (drop 4 bytes) small
          (length_split bytes (take 4 bytes) (drop 4 bytes) (from_be_bytes w32 (take 4 bytes)) refl refl (omega (arith, some, length-drop 4 bytes))
          (byte_at bytes all) refl)
    ]

-- ---- the whole store

abbrev HasAnswer : ℕ → List ℕ → Type 0
HasAnswer n bytes = (cs : List Committed) × (e : End) × Loads n bytes cs e

beginning_answer : (n : ℕ) (bytes : List ℕ) → IsBeginning n bytes → HasAnswer n bytes
beginning_answer n [] h = ([], Clean, refl)
beginning_answer n (b ∷ bytes) h = ([], Torn, ((λ e. absurd (cc e)), h))

shorter : (c : Committed) (bytes rest : List ℕ) (most : ℕ) → bytes ≡ record_bytes c ++ rest → length bytes ≤ suc most → length rest ≤ most
shorter c bytes rest most e h =
    let all = ap length e in
    omega (arith, all, h, length-append (record_bytes c) rest, length-append (digest_input c) (sha256 (digest_input c)), length-sha256 (digest_input c))

answer_of : (most n : ℕ) (bytes : List ℕ) → length bytes ≤ most → AreBytes bytes → HasAnswer n bytes
answer_of zero n bytes h all = beginning_answer n bytes (inl (omega (arith, h)))
answer_of (suc most) n bytes h all =
    elim (front_of n bytes all) [
      | inl begins ↦ beginning_answer n bytes begins
      | inr other ↦ elim other [
        | inl damaged ↦ ([], Damaged n, (refl, damaged))
        | inr whole ↦
            let behind = bytes_behind (record_bytes whole.committed) whole.rest (subst AreBytes whole.bytes_are all) in
            let more = answer_of most (suc n) whole.rest (shorter whole.committed bytes whole.rest most whole.bytes_are h) behind in
            (whole.committed ∷ more.0, more.1, (whole.rest, whole.is_record, whole.bytes_are, more.2))
      ]
    ]

pub has_answer : (bytes : List ℕ) → AllByRecursion (λ b. b < 256) bytes → (cs : List Committed) × (e : End) × Loads 1 bytes cs e
has_answer bytes all = answer_of (length bytes) 1 bytes (omega arith) all
