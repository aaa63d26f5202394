-- What the pieces of some bytes are.
use Rattle.std.proofs.Common.{◌≡◌, ◌≢◌, ℕ, zero, suc, ◌+◌, ◌-◌, ◌<◌, ◌≤◌, ◌⊎◌, inr, List, [], ◌∷◌, ◌++◌, length, take, drop, get_or, Option, Some, None, refl}
use Rattle.std.proofs.Common.{sym, ap, ap₂, subst, ◌∙◌, append_assoc, arith}
use Rattle.std.specs.Int.{w32, to_be_bytes, from_be_bytes}
use Rattle.std.proofs.lemmas.Nat.{be_bytes_4}
use Rattle.std.proofs.lemmas.List.{take-append-drop, length-append, length-take, length-drop, take_at, drop_at}
use Rattle.sha2.specs.Sha256.{sha256}
use Rattle.fab_types.specs.Committed.{Committed}
use Rattle.fab_types.specs.declared.block.Block.{Block}
use Rattle.fab_types.specs.declared.envelope.Envelope.{Envelope}
use Rattle.block_store.specs.Record.{framed_bytes, digest_input, record_bytes, IsBlockAt}
use Rattle.block_store.specs.Store.{AreFlags, IsDamaged, HasBadEnd}
use Rattle.block_store.specs.Front.{Seals, IsWhole}

pub take_fits : (n : ℕ) (xs : List ℕ) → ((i : ℕ) → get_or xs i 0 < 256) → (i : ℕ) → get_or (take n xs) i 0 < 256
take_fits zero xs h i = omega arith
take_fits (suc n) [] h i = omega arith
take_fits (suc n) (x ∷ xs) h zero = h 0
take_fits (suc n) (x ∷ xs) h (suc i) = take_fits n xs (λ j. h (suc j)) i

-- the length in front
pub length_split : (bytes front rest : List ℕ) (n : ℕ) → front ≡ take 4 bytes → rest ≡ drop 4 bytes → length rest + 4 ≡ length bytes →
    ((i : ℕ) → get_or bytes i 0 < 256) → n ≡ from_be_bytes w32 front → bytes ≡ to_be_bytes w32 n ++ rest
length_split bytes front rest n a b all fits e =
    let len : length front ≡ 4 = ap length a ∙ omega (arith, all, length-take 4 bytes) in
    let small : (i : ℕ) → get_or front i 0 < 256 = λ i. subst (λ (t : List ℕ). get_or t i 0 < 256) (sym a) (take_fits 4 bytes fits i) in
    sym (take-append-drop 4 bytes) ∙ ap₂ (λ (x y : List ℕ). x ++ y) (sym a) (sym b) ∙ ap (λ (x : List ℕ). x ++ rest) (sym (be_bytes_4 front n len small e))

-- ---- behind a whole block

four : (a b c d : List ℕ) → a ++ (b ++ (c ++ d)) ≡ (a ++ b) ++ (c ++ d)
four a b c d = simp append_assoc

module _ (n : ℕ) (b : Block) (bytes rest : List ℕ) (envelopes : List Envelope) (is_block : IsBlockAt n b) (bytes_are : bytes ≡ framed_bytes b ++ rest)
    (same : envelopes ≡ b.envelopes) (enough : length envelopes + 32 ≤ length rest)
    (numbers after digest left : List ℕ) (m : numbers ≡ take (length envelopes) rest) (a : after ≡ drop (length envelopes) rest) (d : digest ≡ take 32 after)
    (l : left ≡ drop 32 after) where
  front : List ℕ
  front = framed_bytes b ++ numbers

  pub numbers_len : length numbers ≡ length b.envelopes
  numbers_len = ap length m ∙ omega (arith, length-take (length envelopes) rest, enough) ∙ ap length same

  after_len : 32 ≤ length after
  after_len = let e = ap length a in omega (arith, length-drop (length envelopes) rest, enough, e)

  pub digest_len : length digest ≡ 32
  digest_len = let h = after_len in ap length d ∙ omega (arith, length-take 32 after, h)

  pub split : bytes ≡ (framed_bytes b ++ numbers) ++ (digest ++ left)
  split =
      let tail : after ≡ digest ++ left = sym (take-append-drop 32 after) ∙ ap₂ (λ (x y : List ℕ). x ++ y) (sym d) (sym l) in
      let rest_is : rest ≡ numbers ++ (digest ++ left) =
      sym (take-append-drop (length envelopes) rest) ∙ ap₂ (λ (x y : List ℕ). x ++ y) (sym m) (sym a ∙ tail) in
      bytes_are ∙ ap (λ (r : List ℕ). framed_bytes b ++ r) rest_is ∙ four (framed_bytes b) numbers digest left

  taken_is : length bytes - length left ≡ length (framed_bytes b ++ numbers) + 32
  taken_is =
      let all = ap length split in
      let h = digest_len in
      omega (arith, all, h, length-append (framed_bytes b ++ numbers) (digest ++ left), length-append digest left)

  before_is : take ((length bytes - length left) - 32) bytes ≡ framed_bytes b ++ numbers
  before_is =
      let t = taken_is in
      let k : (length bytes - length left) - 32 ≡ length (framed_bytes b ++ numbers) = omega (arith, t) in
      ap (λ (x : ℕ). take x bytes) k ∙ ap (λ (x : List ℕ). take (length (framed_bytes b ++ numbers)) x) split ∙
      take_at (framed_bytes b ++ numbers) (digest ++ left) (length (framed_bytes b ++ numbers)) refl

  dropped : drop (length bytes - length left) bytes ≡ left
  dropped =
      let f = framed_bytes b ++ numbers in
      let h = digest_len in
      let len : length (f ++ digest) ≡ length bytes - length left = omega (arith, length-append f digest, h) ∙ sym taken_is in
      ap (λ (x : List ℕ). drop (length bytes - length left) x) (split ∙ sym (append_assoc f digest left)) ∙
      drop_at (f ++ digest) left (length bytes - length left) len

  whole_of : (c : Committed) → Seals b (take ((length bytes - length left) - 32) bytes) numbers digest (Some c) → IsWhole n bytes c (length bytes - length left)
  whole_of c h =
      let f = framed_bytes b ++ numbers in
      let digested_is : digest_input c ≡ f = ap₂ (λ (x : Block) (y : List ℕ). framed_bytes x ++ y) h.0 h.1 in
      let digest_is : digest ≡ sha256 (digest_input c) = h.2 ∙ ap sha256 (before_is ∙ sym digested_is) in
      let record_is : record_bytes c ≡ f ++ digest = ap₂ (λ (x y : List ℕ). x ++ y) digested_is (sym digest_is) in
      let t = taken_is in
      let all = ap length split in
      let len = digest_len in
      record {
        is_record = record { block = subst (λ (x : Block). IsBlockAt n x) (sym h.0) is_block; flags = h.3 ∙ ap (λ (x : Block). length x.envelopes) (sym h.0) };
        some = omega (arith, t);
        within = omega arith;
        bytes_are = split ∙ sym (append_assoc f digest left) ∙ ap₂ (λ (x y : List ℕ). x ++ y) (sym record_is) (sym dropped);
      }

  pub whole_front : (o : Option Committed) (c : Committed) → o ≡ Some c → Seals b (take ((length bytes - length left) - 32) bytes) numbers digest o →
      IsWhole n bytes c (length bytes - length left)
  whole_front o c e h = whole_of c (subst (λ (o : Option Committed). Seals b (take ((length bytes - length left) - 32) bytes) numbers digest o) e h)

  bad_of : Seals b (take ((length bytes - length left) - 32) bytes) numbers digest None → HasBadEnd n bytes
  bad_of h =
      record {
        block = b;
        numbers = numbers;
        digest = digest;
        rest = left;
        is_block = is_block;
        one_each = numbers_len;
        digest_len = digest_len;
        bad = subst (λ (x : List ℕ). (¬ AreFlags numbers) ⊎ (digest ≢ sha256 x)) before_is h;
        bytes_are = split ∙ sym (append_assoc (framed_bytes b ++ numbers) digest left);
      }

  pub bad_front : (o : Option Committed) → o ≡ None → Seals b (take ((length bytes - length left) - 32) bytes) numbers digest o → IsDamaged n bytes
  bad_front o e h = inr (inr (bad_of (subst (λ (o : Option Committed). Seals b (take ((length bytes - length left) - 32) bytes) numbers digest o) e h)))
