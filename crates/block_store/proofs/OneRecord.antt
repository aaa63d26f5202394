-- Bytes that are one record.
use Rattle.std.proofs.Common.{◌≡◌, ◌≢◌, ℕ, ◌+◌, ◌-◌, List, [], ◌++◌, Ok, length, map, drop, append-nil, refl, sym, ap, ◌∙◌, arith}
use Rattle.std.specs.Int.{w32, to_be_bytes}
use Rattle.std.proofs.lemmas.List.{drop_all, length-append, length-drop, length-map}
use Rattle.sha2.specs.Sha256.{sha256}
use Rattle.sha2.proofs.Facts256.{length-sha256}
use Rattle.fab_types.specs.Committed.{Committed}
use Rattle.fab_types.specs.FlagNumber.{flag_number}
use Rattle.fab_types.specs.BlockSpelling.{block_bytes, block_size}
use Rattle.fab_types.specs.BlockWithin.{IsBlock}
use Rattle.wire.proofs.BlockLaws.{block_made}
use Rattle.block_store.specs.Front.{IsWhole}
use Rattle.block_store.specs.Record.{digest_input, framed_bytes, record_bytes, IsRecord}
use Rattle.block_store.specs.Store.{IsBeginning, IsDamaged}
use Rattle.block_store.proofs.OneAnswer.{not_beginning, not_damaged, same_record}

-- a record that takes all of the bytes
pub all_taken : (n : ℕ) (bytes : List ℕ) (c : Committed) (taken : ℕ) → IsWhole n bytes c taken → taken ≡ length bytes → record_bytes c ≡ bytes
all_taken n bytes c taken is all =
    let none : drop taken bytes ≡ [] = drop_all taken bytes (omega (arith, all)) in
    sym (is.bytes_are ∙ ap (λ (rest : List ℕ). record_bytes c ++ rest) none ∙ append-nil (record_bytes c))

behind_nothing : (bytes : List ℕ) (d : Committed) → record_bytes d ≡ bytes → bytes ≡ record_bytes d ++ []
behind_nothing bytes d are = sym are ∙ sym (append-nil (record_bytes d))

-- one that takes only some of them
pub not_all_taken : (n : ℕ) (bytes : List ℕ) (c : Committed) (taken : ℕ) → IsWhole n bytes c taken → taken ≢ length bytes →
    (d : Committed) → IsRecord n d → record_bytes d ≢ bytes
not_all_taken n bytes c taken is some d other are =
    let same = same_record n bytes d c [] (drop taken bytes) other is.is_record (behind_nothing bytes d are) is.bytes_are in
    let none = ap length same.1 in
    let within = is.within in
    some (omega (arith, none, within, length-drop taken bytes))

pub no_beginning : (n : ℕ) (bytes : List ℕ) → IsBeginning n bytes → (d : Committed) → IsRecord n d → record_bytes d ≢ bytes
no_beginning n bytes begins d is are = not_beginning n bytes d [] is (behind_nothing bytes d are) begins

pub no_damage : (n : ℕ) (bytes : List ℕ) → IsDamaged n bytes → (d : Committed) → IsRecord n d → record_bytes d ≢ bytes
no_damage n bytes damaged d is are = not_damaged n bytes d [] is (behind_nothing bytes d are) damaged

-- how many bytes a record has
pub record_length : (c : Committed) → IsBlock c.block → length (record_bytes c) ≡ 4 + block_size c.block + length c.flags + 32
record_length c k =
    let block : length (block_bytes c.block) ≡ block_size c.block =
    block_made {X = Unit {0}} {E = Unit {0}} (Ok tt) c.block k.header (k.envelopes, k.each_envelope) in
    let size = to_be_bytes w32 (length (block_bytes c.block)) in
    let numbers = map flag_number c.flags in
    omega (
      arith,
      block,
      length-append size (block_bytes c.block),
      length-append (framed_bytes c.block) numbers,
      length-map c.flags flag_number,
      length-append (digest_input c) (sha256 (digest_input c)),
      length-sha256 (digest_input c),
    )
