-- What a fault inside a part says of the whole.
use Rattle.std.proofs.Common.{◌≡◌, ℕ, ◌+◌, ◌≤◌, inl, inr, List, ◌∷◌, ◌++◌, length, Option, Some, None, slice_get, refl, sym, ap, ◌∙◌, subst, arith}
use Rattle.std.specs.Prelude.{◌<◌, MatchOption, max, option_map}
use Rattle.std.proofs.lemmas.Bool.{cases_eq, cases_lt}
use Rattle.wasm_profile.specs.declared.profile.Profile.{Profile}
use Rattle.wasm_profile.specs.declared.profile.Profile.TheVariants.{Core1, SignExtension}
use Rattle.wasm_bytes.specs.declared.fault.FaultKind.{FaultKind as ByteFaultKind}
use Rattle.wasm_bytes.specs.declared.fault.FaultKind.TheVariants as byte
use Rattle.wasm_bytes.specs.Spelling.{IsU32}
use Rattle.wasm_bytes.specs.Place.{Place, offset_of}
use Rattle.wasm_bytes.specs.Stands.{Spans, Says as BytesSay}
use Rattle.wasm_decode.specs.declared.fault.DecodeFault.{DecodeFault}
use Rattle.wasm_decode.specs.declared.fault.DecodeFault.TheVariants.{Memory, Malformed}
use Rattle.wasm_decode.specs.declared.fault.FaultKind.{FaultKind}
use Rattle.wasm_decode.specs.declared.fault.FaultKind.TheVariants.{Magic, Version, EndedEarly, BadNumber, SectionOrder, Length, Opcode, TypeByte, NotUtf8}
use Rattle.wasm_decode.specs.declared.fault.FaultKind.TheVariants.{Float, Limit, CountsDiffer, StartSection}
use Rattle.wasm_decode.specs.FaultNumbers.{kind_of}
use Rattle.wasm_decode.specs.Faults.{HasByte, HasNumber, PartEnds, IsFloatOpcode, IsReserved, ComesBehind, PassesSized, Stands, Says}
use Rattle.wasm_decode.specs.SectionReading.{section_rows}
use Rattle.grammar.specs.Table.{row_at}
use Rattle.wasm_ast.specs.declared.operators.LoadOp.{LoadOp}
use Rattle.wasm_ast.specs.declared.operators.StoreOp.{StoreOp}
use Rattle.wasm_operators.specs.Operators.{operator_rows, comparison_rows, arithmetic_32_rows, arithmetic_64_rows, conversion_rows, sign_extension_rows, load_rows}
use Rattle.wasm_operators.specs.Operators.{store_rows}
use Rattle.wasm_decode.specs.Opcodes.{Form, bare, access, load_of, store_of, with_form, other_rows, opcodes}
use Rattle.wasm_operators.specs.Operators.{alone}
use Rattle.wasm_operators.proofs.Rows.{first_of, row_at-append, row_at-map}

pub has_byte : (P : ℕ → Type 0) (bytes : List ℕ) (offset b : ℕ) → slice_get bytes offset ≡ Some b → P b → HasByte P bytes offset
has_byte P bytes offset b e h = subst (λ o. MatchOption o ⊥ P) (sym e) h

-- a part whose length stands at a place, and ends before that of its content
pub part_ends : (p mid content : Place) (n : ℕ) → Spans IsU32 n p.whole (offset_of p) (offset_of mid) → content.end ≡ offset_of mid + n →
    content.end ≤ length p.whole → PartEnds p.whole content.end
part_ends p mid content n spans e le = (offset_of p, le, (n, offset_of mid, spans, e))

stands_in_part : (profile : Profile) (kind : FaultKind) (offset inner end : ℕ) (bytes : List ℕ) → PartEnds bytes inner →
    Stands profile kind offset inner bytes →
    Stands profile kind offset end bytes
stands_in_part profile EndedEarly offset inner end bytes part (inl e) = inr (subst (PartEnds bytes) (sym e) part)
stands_in_part profile EndedEarly offset inner end bytes part (inr h) = inr h
stands_in_part profile Magic offset inner end bytes part h = h
stands_in_part profile Version offset inner end bytes part h = h
stands_in_part profile BadNumber offset inner end bytes part h = h
stands_in_part profile SectionOrder offset inner end bytes part h = h
stands_in_part profile Length offset inner end bytes part h = h
stands_in_part profile Opcode offset inner end bytes part h = h
stands_in_part profile TypeByte offset inner end bytes part h = h
stands_in_part profile NotUtf8 offset inner end bytes part h = h
stands_in_part profile Float offset inner end bytes part h = h
stands_in_part profile Limit offset inner end bytes part h = h
stands_in_part profile CountsDiffer offset inner end bytes part h = h
stands_in_part profile StartSection offset inner end bytes part h = h

-- a fault in the content of a part
pub in_part : (profile : Profile) (e : DecodeFault) (content p : Place) → content.whole ≡ p.whole → PartEnds p.whole content.end →
    Says profile e content.end content.whole →
    Says profile e p.end p.whole
in_part profile Memory content p same part h = tt
in_part profile (Malformed kind offset) content p same part h =
    stands_in_part profile kind offset content.end p.end p.whole part (subst (Stands profile kind offset content.end) same h)

pub of_bytes : (profile : Profile) (kind : ByteFaultKind) (offset end : ℕ) (bytes : List ℕ) → BytesSay kind offset end bytes →
    Stands profile (kind_of kind) offset end bytes
of_bytes profile byte.EndedEarly offset end bytes h = inl h
of_bytes profile byte.BadNumber offset end bytes h = h
of_bytes profile byte.NotUtf8 offset end bytes h = h

none_mapped : {A B : Type 0} (f : A → B) (o : Option A) → None ≡ option_map f o → o ≡ None
none_mapped f None e = refl
none_mapped f (Some x) e = absurd cc

pub no_operator : (profile : Profile) (b : ℕ) → None ≡ option_map alone (row_at (operator_rows profile) b) → row_at (operator_rows profile) b ≡ None
no_operator profile b e = none_mapped alone (row_at (operator_rows profile) b) e

-- a byte that is in no table of opcodes
pub unlisted : (profile : Profile) (b : ℕ) → row_at (operator_rows profile) b ≡ None → row_at load_rows b ≡ None → row_at store_rows b ≡ None →
    row_at other_rows b ≡ None →
    row_at (opcodes profile) b ≡ None
unfolding opcodes
unlisted profile b operator load store other =
    let access_load : LoadOp → Form = λ o. access (load_of o) in
    let access_store : StoreOp → Form = λ o. access (store_of o) in
    let first = row_at-map bare (operator_rows profile) b ∙ ap (option_map bare) operator in
    let second = row_at-map access_load load_rows b ∙ ap (option_map access_load) load in
    let third = row_at-map access_store store_rows b ∙ ap (option_map access_store) store in
    let last = row_at-append (with_form access_store store_rows) other_rows b ∙ ap (λ o. first_of o (row_at other_rows b)) third ∙ other in
    let rest = row_at-append (with_form access_load load_rows) (with_form access_store store_rows ++ other_rows) b ∙
    ap (λ o. first_of o (row_at (with_form access_store store_rows ++ other_rows) b)) second ∙ last in
    row_at-append (with_form bare (operator_rows profile)) (with_form access_load load_rows ++ (with_form access_store store_rows ++ other_rows)) b ∙
    ap (λ o. first_of o (row_at (with_form access_load load_rows ++ (with_form access_store store_rows ++ other_rows)) b)) first ∙ rest

pub else_unlisted : (profile : Profile) → row_at (opcodes profile) 0x05 ≡ None
unfolding opcodes operator_rows comparison_rows arithmetic_32_rows arithmetic_64_rows conversion_rows sign_extension_rows load_rows store_rows other_rows
else_unlisted Core1 = refl
else_unlisted SignExtension = refl

pub else_of_no_float : ¬ IsFloatOpcode 0x05
else_of_no_float = λ h. grind arith

-- behind the index of a `call_indirect`
pub behind_index : (old mid : Place) (n start : ℕ) → HasByte (λ o. o ≡ 0x11) old.whole start → offset_of old ≡ start + 1 →
    Spans IsU32 n old.whole (offset_of old) (offset_of mid) → mid.whole ≡ old.whole → IsReserved mid.whole (offset_of mid)
behind_index old mid n start op at spans same =
    subst (λ bytes. IsReserved bytes (offset_of mid)) (sym same)
    (start, inr (op, (n, offset_of mid, subst (λ k. Spans IsU32 n old.whole k (offset_of mid)) at spans, refl)))

-- behind `memory.size` or `memory.grow`
pub behind_opcode : (p : Place) (byte offset : ℕ) → slice_get p.whole offset ≡ Some byte → 0x3f ≤ byte → byte ≤ 0x40 → offset_of p ≡ offset + 1 →
    IsReserved p.whole (offset_of p)
behind_opcode p byte offset here least most behind =
    (offset, inl (has_byte (λ o. (0x3f ≤ o) × (o ≤ 0x40)) p.whole offset byte here (least, most), behind))

-- one section more
pub passed_section : (last id next : ℕ) (old mid new : Place) → ComesBehind last old.whole (offset_of old) → next ≡ max id last →
    slice_get old.whole (offset_of old) ≡ Some id → offset_of mid ≡ offset_of old + 1 → mid.whole ≡ old.whole → new.whole ≡ mid.whole →
    PassesSized mid new → ComesBehind next new.whole (offset_of new)
passed_section last id next old mid new behind greater at step same kept sized =
    let here : HasNumber (λ size end. offset_of new ≡ end + size) old.whole (offset_of old + 1) =
    subst (λ bytes. HasNumber (λ size end. offset_of new ≡ end + size) bytes (offset_of old + 1)) same
    (subst (λ k. HasNumber (λ size end. offset_of new ≡ end + size) mid.whole k) step sized) in
    subst (λ bytes. ComesBehind next bytes (offset_of new)) (sym (kept ∙ same)) (
      id ∷ behind.0,
      (offset_of old, behind.1, has_byte (λ b. b ≡ id) old.whole (offset_of old) id at refl, here),
      greater ∙ ap (max id) behind.2,
    )

-- the fault of an id that no section has
pub order_told : (profile : Profile) (last id offset end : ℕ) (bytes : List ℕ) (kind : FaultKind) → ((id ≡ 8) × (last < 8) → kind ≡ StartSection) →
    (¬ ((id ≡ 8) × (last < 8)) → kind ≡ SectionOrder) → slice_get bytes offset ≡ Some id → 0 < id → row_at section_rows id ≡ None →
    ComesBehind last bytes offset → Stands profile kind offset end bytes
order_told profile last id offset end bytes kind start other at some none behind =
    elim (cases_eq id 8) as (λ _. Stands profile kind offset end bytes) [
      | inl e ↦ elim (cases_lt last 8) as (λ _. Stands profile kind offset end bytes) [
        | inl low ↦ subst (λ k. Stands profile k offset end bytes) (sym (start (e, low))) (has_byte _ bytes offset id at (e, last, behind, low))
        | inr far ↦ subst (λ k. Stands profile k offset end bytes) (sym (other (λ both. omega (arith, both, far))))
            (has_byte _ bytes offset id at (some, last, behind, inr (omega (arith, e, far))))
      ]
      | inr ne ↦ subst (λ k. Stands profile k offset end bytes) (sym (other (λ both. ne both.0)))
          (has_byte _ bytes offset id at (some, last, behind, inl (none, ne)))
    ]
