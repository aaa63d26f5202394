use Rattle.std.proofs.Common.{◌≡◌, ◌^◌, Some, None, ap, rules, to_z, of_z, w32, w64}
use Rattle.wasm_bytes.specs.Spelling.{IsS32}
use Rattle.wasm_bytes.specs.Reading.{s32_at}
use Rattle.wasm_bytes.specs.Laws.Leb.{signed_reads}
use Rattle.wasm_bytes.specs.Place.{Place}
use Rattle.wasm_bytes.specs.Faults.{s32_fault, fault_at}
use Rattle.wasm_bytes.proofs.Items.{taken, nothing}
use Rattle.wasm_bytes.proofs.Places.{fits_after, spans, told, says_s32}
use Rattle.wasm_bytes.proofs.cursor.Cursor.i32_leb.Goals as goal

pub returns-in-Ok-clause-item : goal.returns-in-Ok-clause-item
returns-in-Ok-clause-item c =
    let bytes = c.args.self.now.rest in
    let read : s32_at bytes ≡ Some (to_z w32 (of_z w32 (to_z w64 (of_z w64 c.in-Ok.number))), c.in-Ok.rest.now) = search rules in
    let t = taken IsS32 s32_at (signed_reads (2 ^ 31)) bytes _ c.in-Ok.rest.now read in
    (t.0, t.1, t.2, search rules)

pub returns-in-Err-clause-item : goal.returns-in-Err-clause-item
returns-in-Err-clause-item c =
    let bytes = c.args.self.now.rest in
    let read : s32_at bytes ≡ None = search rules in
    (nothing IsS32 s32_at (signed_reads (2 ^ 31)) bytes read, search rules)

pub invariant_of-self : goal.invariant_of-self
invariant_of-self c =
    let inside = c.self.inside in
    let read : s32_at inside.rest.now ≡ Some (to_z w32 (of_z w32 (to_z w64 (of_z w64 c.in-Ok.number))), c.in-Ok.rest.now) = search rules in
    let t = taken IsS32 s32_at (signed_reads (2 ^ 31)) inside.rest.now _ c.in-Ok.rest.now read in
    fits_after inside.whole.now inside.end inside.rest.now t.0 c.in-Ok.rest.now c.self.invariant t.2

pub returns-in-Ok-clause-stands : goal.returns-in-Ok-clause-stands
returns-in-Ok-clause-stands c =
    let inside = c.self.inside in
    let read : s32_at inside.rest.now ≡ Some (to_z w32 (of_z w32 (to_z w64 (of_z w64 c.in-Ok.number))), c.in-Ok.rest.now) = search rules in
    let t = taken IsS32 s32_at (signed_reads (2 ^ 31)) inside.rest.now _ c.in-Ok.rest.now read in (
      spans IsS32 _ inside.whole.now inside.end inside.rest.now t.0 c.in-Ok.rest.now c.args.self.now c.self.invariant.1 c.self.view_is t.1 t.2,
      ap (λ (p : Place). p.whole) c.self.view_is,
    )

pub returns-in-Err-clause-stands : goal.returns-in-Err-clause-stands
returns-in-Err-clause-stands c =
    let inside = c.self.inside in
    let read : s32_at inside.rest.now ≡ None = search rules in
    let kind : c.in-Err.kind ≡ s32_fault inside.rest.now = search rules in
    let fault : c.fault.result ≡ fault_at c.args.self.now c.in-Err.kind = search rules in
    told inside.whole.now inside.end inside.rest.now c.self.invariant.1 c.args.self.now c.self.view_is c.fault.result c.in-Err.kind fault
    (says_s32 inside.whole.now inside.end inside.rest.now c.self.invariant.1 (nothing IsS32 s32_at (signed_reads (2 ^ 31)) inside.rest.now read)
    c.in-Err.kind kind)
