use Rattle.std.proofs.Common.{◌≡◌, Some, None, ap, rules}
use Rattle.wasm_bytes.specs.Spelling.{IsName}
use Rattle.wasm_bytes.specs.Reading.{name_at}
use Rattle.wasm_bytes.specs.Laws.Names.{name_reads}
use Rattle.wasm_bytes.specs.Place.{Place}
use Rattle.wasm_bytes.specs.Faults.{name_fault, fault_at}
use Rattle.wasm_bytes.proofs.Items.{taken, nothing}
use Rattle.wasm_bytes.proofs.Places.{fits_after, spans, told, says_name}
use Rattle.wasm_bytes.proofs.cursor.Cursor.name.Goals as goal

pub returns-in-Ok-clause-item : goal.returns-in-Ok-clause-item
returns-in-Ok-clause-item c =
    let bytes = c.args.self.now.rest in
    let read : name_at bytes ≡ Some (c.in-Ok.name.now, c.in-Ok.rest.now) = search rules in
    let t = taken IsName name_at name_reads bytes _ c.in-Ok.rest.now read in
    (t.0, t.1, t.2, search rules)

pub returns-in-Err-clause-item : goal.returns-in-Err-clause-item
returns-in-Err-clause-item c =
    let bytes = c.args.self.now.rest in
    let read : name_at bytes ≡ None = search rules in
    (nothing IsName name_at name_reads bytes read, search rules)

pub invariant_of-self : goal.invariant_of-self
invariant_of-self c =
    let inside = c.self.inside in
    let read : name_at inside.rest.now ≡ Some (c.in-Ok.name.now, c.in-Ok.rest.now) = search rules in
    let t = taken IsName name_at name_reads inside.rest.now _ c.in-Ok.rest.now read in
    fits_after inside.whole.now inside.end inside.rest.now t.0 c.in-Ok.rest.now c.self.invariant t.2

pub returns-in-Ok-clause-stands : goal.returns-in-Ok-clause-stands
returns-in-Ok-clause-stands c =
    let inside = c.self.inside in
    let read : name_at inside.rest.now ≡ Some (c.in-Ok.name.now, c.in-Ok.rest.now) = search rules in
    let t = taken IsName name_at name_reads inside.rest.now _ c.in-Ok.rest.now read in (
      spans IsName _ inside.whole.now inside.end inside.rest.now t.0 c.in-Ok.rest.now c.args.self.now c.self.invariant.1 c.self.view_is t.1 t.2,
      ap (λ (p : Place). p.whole) c.self.view_is,
    )

pub returns-in-Err-clause-stands : goal.returns-in-Err-clause-stands
returns-in-Err-clause-stands c =
    let inside = c.self.inside in
    let read : name_at inside.rest.now ≡ None = search rules in
    let kind : c.in-Err.kind ≡ name_fault inside.rest.now = search rules in
    let fault : c.fault.result ≡ fault_at c.args.self.now c.in-Err.kind = search rules in
    told inside.whole.now inside.end inside.rest.now c.self.invariant.1 c.args.self.now c.self.view_is c.fault.result c.in-Err.kind fault
    (says_name inside.whole.now inside.end inside.rest.now c.self.invariant.1 c.in-Err.kind kind read)
