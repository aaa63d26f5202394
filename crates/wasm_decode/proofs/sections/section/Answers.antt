use Rattle.std.proofs.Common.{◌≡◌, ◌<◌, ℕ, Some, inr, sym, subst, arith}
use Rattle.grammar.specs.Reading.{byte_at}
use Rattle.wasm_bytes.specs.Place.{offset_of}
use Rattle.wasm_decode.proofs.FaultLaws.{has_byte, order_told, passed_section}
use Rattle.wasm_decode.proofs.SectionSteps.{custom_read, unknown_none, misplaced_none, known_read}
use Rattle.wasm_decode.proofs.sections.section.Goals as goal

pub returns-then-id-eq0-clause-behind : goal.returns-then-id-eq0-clause-behind
returns-then-id-eq0-clause-behind c =
    passed_section c.args.last c.in_ok-id.id c.args.last c.args.cursor.now c.byte.new.self c.custom.new.cursor c.requires.behind (omega arith)
    c.in_ok-id.ensures.here c.in_ok-id.ensures.next c.in_ok-id.ensures.stands.1 c.in_ok-custom.ensures.tells.0 c.in_ok-custom.ensures.sized

pub returns-in_default-clause-tells : goal.returns-in_default-clause-tells
returns-in_default-clause-tells c =
    let old = c.args.cursor.now in
    rw (c.refuse.ensures, c.offset-offset.ensures)
    (order_told c.args.profile c.args.last c.in_ok-id.id (offset_of old) old.end old.whole c.order_fault.result c.order_fault.ensures.start
    c.order_fault.ensures.other c.in_ok-id.ensures.here (omega arith) (sym c.in_default.ensures) c.requires.behind)

pub returns-then-id-last-clause-tells : goal.returns-then-id-last-clause-tells
returns-then-id-last-clause-tells c =
    let old = c.args.cursor.now in
    rw (c.refuse-then-id-last.ensures, c.offset-offset.ensures)
    (has_byte _ old.whole (offset_of old) c.in_ok-id.id c.in_ok-id.ensures.here (omega arith, c.args.last, c.requires.behind, inr c.if-id-last.true))

pub returns-clause-behind : goal.returns-clause-behind
returns-clause-behind c =
    passed_section c.args.last c.in_ok-id.id c.in_ok-id.id c.args.cursor.now c.byte.new.self c.known.new.cursor c.requires.behind (omega arith)
    c.in_ok-id.ensures.here c.in_ok-id.ensures.next c.in_ok-id.ensures.stands.1 c.in_ok-known.ensures.tells.0 c.in_ok-known.ensures.sized

pub returns-then-id-eq0-clause-read : goal.returns-then-id-eq0-clause-read
returns-then-id-eq0-clause-read c =
    let zero_id : c.in_ok-id.id ≡ 0 = omega arith in
    custom_read c.args.profile c.args.last c.args.parts.now c.args.cursor.now.rest c.byte.new.self.rest c.custom.new.cursor.rest
    (subst (λ (id : ℕ). byte_at c.args.cursor.now.rest ≡ Some (id, c.byte.new.self.rest)) zero_id c.in_ok-id.ensures.read.0) c.in_ok-custom.ensures.read

pub returns-in_default-clause-read : goal.returns-in_default-clause-read
returns-in_default-clause-read c =
    let some_id : 0 < c.in_ok-id.id = omega arith in
    rw c.refuse.ensures
    (unknown_none c.args.profile c.args.last c.args.parts.now c.args.cursor.now.rest c.byte.new.self.rest c.in_ok-id.id c.in_ok-id.ensures.read.0 some_id
    (sym c.in_default.ensures))

pub returns-then-id-last-clause-read : goal.returns-then-id-last-clause-read
returns-then-id-last-clause-read c =
    let some_id : 0 < c.in_ok-id.id = omega arith in
    rw c.refuse-then-id-last.ensures
    (misplaced_none c.args.profile c.args.last c.args.parts.now c.args.cursor.now.rest c.byte.new.self.rest c.in_ok-id.id c.in_ok-id.ensures.read.0 some_id
    c.in-Some.kind (sym c.in-Some.ensures) c.if-id-last.true)

pub returns-clause-read : goal.returns-clause-read
returns-clause-read c =
    let some_id : 0 < c.in_ok-id.id = omega arith in
    known_read c.args.profile c.args.last c.args.parts.now c.args.cursor.now.rest c.byte.new.self.rest c.in_ok-id.id c.in_ok-id.ensures.read.0 some_id
    c.in-Some.kind (sym c.in-Some.ensures) c.known.new.parts c.known.new.cursor.rest c.if-id-last.false c.in_ok-known.ensures.read
