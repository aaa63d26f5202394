use Rattle.std.proofs.Common.{inr, arith}
use Rattle.wasm_bytes.specs.Place.{offset_of}
use Rattle.wasm_decode.proofs.FaultLaws.{has_byte}
use Rattle.wasm_decode.proofs.code.reserved.Goals as goal

pub returns-then-branch-ne0-clause-tells : goal.returns-then-branch-ne0-clause-tells
returns-then-branch-ne0-clause-tells c =
    rw (c.refuse.ensures, c.offset-offset.ensures)
    (λ _. has_byte _ c.args.cursor.now.whole (offset_of c.args.cursor.now) c.in_ok-byte.field-0 c.in_ok-byte.ensures.here
    (inr (omega (arith, c.if-branch-ne0.true), c.requires)))
