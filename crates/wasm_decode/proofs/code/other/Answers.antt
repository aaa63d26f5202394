use Rattle.std.proofs.Common.{◌≡◌, None, rules, arith}
use Rattle.grammar.specs.Table.{row_at}
use Rattle.wasm_decode.specs.Opcodes.{other_rows}
use Rattle.wasm_decode.proofs.FaultLaws.{unlisted, behind_opcode}
use Rattle.wasm_decode.proofs.code.other.Goals as goal

pub reserved-requires : goal.reserved-requires
reserved-requires c =
    behind_opcode c.args.cursor.now c.args.opcode.byte c.args.opcode.offset c.requires.here (omega (arith, c.in-63.is)) (omega (arith, c.in-63.is))
    c.requires.behind

pub reserved-requires-in-64 : goal.reserved-requires-in-64
reserved-requires-in-64 c =
    behind_opcode c.args.cursor.now c.args.opcode.byte c.args.opcode.offset c.requires.here (omega (arith, c.in-64.is)) (omega (arith, c.in-64.is))
    c.requires.behind

pub opcode_fault-requires : goal.opcode_fault-requires
unfolding other_rows
opcode_fault-requires c =
    let none : row_at other_rows c.args.opcode.byte ≡ None = search rules in
    unlisted c.args.profile c.args.opcode.byte c.requires.operator c.requires.load c.requires.store none
