use Rattle.std.proofs.Common.{Ok, ap, ◌∙◌, ◌%◌, arith}
use Rattle.wasm_num.specs.Laws.Rotations.{or-rotated_left, or-rotated_right}
use Rattle.wasm_num.proofs.word32.binary.Goals as goal

pub returns-in-Rotl : goal.returns-in-Rotl
returns-in-Rotl c =
    rw c.in-Rotl.is (ap Ok (c.rotate_left.ensures ∙ or-rotated_left 32 (c.args.b % 32) c.args.a (omega arith) c.ranges.a.fits))

pub returns-in-Rotr : goal.returns-in-Rotr
returns-in-Rotr c =
    rw c.in-Rotr.is (ap Ok (c.rotate_right.ensures ∙ or-rotated_right 32 (c.args.b % 32) c.args.a (omega arith) c.ranges.a.fits))
