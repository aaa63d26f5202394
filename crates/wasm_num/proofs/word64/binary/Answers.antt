use Rattle.std.proofs.Common.{Ok, ap, sym, ◌∙◌, ◌≡◌, ◌%◌, arith}
use Rattle.wasm_num.specs.Laws.Rotations.{or-rotated_left, or-rotated_right}
use Rattle.wasm_num.proofs.word64.binary.Goals as goal

pub returns-in-Rotl : goal.returns-in-Rotl
returns-in-Rotl c =
    let same : c.places-in-Rotl.result % 64 ≡ c.args.b % 64 = omega (arith, c.places-in-Rotl.ensures) in
    rw (c.in-Rotl.is, sym same) (ap Ok (c.rotate_left.ensures ∙ or-rotated_left 64 (c.places-in-Rotl.result % 64) c.args.a (omega arith) c.ranges.a.fits))

pub returns-in-Rotr : goal.returns-in-Rotr
returns-in-Rotr c =
    let same : c.places-in-Rotr.result % 64 ≡ c.args.b % 64 = omega (arith, c.places-in-Rotr.ensures) in
    rw (c.in-Rotr.is, sym same) (ap Ok (c.rotate_right.ensures ∙ or-rotated_right 64 (c.places-in-Rotr.result % 64) c.args.a (omega arith) c.ranges.a.fits))
