use Rattle.std.proofs.Common.{◌∙◌, arith}
use Rattle.edwards25519.proofs.Digits.{first_row, next_row, last_row}
use Rattle.edwards25519.proofs.comb.row_for.Goals as goal

pub loop-place-init : goal.loop-place-init
loop-place-init c = c.neutral-row.ensures ∙ first_row c.args.digit c.args.rows.now

pub loop-place-preserved : goal.loop-place-preserved
loop-place-preserved c = next_row c.loop-place.place c.args.digit c.args.rows.now c.loop-place.row _ c.loop-place.invariant c.or-row.ensures

pub returns : goal.returns
returns c = c.loop-place.invariant ∙ last_row c.loop-place.place c.args.digit c.args.rows.now (omega arith) c.requires
