use Rattle.std.proofs.Common.{◌∙◌, ap, sym, subst}
use Rattle.edwards25519.specs.Prepared.{IsRow}
use Rattle.edwards25519.proofs.Rows.{point_of}
use Rattle.edwards25519.proofs.Digits.{row_at}
use Rattle.edwards25519.proofs.comb.multiple_of_base.Goals as goal

pub prepared-requires : goal.prepared-requires
prepared-requires c = subst IsRow (sym c.row_for.ensures) (row_at c.args.window c.args.digit c.requires.window c.requires.digit).0

pub returns : goal.returns
returns c = c.prepared.ensures ∙ ap point_of c.row_for.ensures ∙ (row_at c.args.window c.args.digit c.requires.window c.requires.digit).1
