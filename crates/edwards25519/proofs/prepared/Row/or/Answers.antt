use Rattle.std.proofs.Common.{◌∙◌, ap}
use Rattle.std.specs.Prelude.{if◌then◌else◌}
use Rattle.edwards25519.specs.Prepared.{row_of}
use Rattle.edwards25519.proofs.Choosing.{chosen_row}
use Rattle.edwards25519.proofs.prepared.Row.or.Goals as goal

pub returns : goal.returns
returns c =
    let first = c.args.first in
    let self = c.args.self.now in
    chosen_row first (row_of c.args.words.now) self _ _ _
    (c.chosen.ensures ∙ ap (λ n. if first then n else self.difference) c.number_at.ensures)
    (c.chosen-2.ensures ∙ ap (λ n. if first then n else self.sum) c.number_at-2.ensures)
    (c.chosen-3.ensures ∙ ap (λ n. if first then n else self.product) c.number_at-3.ensures)
