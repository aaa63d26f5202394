use Rattle.std.proofs.Common.{◌∙◌}
use Rattle.seat_threads.proofs.desk.take_until_ended.Goals as goal

pub takes-preserved : goal.takes-preserved
takes-preserved g c =
    let inv = c.takes.invariant in
    let rest = c.take_rest.ensures in (
      rest.work,
      (rest.same.0 ∙ inv.1.0, rest.same.1 ∙ inv.1.1, rest.same.2 ∙ inv.1.2, rest.same.3 ∙ inv.1.3, rest.same.4 ∙ inv.1.4, rest.same.5 ∙ inv.1.5),
      rest.known.0 ∙ inv.2,
      rest.known.1 ∙ inv.3,
    )
