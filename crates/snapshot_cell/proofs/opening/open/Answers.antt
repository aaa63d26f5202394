use Rattle.std.proofs.Common.{subst, ◌∙◌}
use Rattle.ledger_model.specs.Chain.{Chain}
use Rattle.snapshot_cell.specs.Seats.{EachBegins}
use Rattle.snapshot_cell.proofs.opening.open.Goals as goal

pub returns-clause-seats : goal.returns-clause-seats
returns-clause-seats g c =
    let h = c.in_default.ensures.seats in (
      h.0,
      subst (λ (blocks : Chain). EachBegins c.in_ok-front.front.seen.book blocks c.fill.new.readers.items)
          (c.in_ok-front.ensures.0 ∙ c.blocks-2.ensures.value) h.1,
    )
