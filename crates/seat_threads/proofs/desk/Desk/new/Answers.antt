use Rattle.std.proofs.Common.{rules, List, [], refl, sym, subst}
use Rattle.intake.specs.declared.rule.Parcel.{Parcel}
use Rattle.envelope_ordering.specs.Given.{AcceptsEach, ends}
use Rattle.seat_threads.specs.Desks.{envelopes_got}
use Rattle.seat_threads.proofs.desk.Desk.new.Goals as goal

pub returns-clause-work : goal.returns-clause-work
returns-clause-work c = (
  search rules,
  search rules,
  λ fed. (
    [],
    [],
    subst (λ (got : List Parcel). AcceptsEach c.args.orderer.edition c.args.orderer.limits c.args.orderer.reorder [] (envelopes_got got) [] [])
        (sym c.requires.got) ends,
    c.ordering_laws.ensures.opening c.args.orderer c.requires.limits.some c.requires.opening,
    refl,
  ),
)
