use Rattle.std.proofs.Common.{arith, ap, length}
use Rattle.std.proofs.lemmas.List.{length-map}
use Rattle.persist_map.specs.Pages.{shared, pages_of}
use Rattle.persist_map.proofs.Reading.{pages_few, pages_enough}
use Rattle.persist_map.proofs.map.PMap.pages.Goals as goal

pub returns-clause-at_most : goal.returns-clause-at_most
returns-clause-at_most g c =
    omega (
      arith,
      pages_few (pages_of c.self.inside.pages.items) c.self.invariant.sizes,
      length-map c.self.inside.pages.items (λ p. shared p.value.items),
      ap (λ m. length m.entries) c.self.view_is,
      c.len.ensures,
    )

pub returns-clause-at_least : goal.returns-clause-at_least
returns-clause-at_least g c =
    omega (
      arith,
      pages_enough (pages_of c.self.inside.pages.items) c.self.invariant.sizes,
      length-map c.self.inside.pages.items (λ p. shared p.value.items),
      ap (λ m. length m.entries) c.self.view_is,
      c.len.ensures,
    )
