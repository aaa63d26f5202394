use Rattle.std.proofs.Common.{arith}
use Rattle.persist_map.specs.Changes.{placed}
use Rattle.persist_map.proofs.Building.{pages_set, pages_same}
use Rattle.persist_map.proofs.Reading.{on_ok, on_err}
use Rattle.persist_map.proofs.pages.set_entry.Goals as goal

pub returns-clause-ok : goal.returns-clause-ok
returns-clause-ok g c =
    on_ok c.place_in_shared.result _ _ c.place_in_shared.ensures.ok (λ n.
    pages_set c.args.pages.now.items c.args.page c.place_in_shared.new.page c.index_mut.result.now (λ p. placed p c.args.place c.args.entry.value)
    (omega (arith, c.args.pages.now.ok.0, c.requires.page)) c.index_mut.ensures.value n)

pub returns-clause-err : goal.returns-clause-err
returns-clause-err g c =
    on_err c.place_in_shared.result _ _ c.place_in_shared.ensures.err (λ n.
    pages_same c.args.pages.now.items c.args.page c.place_in_shared.new.page c.index_mut.result.now (omega (arith, c.args.pages.now.ok.0, c.requires.page))
    c.index_mut.ensures.value n)
