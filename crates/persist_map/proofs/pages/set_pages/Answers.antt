use Rattle.std.proofs.Common.{arith}
use Rattle.persist_map.proofs.Building.{pages_two}
use Rattle.persist_map.proofs.pages.set_pages.Goals as goal

pub returns-clause-ok : goal.returns-clause-ok
returns-clause-ok g c =
    pages_two c.args.pages.now.items c.insert.new.self.items c.args.page c.in_ok-first.first c.in_ok-rest.rest c.args.first c.args.rest
    (omega (arith, c.args.pages.now.ok.0, c.requires)) c.in_ok-first.ensures.ok c.in_ok-rest.ensures.ok c.in_ok-insert.ensures.items
