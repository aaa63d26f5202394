use Rattle.std.proofs.Common.{◌∙◌, ◌∷◌, ◌++◌, take, drop}
use Rattle.persist_map.specs.Pages.{shared}
use Rattle.persist_map.proofs.Building.{built}
use Rattle.persist_map.proofs.pages.with_entry.Goals as goal

pub returns : goal.returns
returns g c =
    built c.args.page.now c.in_ok-new.new.items c.extend_with_clones.new.self.items c.push.new.self.items c.extend_with_clones-2.new.self.items
    c.ends-at.result.0 c.ends-at.result.1 c.args.entry c.in_ok-new.ensures.items c.in_ok-extend_with_clones.ensures.items c.in_ok-push.ensures.items
    c.in_ok-extend_with_clones-2.ensures.items
    ∙ (λ i. take (c.ends-at.ensures.at i) (shared c.args.page.now) ++ c.args.entry.value ∷ drop (c.ends-at.ensures.next i) (shared c.args.page.now))
