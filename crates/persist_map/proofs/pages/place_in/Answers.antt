use Rattle.std.proofs.Common.{arith, ◌∙◌, ap, sym, subst, ◌≤◌, vec_len}
use Rattle.persist_map.specs.Pages.{shared}
use Rattle.persist_map.specs.Changes.{placed, next_of}
use Rattle.persist_map.proofs.Building.{placed_hit, placed_gap}
use Rattle.persist_map.proofs.pages.place_in.Goals as goal

pub returns-in-Ok-clause-ok : goal.returns-in-Ok-clause-ok
returns-in-Ok-clause-ok g c =
    let inside = subst (λ r. next_of r ≤ vec_len c.args.page.now) c.in-Ok.is c.requires in
    placed_hit c.args.page.now.items c.in-Ok.at c.args.entry (omega (arith, inside, c.args.page.now.ok.0))
    ∙ ap (λ r. placed (shared c.args.page.now.items) r c.args.entry.value) (sym c.in-Ok.is)

pub returns-in_ok-insert-in-Err-clause-ok : goal.returns-in_ok-insert-in-Err-clause-ok
returns-in_ok-insert-in-Err-clause-ok g c =
    placed_gap c.args.page.now.items c.insert.new.self.items c.in-Err.at c.args.entry c.in_ok-insert-in-Err.ensures.items
    ∙ ap (λ r. placed (shared c.args.page.now.items) r c.args.entry.value) (sym c.in-Err.is)
