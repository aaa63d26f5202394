use Rattle.std.proofs.Common.{◌∙◌, ap, sym, is_some}
use Rattle.persist_map.proofs.Reading.{on_ok}
use Rattle.world_state.proofs.Placed.{id_added, id_kept}
use Rattle.world_state.proofs.index.index.Goals as goal

pub returns-then-is_some : goal.returns-then-is_some
returns-then-is_some c = λ sought.
    id_kept c.args.ids.now.entries c.args.block c.args.id sought (ap is_some (sym c.block_in.ensures) ∙ sym c.is_some.ensures ∙ c.if-is_some.true)

pub returns : goal.returns
returns c =
    on_ok c.put.result _ _ c.put.ensures.ok (λ n sought.
    id_added c.args.ids.now.entries c.put.new.self.entries c.args.block c.args.id sought
    (ap is_some (sym c.block_in.ensures) ∙ sym c.is_some.ensures ∙ c.if-is_some.false) n)
