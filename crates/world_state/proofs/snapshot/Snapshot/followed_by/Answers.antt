use Rattle.std.proofs.Common.{◌≡◌, ◌∙◌, ap, sym, ◌+◌, length, arith, ◌++◌, ◌∷◌, [], subst}
use Rattle.ledger_model.specs.Chain.{Committed, Chain}
use Rattle.world_state.specs.Writing.{as_state, put_block}
use Rattle.world_state.specs.Ids.{block_behind}
use Rattle.world_state.specs.Inside.{IsRight}
use Rattle.world_state.proofs.Longer.{right_more}
use Rattle.world_state.proofs.snapshot.Snapshot.followed_by.Goals as goal

pub invariant_of-result : goal.invariant_of-result
invariant_of-result c =
    let chain = c.self.inside.blocks in
    let b = c.args.block in
    let new : Committed = record { block = b; flags = c.args.judged.flags.items } in
    let number : b.header.number ≡ length chain + 1 = omega (arith, ap length c.self.view_is) in
    let pushed = c.in_ok-blocks.ensures ∙ (λ i. chain ++ c.new.ensures i ∷ []) in
    subst (λ (bs : Chain). IsRight bs c.in_ok-map.map.entries c.in_ok-map.ids.entries) (sym pushed)
    (right_more chain new c.self.inside.map.entries _ c.self.inside.ids.entries _ c.self.invariant number c.in_ok-map.ensures.limits
    c.requires.judged.one_each
    (c.in_ok-map.ensures.map ∙
    (λ i. put_block (as_state c.self.inside.map.entries) b.header.number 0 b.envelopes (c.deref.ensures.value i)))
    (λ q.
    c.in_ok-map.ensures.ids q
    ∙ ap (λ ids. block_behind c.self.inside.ids.entries b.header.number ids q) (c.deref-2.ensures.value ∙ c.requires.judged.ids))
    c.in_ok-map.ensures.within)

pub returns : goal.returns
returns c =
    let new : Committed = record { block = c.args.block; flags = c.args.judged.flags.items } in
    c.in_ok-blocks.ensures ∙ (λ i. c.self.inside.blocks ++ c.new.ensures i ∷ []) ∙ ap (λ bs. bs ++ new ∷ []) c.self.view_is
