use Rattle.std.proofs.Common.{◌≡◌, ◌≤◌, ◌∙◌, ap, sym, ◌+◌, length, arith, subst}
use Rattle.std.specs.Arc.{arc_value}
use Rattle.fab_types.specs.BlockWithin.{IsBlock}
use Rattle.fab_types.specs.declared.block.Block.{Block}
use Rattle.ledger_model.specs.Chain.{Committed, Chain}
use Rattle.world_state.specs.Writing.{as_state, put_block}
use Rattle.world_state.specs.Ids.{block_behind}
use Rattle.world_state.specs.Inside.{IsRight}
use Rattle.world_state.proofs.Longer.{right_more}
use Rattle.world_state.proofs.snapshot.Snapshot.put.Goals as goal

pub invariant_of-self-2 : goal.invariant_of-self-2
invariant_of-self-2 c =
    let s = c.self.inside in
    let chain = s.blocks in
    let new : Committed = arc_value c.args.committed in
    let block : c.block.result.now ≡ new.block = c.block.ensures ∙ ap (λ (b : Committed). b.block) c.deref.ensures in
    let flags : c.flags.result.now ≡ new.flags = c.flags.ensures.value ∙ ap (λ (b : Committed). b.flags) c.deref-2.ensures in
    let each : length new.flags ≡ length new.block.envelopes =
    subst (λ (b : Committed). length b.flags ≡ length b.block.envelopes) c.deref-2.ensures c.flags.ensures.one_each in
    let limit : new.block.header.number ≤ 4000000000 = subst (λ (b : Block). b.header.number ≤ 4000000000) block c.in_ok-map.ensures.limits in
    let number : new.block.header.number ≡ length chain + 1 = omega (arith, c.requires.next, ap length c.self.view_is) in
    subst (λ (bs : Chain). IsRight bs c.in_ok-map.map.entries c.in_ok-map.ids.entries) (sym c.in_ok-push.ensures.ok)
    (right_more chain new s.map.entries _ s.ids.entries _ c.self.invariant number limit each
    (c.in_ok-map.ensures.map ∙ (λ i. put_block (as_state s.map.entries) (block i).header.number 0 (block i).envelopes (flags i)))
    (λ q. c.in_ok-map.ensures.ids q ∙ (λ i. block_behind s.ids.entries (block i).header.number (c.requires.ids i) q))
    (subst IsBlock block c.in_ok-map.ensures.within))
