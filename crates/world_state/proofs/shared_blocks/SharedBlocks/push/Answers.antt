use Rattle.std.proofs.Common.{◌≡◌, ◌∙◌, ◌+◌, ◌++◌, ◌∷◌, [], ℕ, List, cond, length, refl, ap, sym, arith}
use Rattle.std.specs.Arc.{arc_value}
use Rattle.ledger_model.specs.Chain.{Chain, Committed}
use Rattle.world_state.specs.Amending.{amended_at, amends, last_of}
use Rattle.world_state.specs.Shared.{blocks_in}
use Rattle.world_state.proofs.Amended.{numbers_more}
use Rattle.world_state.proofs.Blocks.{blocks_pushed}
use Rattle.world_state.proofs.shared_blocks.SharedBlocks.push.Goals as goal

pub invariant_of-self-2 : goal.invariant_of-self-2
invariant_of-self-2 c =
    let s = c.self.inside in
    let chain = blocks_in s.shared.items in
    let new : Committed = arc_value c.args.committed in
    let n = c.last_number-number.result in
    let next : new.block.header.number ≡ length chain + 1 = omega (arith, c.requires.next, ap (λ (cs : Chain). length cs) c.self.view_is) in
    let told : n ≡ cond (amends new) new.block.header.number (last_of 0 s.amended.items) =
    c.last_number-number.ensures
    ∙ (λ i. cond (amends (c.deref-2.ensures i)) (c.deref-2.ensures i).block.header.number (last_of 0 (c.deref.ensures.value i))) in
    c.in_ok-push-2.ensures.items ∙ ap (λ (ns : List ℕ). ns ++ n ∷ []) c.in_ok-reserve.ensures.items
    ∙ numbers_more chain new s.amended.items n c.self.invariant next told
    ∙ ap (λ (cs : Chain). amended_at 1 0 cs) (sym (blocks_pushed s.shared.items c.push.new.self.items c.args.committed new c.in_ok-push.ensures.items refl))
