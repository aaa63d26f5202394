use Rattle.std.proofs.Common.{◌≡◌, ◌∙◌, ◌+◌, ◌++◌, ◌∷◌, [], ℕ, List, cond, length, ap, sym, arith}
use Rattle.std.specs.declared.sync.Arc.{Arc}
use Rattle.std.specs.declared.alloc.Global.{Global}
use Rattle.ledger_model.specs.Chain.{Chain, Committed}
use Rattle.world_state.specs.Amending.{amended_at, amends, last_of}
use Rattle.world_state.specs.Shared.{blocks_in}
use Rattle.world_state.proofs.Amended.{length-amended, numbers_more}
use Rattle.world_state.proofs.shared_blocks.SharedBlocks.followed_by.Goals as goal

pub with_number-requires : goal.with_number-requires
with_number-requires c =
    let chain = blocks_in c.self.inside.shared.items in
    let numbers = ap (λ (ns : List ℕ). length ns) (c.deref-3.ensures.value ∙ c.self.invariant) ∙ length-amended 1 0 chain in
    omega (arith, numbers, ap (λ (cs : Chain). length cs) c.self.view_is, c.requires.limits)

pub invariant_of-result : goal.invariant_of-result
invariant_of-result c =
    let s = c.self.inside in
    let chain = blocks_in s.shared.items in
    let new = c.args.block in
    let n = c.last_number-number.result in
    let next : new.block.header.number ≡ length chain + 1 = omega (arith, c.requires.next, ap (λ (cs : Chain). length cs) c.self.view_is) in
    let told : n ≡ cond (amends new) new.block.header.number (last_of 0 s.amended.items) =
    c.last_number-number.ensures ∙ ap (λ (ns : List ℕ). cond (amends new) new.block.header.number (last_of 0 ns)) c.deref.ensures.value in
    let longer : blocks_in c.in_ok-shared.shared.items ≡ chain ++ new ∷ [] =
    c.in_ok-shared.ensures ∙ ap (λ (arcs : List (Arc Committed Global)). blocks_in arcs ++ new ∷ []) c.deref-2.ensures.value in
    c.in_ok-amended.ensures ∙ ap (λ (ns : List ℕ). ns ++ n ∷ []) c.deref-3.ensures.value
    ∙ numbers_more chain new s.amended.items n c.self.invariant next told ∙ ap (λ (cs : Chain). amended_at 1 0 cs) (sym longer)
