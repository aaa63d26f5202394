use Rattle.std.proofs.Common.{◌≤◌, List, length, subst}
use Rattle.std.proofs.Math.Nat.{le_trans}
use Rattle.fab_types.specs.Editions.{last_block}
use Rattle.fab_types.proofs.Editions.{last_block_most}
use Rattle.fab_types.specs.declared.block.Block.{Block}
use Rattle.orderer.specs.Ordering.{Ordering}
use Rattle.orderer.proofs.orderer.Orderer.blocks.Goals as goal

pub returns-clause-limits : goal.returns-clause-limits
returns-clause-limits c =
    let edition = c.self.inside.maker.edition in
    let few = subst (λ (blocks : List Block). length blocks ≤ last_block edition) c.self.invariant.0 c.self.invariant.1 in
    subst (λ (o : Ordering). length o.chain ≤ 4000000000) c.self.view_is (le_trans few (last_block_most edition))
