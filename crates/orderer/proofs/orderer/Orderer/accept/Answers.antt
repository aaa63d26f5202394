use Rattle.std.proofs.Common.{◌≡◌, ◌≤◌, ◌++◌, List, [], ap, length, subst, sym, ◌∙◌}
use Rattle.fab_types.specs.Editions.{last_block}
use Rattle.fab_types.specs.declared.block.Block.{Block}
use Rattle.fab_types.specs.declared.edition.Edition.{Edition}
use Rattle.batch_cutter.specs.Division.{message}
use Rattle.orderer.specs.Blocks.{AreLinked}
use Rattle.orderer.specs.Headers.{blocks_made, reports_made}
use Rattle.orderer.proofs.Linking.{takes_linked}
use Rattle.orderer.proofs.orderer.Orderer.accept.Goals as goal

pub invariant_of-self-in-Ok-accept : goal.invariant_of-self-in-Ok-accept
invariant_of-self-in-Ok-accept c =
    let old = c.self.inside.maker in
    let new = c.accept.new.self in
    let made = c.in-Ok-accept.made.items in
    let before = c.room.ensures.same ∙ c.self.invariant.0 in
    let is : c.keep_each.new.blocks.items ≡ new.chain =
    c.keep_each.ensures.blocks ∙ ap (λ (bs : List Block). bs ++ blocks_made made) before ∙ sym c.in-Ok-accept.ensures.blocks in
    let linked = takes_linked old new (message c.args.given) (reports_made made) c.in-Ok-accept.ensures.taken
    (subst (AreLinked []) c.self.invariant.0 c.self.invariant.2) in
    let same = sym c.in-Ok-accept.ensures.taken.edition in
    let room = subst (λ (d : Edition). length new.chain ≤ last_block d) same c.in-Ok-accept.ensures.numbers in
    (is, subst (λ (bs : List Block). length bs ≤ last_block new.edition) (sym is) room, subst (AreLinked []) (sym is) linked)
