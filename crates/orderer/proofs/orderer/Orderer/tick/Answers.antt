use Rattle.std.proofs.Common.{◌≡◌, ◌≤◌, ◌∷◌, ◌++◌, List, [], ap, append-nil, length, subst, sym, ◌∙◌}
use Rattle.std.specs.Option.{option_to_list}
use Rattle.fab_types.specs.Editions.{last_block}
use Rattle.fab_types.specs.declared.block.Block.{Block}
use Rattle.fab_types.specs.declared.edition.Edition.{Edition}
use Rattle.batch_cutter.specs.Division.{timeout}
use Rattle.orderer.specs.Blocks.{AreLinked}
use Rattle.orderer.proofs.Linking.{takes_linked}
use Rattle.orderer.proofs.orderer.Orderer.tick.Goals as goal

pub invariant_of-self-in-Some : goal.invariant_of-self-in-Some
invariant_of-self-in-Some c =
    let old = c.self.inside.maker in
    let new = c.tick.new.self in
    let made = c.in-Some.made in
    let more = option_to_list made.block in
    let taken = rw c.in-Some.is at c.in_ok-made.ensures.taken in
    let longer = rw c.in-Some.is at c.in_ok-made.ensures.blocks in
    let before = c.reserve.ensures.items ∙ c.self.invariant.0 in
    let is : c.keep.new.blocks.items ≡ new.chain =
    c.keep.ensures.blocks ∙ ap (λ (bs : List Block). bs ++ more) before ∙ ap (λ (bs : List Block). old.chain ++ bs) (sym (append-nil more)) ∙ sym longer in
    let linked = takes_linked old new timeout (made.report ∷ []) taken (subst (AreLinked []) c.self.invariant.0 c.self.invariant.2) in
    let room = subst (λ (d : Edition). length new.chain ≤ last_block d) (sym taken.edition) c.in_ok-made.ensures.numbers in
    (is, subst (λ (bs : List Block). length bs ≤ last_block new.edition) (sym is) room, subst (AreLinked []) (sym is) linked)
