use Rattle.std.proofs.Common.{◌∷◌, [], ◌++◌, take, sym, ap, ◌∙◌, subst, append-nil}
use Rattle.std.specs.List.{AllByRecursion, flat_map}
use Rattle.std.proofs.lemmas.List.{flat_map_more, take_more, take_all}
use Rattle.persist_map.proofs.Ordered.{all_append}
use Rattle.checkpoint.specs.Hashing.{IsSoFar}
use Rattle.checkpoint.proofs.hashing.Hashing.put_each.Goals as goal

pub loop-item-init : goal.loop-item-init
loop-item-init g c = record {
  text = λ old text so. subst (IsSoFar old (g.W.Write.contents c.args.out.now) c.args.self.now) (sym (append-nil text)) so;
  within = tt;
}

pub loop-item-preserved : goal.loop-item-preserved
loop-item-preserved g c =
    let spelling = g.T.Item.spelling in
    let within = g.T.Item.within in
    let items = c.args.items.now in
    let i = c.loop-item.item-index in
    let x = c.item-item.result in
    let more = take_more items i x c.loop-item-test.true ∙ ap (λ y. take i items ++ y ∷ []) (sym c.item-item.is) in
    record {
      text = λ old text so.
          subst (IsSoFar old (g.W.Write.contents c.put_item.new.out) c.put_item.new.self)
          (flat_map_more spelling text (take i items) x ∙ ap (λ t. text ++ flat_map spelling t) (sym more))
          (c.in_ok-put_item.ensures.text old (text ++ flat_map spelling (take i items)) (c.loop-item.invariant.text old text so));
      within = subst (AllByRecursion within) (sym more)
          (all_append within (take i items) (x ∷ []) c.loop-item.invariant.within (c.in_ok-put_item.ensures.within, tt));
    }

pub returns-clause-text : goal.returns-clause-text
returns-clause-text g c = λ old text so.
    subst (λ t. IsSoFar old (g.W.Write.contents c.loop-item.out) c.loop-item.self (text ++ flat_map g.T.Item.spelling t))
    (take_all c.loop-item.item-index c.args.items.now c.loop-item-test.false) (c.loop-item.invariant.text old text so)

pub returns-clause-within : goal.returns-clause-within
returns-clause-within g c =
    subst (AllByRecursion g.T.Item.within) (take_all c.loop-item.item-index c.args.items.now c.loop-item-test.false) c.loop-item.invariant.within
