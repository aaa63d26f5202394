use Rattle.std.proofs.Common.{◌≡◌, ℕ, ◌+◌, List, [], ◌∷◌, ◌++◌, take, sym, ap, subst, ◌∙◌}
use Rattle.std.specs.List.{AllByRecursion, flat_map}
use Rattle.std.proofs.lemmas.List.{append-nil, take_all, take_more, flat_map_more}
use Rattle.fab_types.proofs.spelled.write_each.Goals as goal

-- one item more behind the front
module _ {X : Type 0} (front all : List X) (x : X) (split : all ≡ front ++ x ∷ []) where
  more_spelled : (f : X → List ℕ) (old out new : List ℕ) → out ≡ old ++ flat_map f front → new ≡ out ++ f x → new ≡ old ++ flat_map f all
  more_spelled f old out new before now =
      now ∙ ap (λ bytes. bytes ++ f x) before ∙ flat_map_more f old front x ∙ ap (λ items. old ++ flat_map f items) (sym split)

  pushed : (P : X → Type 0) (items : List X) → AllByRecursion P items → P x → AllByRecursion P (items ++ x ∷ [])
  pushed P [] each here = (here, tt)
  pushed P (i ∷ is) each here = (each.0, pushed P is each.1 here)

  more_within : (P : X → Type 0) → AllByRecursion P front → P x → AllByRecursion P all
  more_within P each here = subst (AllByRecursion P) (sym split) (pushed P front each here)

pub loop-item-init : goal.loop-item-init
loop-item-init g c = record { spelled = sym (append-nil c.args.out.now.items); within = tt }

pub loop-item-preserved : goal.loop-item-preserved
loop-item-preserved g c =
    let l = c.loop-item in
    let items = c.args.items.now in
    let i = l.item-index in
    let x = c.item-item.result in
    let split = take_more items i x c.loop-item-test.true ∙ ap (λ y. take i items ++ y ∷ []) (sym c.item-item.is) in
    let write = c.in_ok-write.ensures in
    record {
      spelled = more_spelled (take i items) (take (i + 1) items) x split g.T.Spelled.spelling c.args.out.now.items l.out.items c.write.new.out.items
          l.invariant.spelled write.spelled;
      within = more_within (take i items) (take (i + 1) items) x split g.T.Spelled.within l.invariant.within write.within;
    }

pub returns-clause-spelled : goal.returns-clause-spelled
returns-clause-spelled g c =
    c.loop-item.invariant.spelled ∙ ap (λ xs. c.args.out.now.items ++ flat_map g.T.Spelled.spelling xs)
    (take_all c.loop-item.item-index c.args.items.now c.loop-item-test.false)

pub returns-clause-within : goal.returns-clause-within
returns-clause-within g c =
    subst (AllByRecursion g.T.Spelled.within) (take_all c.loop-item.item-index c.args.items.now c.loop-item-test.false) c.loop-item.invariant.within
