use Rattle.std.proofs.Common.{◌≡◌, ◌≤◌, ◌∷◌, true, List, sym, subst, length, arith}
use Rattle.std.specs.List.{list_all}
use Rattle.fab_types.specs.Order.{is_shown}
use Rattle.fab_types.specs.Sets.{IsReadSet}
use Rattle.fab_types.specs.declared.items.ReadItem.{ReadItem}
use Rattle.fab_types.proofs.Fronts.{hidden_first}
use Rattle.fab_types.proofs.read_set.ReadSet.with_first.Goals as goal

pub invariant_of-result : goal.invariant_of-result
invariant_of-result c =
    let items = c.self.inside.items.items in
    let shown : list_all (λ i. is_shown i.key) items ≡ true =
    subst (λ (l : List ReadItem). list_all (λ i. is_shown i.key) l ≡ true) (sym c.self.view_is) c.requires.shown in
    let count : length items ≤ 256 = subst (λ (l : List ReadItem). length l ≤ 256) (sym c.self.view_is) c.requires.count in
    let whole : IsReadSet (c.args.item ∷ items) =
    record { count = omega arith; order = hidden_first c.args.item items c.requires.hidden shown c.self.invariant.order } in
    subst IsReadSet (sym c.in_ok-insert.ensures.items) whole
