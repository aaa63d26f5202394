use Rattle.std.proofs.Common.{◌≡◌}
use Rattle.std.proofs.lemmas.List.Elements.{same_from_all_zip}
use Rattle.fab_types.proofs.range_item.RangeItemClone.clone.Goals as goal

pub invariant_of-result : goal.invariant_of-result
invariant_of-result c =
    let entries : c.in_ok-clone-3.field-0.items ≡ c.self.inside.entries.items =
    same_from_all_zip _ c.self.inside.entries.items _ c.in_ok-clone-3.ensures.cases.0 (λ x y same. same) in
    rw (c.in_ok-clone.ensures.cases, c.in_ok-clone-2.ensures.cases, entries) c.self.invariant
