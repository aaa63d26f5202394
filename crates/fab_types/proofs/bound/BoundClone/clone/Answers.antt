use Rattle.std.proofs.Common.{◌≡◌}
use Rattle.std.proofs.lemmas.List.Elements.{same_from_all_zip}
use Rattle.fab_types.proofs.bound.BoundClone.clone.Goals as goal

pub invariant_of-result : goal.invariant_of-result
invariant_of-result c =
    let bytes : c.in_ok-clone.field-0.items ≡ c.self.inside.bytes.items =
    same_from_all_zip _ c.self.inside.bytes.items _ c.in_ok-clone.ensures.cases.0 (λ x y same. same) in
    rw bytes c.self.invariant
