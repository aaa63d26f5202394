use Rattle.std.proofs.Common.{◌++◌, ◌∙◌, ap₂, refl}
use Rattle.org_keys.proofs.Fronts.{pieces}
use Rattle.org_keys.proofs.front.tag_front.Goals as goal

pub returns : goal.returns
returns c =
    pieces c.copy_from_slice.new.self c.copy_from_slice-2.new.self _ c.copy_from_slice.ensures.len refl
    ∙ ap₂ (λ xs ys. xs ++ ys) c.copy_from_slice.ensures.after c.copy_from_slice-2.ensures.after
