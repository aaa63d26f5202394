use Rattle.std.proofs.Common.{◌≡◌, ◌∙◌, Some, ap₂, sym, subst}
use Rattle.field25519.specs.Modulo.{plus, minus, times}
use Rattle.edwards_model.specs.Curve.{d}
use Rattle.edwards_model.specs.Encoding.{root}
use Rattle.edwards_model.proofs.Rooting.{IsRoot, root_is}
use Rattle.edwards_model.proofs.Complete.{minus_whole}
use Rattle.edwards25519.proofs.point.on_row.Goals as goal

pub with_sign-requires-clause-root : goal.with_sign-requires-clause-root
with_sign-requires-clause-root c =
    let yy = times c.args.y c.args.y in
    let u = minus yy 1 in
    let v = plus (times d yy) 1 in
    let is_u : c.minus.result ≡ u = c.minus.ensures ∙ ap₂ minus c.squared-yy.ensures c.one.ensures in
    let is_v : c.plus.result ≡ v = c.plus.ensures ∙ ap₂ plus (c.times.ensures ∙ ap₂ times c.d.ensures c.squared-yy.ensures) c.one-2.ensures in
    let found : IsRoot u v (Some c.in-Some.x) = subst (IsRoot u v) (sym (ap₂ root is_u is_v) ∙ sym c.root.ensures ∙ c.in-Some.is) (root_is u v) in
    found.0 ∙ minus_whole yy 1
