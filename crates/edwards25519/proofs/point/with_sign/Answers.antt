use Rattle.std.proofs.Common.{true, false, ◌∙◌, ap, sym, subst}
use Rattle.field25519.specs.Modulo.{minus}
use Rattle.edwards_model.specs.Curve.{IsPoint}
use Rattle.edwards_model.proofs.Rooting.{signed_point}
use Rattle.edwards25519.proofs.point.with_sign.Goals as goal
use Rattle.edwards25519.proofs.point.with_sign.Goals.{then-word0-sign, else-word0-sign}

pub at-requires : goal.at-requires
at-requires c =
    let x = c.args.x in
    let y = c.args.y in
    elim c.if-word0-sign.branch [
      | then-word0-sign w ↦
          subst (λ v. IsPoint (record { x = v; y = y })) (sym w.x-is) (signed_point x y true c.requires.residue_x c.requires.residue_y c.requires.root)
      | else-word0-sign w ↦
          subst (λ v. IsPoint (record { x = v; y = y })) (sym (w.x-is ∙ w.minus-x.ensures ∙ ap (λ z. minus z x) w.zero.ensures))
          (signed_point x y false c.requires.residue_x c.requires.residue_y c.requires.root)
    ]
