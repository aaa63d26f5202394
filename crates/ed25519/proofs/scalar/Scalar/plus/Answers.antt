use Rattle.std.proofs.Common.{◌+◌, ◌%◌, ◌∙◌, ap₂, refl}
use Rattle.edwards_model.specs.Curve.{order}
use Rattle.ed25519.proofs.Scalars.{reduced}
use Rattle.ed25519.proofs.scalar.Scalar.plus.Goals as goal

pub invariant_of-result : goal.invariant_of-result
invariant_of-result c =
    (reduced _ _ _ _ _ _ _ _ _ refl c.self.invariant c.other.invariant c.plus-sum.ensures.sum c.plus-over.ensures.sum c.complement.ensures
    c.plus-over.ensures.carry c.plus-over.ensures.low c.chosen.ensures).1

pub returns-clause-sum : goal.returns-clause-sum
returns-clause-sum c =
    (reduced _ _ _ _ _ _ _ _ _ refl c.self.invariant c.other.invariant c.plus-sum.ensures.sum c.plus-over.ensures.sum c.complement.ensures
    c.plus-over.ensures.carry c.plus-over.ensures.low c.chosen.ensures).0
    ∙ ap₂ (λ a b. (a + b) % order) c.self.view_is c.other.view_is

pub returns-clause-below : goal.returns-clause-below
returns-clause-below c =
    (reduced _ _ _ _ _ _ _ _ _ refl c.self.invariant c.other.invariant c.plus-sum.ensures.sum c.plus-over.ensures.sum c.complement.ensures
    c.plus-over.ensures.carry c.plus-over.ensures.low c.chosen.ensures).1
