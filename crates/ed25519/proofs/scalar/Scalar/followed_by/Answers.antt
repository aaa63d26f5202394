use Rattle.std.proofs.Common.{◌≡◌, ◌+◌, ◌%◌, ◌∙◌, ap, arith}
use Rattle.edwards_model.specs.Curve.{order}
use Rattle.ed25519.proofs.Scalars.{twice_step, byte_step}
use Rattle.ed25519.proofs.scalar.Scalar.followed_by.Goals as goal

pub loop-preserved : goal.loop-preserved
loop-preserved c = twice_step c.loop.counter c.args.self.now c.loop.x _ c.loop.invariant c.plus-x-in-loop.ensures.sum

pub returns : goal.returns
returns c =
    let byte : c.new.result ≡ c.args.byte = omega arith in
    c.plus.ensures.sum ∙ ap (λ b. (b + c.loop.x) % order) byte
    ∙ byte_step c.args.byte c.args.self.now c.loop.x c.loop.counter (omega arith) c.loop.invariant
