use Rattle.std.proofs.Common.{refl}
use Rattle.edwards25519.proofs.Points.{made_itself, made_is}
use Rattle.edwards25519.proofs.point.at.Goals as goal

pub invariant_of-result : goal.invariant_of-result
invariant_of-result c = made_itself _ c.args.x c.args.y c.requires refl refl c.one.ensures c.times-t.ensures

pub returns : goal.returns
returns c = made_is _ c.args.x c.args.y c.requires refl refl c.one.ensures c.times-t.ensures
