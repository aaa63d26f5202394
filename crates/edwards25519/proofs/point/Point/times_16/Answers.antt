use Rattle.edwards25519.proofs.Points.{point_is}
use Rattle.edwards25519.proofs.Multiples.{sixteen_times}
use Rattle.edwards25519.proofs.point.Point.times_16.Goals as goal

pub returns : goal.returns
returns c =
    sixteen_times c.args.self.now (point_is _ _ c.self.view_is c.self.invariant) _ _ _ _
    c.doubled.ensures c.doubled-2.ensures c.doubled-3.ensures c.doubled-4.ensures
