use Rattle.std.proofs.Common.{ap, arith}
use Rattle.std.specs.List.{sum_by}
use Rattle.batch_cutter.specs.Division.{State}
use Rattle.batch_cutter.proofs.cutter.Cutter.restore.Goals as goal

pub total-self-inside-requires : goal.total-self-inside-requires
total-self-inside-requires g c =
    let limit = ap (λ (s : State g.row.M.Denot). s.limits.preferred) c.self.view_is in
    let same = ap (sum_by g.M.Weigh.weight) c.as_slice.ensures.value in
    let waited = c.requires.waited.together in
    omega arith
