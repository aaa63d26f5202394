use Rattle.std.proofs.Common.{refl, ap, arith, rules}
use Rattle.std.specs.List.{sum_by}
use Rattle.batch_cutter.specs.Division.{State}
use Rattle.batch_cutter.proofs.Offering.{cuts_before}
use Rattle.batch_cutter.proofs.cutter.Cutter.cut_before.Goals as goal

pub returns-clause-cut : goal.returns-clause-cut
returns-clause-cut g c =
    let pending = c.self.inside.pending.items in
    let limit = ap (λ (s : State g.row.M.Denot). s.limits.preferred) c.self.view_is in
    let total = ap (λ (s : State g.row.M.Denot). sum_by g.M.Weigh.weight s.pending) c.self.view_is in
    rw (← c.self.view_is)
    (record {
      waited = record { counted = omega arith; together = omega arith };
      divides = cuts_before g.M.Weigh.weight _ pending _ _ c.args.given (search rules) (search rules) (omega arith) (omega arith) (omega arith) (omega arith);
      limits = refl;
    })
