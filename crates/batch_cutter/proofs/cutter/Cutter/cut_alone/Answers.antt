use Rattle.std.proofs.Common.{◌≡◌, length, refl, ap, arith, rules, vec_len}
use Rattle.std.specs.List.{sum_by}
use Rattle.batch_cutter.specs.Division.{State}
use Rattle.batch_cutter.proofs.Offering.{cuts_alone}
use Rattle.batch_cutter.proofs.cutter.Cutter.cut_alone.Goals as goal

pub returns-clause-cut : goal.returns-clause-cut
returns-clause-cut g c =
    let pending = c.self.inside.pending.items in
    let limit = ap (λ (s : State g.row.M.Denot). s.limits.preferred) c.self.view_is in
    let total = ap (λ (s : State g.row.M.Denot). sum_by g.M.Weigh.weight s.pending) c.self.view_is in
    rw (← c.self.view_is)
    (record {
      waited = record { counted = omega arith; together = omega arith };
      divides = cuts_alone g.M.Weigh.weight _ pending _ _ _ c.args.given (search rules) (search rules) (search rules)
          (let len : length pending ≡ vec_len c.self.inside.pending = search rules in search rules) (omega arith) (omega arith) (omega arith);
      limits = refl;
    })
