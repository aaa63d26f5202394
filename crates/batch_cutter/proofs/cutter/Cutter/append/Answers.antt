use Rattle.std.proofs.Common.{◌≡◌, length, refl, ap, arith, rules, vec_len}
use Rattle.std.specs.List.{sum_by}
use Rattle.batch_cutter.specs.Division.{State}
use Rattle.batch_cutter.proofs.Offering.{fills}
use Rattle.batch_cutter.proofs.cutter.Cutter.append.Goals as goal

pub returns-clause-cut : goal.returns-clause-cut
returns-clause-cut g c =
    let pending = c.self.inside.pending.items in
    let limit = ap (λ (s : State g.row.M.Denot). s.limits.preferred) c.self.view_is in
    let total = ap (λ (s : State g.row.M.Denot). sum_by g.M.Weigh.weight s.pending) c.self.view_is in
    rw (← c.self.view_is)
    (record {
      waited = record { counted = omega arith; together = omega arith };
      divides = fills g.M.Weigh.weight _ pending _ _ c.args.given (search rules) (search rules) (omega arith)
          (let all : length c.replace.result.items ≡ length c.push.new.self.items = search rules in
          let len : length c.push.new.self.items ≡ vec_len c.push.new.self = search rules in omega arith) (omega arith);
      limits = refl;
    })
