use Rattle.std.proofs.Common.{◌≡◌, length, refl, arith, rules, vec_len}
use Rattle.batch_cutter.proofs.Offering.{times_out}
use Rattle.batch_cutter.proofs.cutter.Cutter.timeout.Goals as goal

pub returns : goal.returns
returns g c =
    let pending = c.self.inside.pending.items in
    let len : length pending ≡ vec_len c.self.inside.pending = search rules in
    rw (← c.self.view_is)
    (record {
      waited = record { counted = omega arith; together = omega arith };
      divides = times_out g.M.Weigh.weight _ pending _ _ (search rules) (search rules) (search rules) (omega arith) (omega arith);
      limits = refl;
    })
