use Rattle.batch_cutter.proofs.Undoing.{time_cuts, time_back, still_pending}
use Rattle.batch_cutter.proofs.cutter.Cutter.put_back.Goals as goal

pub restore-requires-clause-none : goal.restore-requires-clause-none
restore-requires-clause-none g c =
    let t = c.requires in
    (time_cuts g.M.Weigh.weight t.0 c.args.self.now c.args.batch.items t.1).1

pub restore-requires-clause-waited : goal.restore-requires-clause-waited
restore-requires-clause-waited g c =
    let t = c.requires in
    let cut = time_cuts g.M.Weigh.weight t.0 c.args.self.now c.args.batch.items t.1 in
    still_pending g.M.Weigh.weight t.0.limits c.args.self.now.limits t.0.pending c.args.batch.items t.1.waited t.1.limits cut.0

pub returns : goal.returns
returns g c =
    λ old t. time_back g.M.Weigh.weight old c.args.self.now c.restore.new.self c.args.batch.items t c.restore.ensures.pending c.restore.ensures.limits
