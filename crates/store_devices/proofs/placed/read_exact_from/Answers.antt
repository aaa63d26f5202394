use Rattle.std.proofs.Common.{◌≡◌, ◌+◌, ◌≤◌, length, rules}
use Rattle.store_devices.proofs.Filling.{filled_more}
use Rattle.store_devices.proofs.placed.read_exact_from.Goals as goal

pub loop-at-preserved : goal.loop-at-preserved
loop-at-preserved g c =
    let inv = c.loop-at.invariant in
    let from : c.in-Some.from ≡ c.args.place + c.loop-at.at = search rules in
    let bound : c.in-Ok.count ≤ length c.read_at.new.buffer = search rules in
    record {
      within = search rules;
      size = search rules;
      filled = filled_more (g.D.Write.contents c.args.file.now) c.args.place c.loop-at.at c.in-Ok.count c.in-Some.from c.loop-at.buffer
          c.read_at.new.buffer _ inv.filled c.in-Ok.ensures.bytes from bound inv.within;
    }
