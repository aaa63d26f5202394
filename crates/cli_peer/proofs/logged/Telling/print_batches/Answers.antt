use Rattle.std.proofs.Common.{[]}
use Rattle.std.specs.List.{flat_map}
use Rattle.cli_lines.specs.Told.{PrintsPart}
use Rattle.cli_lines.proofs.Printing.{on_err, part_next, prints_all}
use Rattle.log_peer.specs.Peering.{held_by}
use Rattle.cli_peer.specs.Logged.{batch_text}
use Rattle.cli_peer.proofs.logged.Telling.print_batches.Goals as goal

pub returns-clause-prints : goal.returns-clause-prints
returns-clause-prints g c =
    let chain = (held_by c.args.self.now.peer.now).chain in
    prints_all (batch_text chain) [] c.args.batches.now c.loop-batch.batch-index c.args.out.now c.loop-batch.out c.loop-batch-test.false c.loop-batch.invariant

pub returns-in_err-print_batch-clause-part : goal.returns-in_err-print_batch-clause-part
returns-in_err-print_batch-clause-part g c =
    let chain = (held_by c.args.self.now.peer.now).chain in
    let batches = c.args.batches.now in
    let batch = c.batch-item.result in
    let t = c.args.out.now in
    let v = c.print_batch.new.out in
    on_err c.from_residual.result (PrintsPart t v (flat_map (batch_text chain) batches))
    (part_next (batch_text chain) [] batches c.loop-batch.batch-index batch t c.loop-batch.out v c.loop-batch-test.true c.batch-item.is c.loop-batch.invariant
    c.in_err-print_batch.ensures.part)
