use Rattle.std.proofs.Common.{◌≡◌}
use Rattle.std.specs.List.{flat_map, zip}
use Rattle.log_peer.specs.Peering.{held_by}
use Rattle.cli_lines.proofs.Printing.{on_err, part_first, part_same, part_then, printed_on_err, prints_same}
use Rattle.cli_lines.specs.Told.{PrintsPart}
use Rattle.cli_peer.specs.Logged.{batch_text, block_text}
use Rattle.cli_peer.specs.Printed.{aborted_text, left_out_text}
use Rattle.cli_peer.proofs.Filters.{tells_behind}
use Rattle.cli_peer.proofs.logged.Telling.print_batch.Goals as goal

pub returns-in_err-print_aborted-clause-part : goal.returns-in_err-print_aborted-clause-part
returns-in_err-print_aborted-clause-part g c =
    let chain = (held_by c.args.self.now.peer.now).chain in
    let batch = c.args.batch.now in
    let t = c.args.out.now in
    let u = c.print_aborted.new.out in
    let shown = flat_map left_out_text (zip c.as_slice.result.now c.as_slice-causes.result.now) in
    let same : shown ≡ aborted_text batch = cc (c.as_slice.ensures, c.as_slice-causes.ensures) in
    on_err c.from_residual.result (PrintsPart t u (batch_text chain batch))
    (part_first t u (aborted_text batch) (block_text chain batch.report.block batch.received)
    (part_same t u shown (aborted_text batch) same c.in_err-print_aborted.ensures.part))

pub returns-clause-part : goal.returns-clause-part
returns-clause-part g c =
    let chain = (held_by c.args.self.now.peer.now).chain in
    let batch = c.args.batch.now in
    let made = block_text chain batch.report.block batch.received in
    let t = c.args.out.now in
    let u = c.print_aborted.new.out in
    let v = c.print_block.new.out in
    let shown = flat_map left_out_text (zip c.as_slice.result.now c.as_slice-causes.result.now) in
    let same : shown ≡ aborted_text batch = cc (c.as_slice.ensures, c.as_slice-causes.ensures) in
    let before = prints_same t u shown (aborted_text batch) same c.in_ok-print_aborted.ensures.prints in
    printed_on_err c.print_block.result (PrintsPart u v made) (PrintsPart t v (batch_text chain batch))
    (λ part. part_then t u v (aborted_text batch) made before part) c.print_block.ensures.part

pub returns-clause-tells : goal.returns-clause-tells
returns-clause-tells g c =
    tells_behind c.args.out.now c.print_aborted.new.out c.print_block.new.out c.print_block.result c.in_ok-print_aborted.ensures.tells
    c.print_block.ensures.tells
