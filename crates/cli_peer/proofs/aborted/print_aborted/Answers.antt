use Rattle.std.proofs.Common.{[], get_or}
use Rattle.std.specs.Prelude.{option_map}
use Rattle.std.specs.List.{flat_map, zip}
use Rattle.cli_lines.proofs.Printing.{on_err, part_left}
use Rattle.cli_lines.specs.Told.{PrintsPart}
use Rattle.cli_peer.specs.Printed.{left_out_text}
use Rattle.cli_peer.proofs.LeftOut.{item_at, left_out_all, left_out_step, same_item}
use Rattle.cli_peer.proofs.aborted.print_aborted.Goals as goal

pub loop-place-preserved : goal.loop-place-preserved
loop-place-preserved g c =
    let ids = c.args.ids.now in
    let place = c.loop-place.place in
    let within = c.loop-place-test.true in
    left_out_step ids c.args.causes.now place (get_or ids place []) (option_map (λ l. l.now) c.get.result) c.args.out.now c.loop-place.out
    c.print_left_out.new.out within (same_item ids place [] within) (item_at c.args.causes.now place c.get.result c.get.ensures.lookup)
    c.loop-place.invariant c.in_ok-print_left_out.ensures.prints

pub returns-clause-prints : goal.returns-clause-prints
returns-clause-prints g c =
    left_out_all c.args.ids.now c.args.causes.now c.loop-place.place c.args.out.now c.loop-place.out c.loop-place-test.false c.loop-place.invariant

pub returns-in_err-print_left_out-clause-part : goal.returns-in_err-print_left_out-clause-part
returns-in_err-print_left_out-clause-part g c =
    let left = zip c.args.ids.now c.args.causes.now in
    let t = c.args.out.now in
    let v = c.print_left_out.new.out in
    on_err c.from_residual.result (PrintsPart t v (flat_map left_out_text left))
    (part_left left_out_text [] left c.loop-place.place t c.loop-place.out v c.loop-place.invariant c.in_err-print_left_out.ensures.nothing)
