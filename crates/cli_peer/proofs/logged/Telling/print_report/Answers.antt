use Rattle.std.proofs.Common.{rules}
use Rattle.std.specs.List.{flat_map}
use Rattle.log_peer.specs.Peering.{held_by}
use Rattle.cli_lines.proofs.Answering.{begins_part}
use Rattle.cli_lines.proofs.Printing.{printed_on_ok}
use Rattle.cli_peer.specs.Logged.{TellsReport, batch_text}
use Rattle.cli_peer.proofs.Filters.{prints_so, tells_behind}
use Rattle.cli_peer.proofs.Entries.{told_ended, told_none, told_skipped}
use Rattle.cli_peer.proofs.logged.Telling.print_report.Goals as goal

pub returns-in-Accepted-clause-prints : goal.returns-in-Accepted-clause-prints
returns-in-Accepted-clause-prints g c =
    let self = c.args.self.now in
    let entry = c.args.entry.now in
    let Tells = TellsReport self.log.now (held_by self.peer.now) entry.index.now entry.text.now c.args.report.now in
    let text = flat_map (batch_text (held_by self.peer.now).chain) c.as_slice.result.now in
    let told : Tells text = search rules in
    prints_so Tells c.args.out.now c.print_batches.new.out c.print_batches.result text c.print_batches.ensures.prints told

pub returns-in-Accepted-clause-begins : goal.returns-in-Accepted-clause-begins
returns-in-Accepted-clause-begins g c =
    let self = c.args.self.now in
    let entry = c.args.entry.now in
    let Tells = TellsReport self.log.now (held_by self.peer.now) entry.index.now entry.text.now c.args.report.now in
    let text = flat_map (batch_text (held_by self.peer.now).chain) c.as_slice.result.now in
    let told : Tells text = search rules in
    begins_part Tells c.args.out.now c.print_batches.new.out c.print_batches.result text told c.print_batches.ensures.part

pub returns-in-Ticked-None-clause-prints : goal.returns-in-Ticked-None-clause-prints
returns-in-Ticked-None-clause-prints g c =
    let self = c.args.self.now in
    let entry = c.args.entry.now in
    told_none self.log.now (held_by self.peer.now) entry.index.now entry.text.now c.args.report.now c.args.out.now (search rules)

pub returns-in-Ticked-Some-clause-prints : goal.returns-in-Ticked-Some-clause-prints
returns-in-Ticked-Some-clause-prints g c =
    let self = c.args.self.now in
    let entry = c.args.entry.now in
    let Tells = TellsReport self.log.now (held_by self.peer.now) entry.index.now entry.text.now c.args.report.now in
    let text = batch_text (held_by self.peer.now).chain c.in-Ticked-Some.batch in
    let told : Tells text = search rules in
    prints_so Tells c.args.out.now c.print_batch.new.out c.print_batch.result text c.print_batch.ensures.prints told

pub returns-in-Ticked-Some-clause-begins : goal.returns-in-Ticked-Some-clause-begins
returns-in-Ticked-Some-clause-begins g c =
    let self = c.args.self.now in
    let entry = c.args.entry.now in
    let Tells = TellsReport self.log.now (held_by self.peer.now) entry.index.now entry.text.now c.args.report.now in
    let text = batch_text (held_by self.peer.now).chain c.in-Ticked-Some.batch in
    let told : Tells text = search rules in
    begins_part Tells c.args.out.now c.print_batch.new.out c.print_batch.result text told c.print_batch.ensures.part

pub returns-in_ok-print_seen-in-Skipped-clause-prints : goal.returns-in_ok-print_seen-in-Skipped-clause-prints
returns-in_ok-print_seen-in-Skipped-clause-prints g c =
    let self = c.args.self.now in
    let entry = c.args.entry.now in
    printed_on_ok c.writeln.result _ _
    (told_skipped self.log.now (held_by self.peer.now) entry.index.now entry.text.now c.args.report.now c.in-Skipped.skip c.args.out.now
    c.print_seen.new.out c.writeln.new.self c.in-Skipped.is c.in_ok-print_seen-in-Skipped.ensures.prints) c.writeln.ensures.prints

pub returns-in_ok-print_seen-in-Skipped-clause-begins : goal.returns-in_ok-print_seen-in-Skipped-clause-begins
returns-in_ok-print_seen-in-Skipped-clause-begins g c =
    let self = c.args.self.now in
    let entry = c.args.entry.now in
    told_ended self.log.now (held_by self.peer.now) entry.index.now entry.text.now c.args.report.now c.writeln.result c.in-Skipped.skip c.args.out.now
    c.print_seen.new.out c.writeln.new.self c.in-Skipped.is c.in_ok-print_seen-in-Skipped.ensures.prints c.writeln.ensures.nothing

pub returns-in_ok-print_seen-in-Skipped-clause-tells : goal.returns-in_ok-print_seen-in-Skipped-clause-tells
returns-in_ok-print_seen-in-Skipped-clause-tells g c =
    tells_behind c.args.out.now c.print_seen.new.out c.writeln.new.self c.writeln.result c.in_ok-print_seen-in-Skipped.ensures.tells c.writeln.ensures.tells

pub returns-in_ok-print_seen-in-Skipped-clause-kept : goal.returns-in_ok-print_seen-in-Skipped-clause-kept
returns-in_ok-print_seen-in-Skipped-clause-kept g c = c.explain_skip.ensures.kept
