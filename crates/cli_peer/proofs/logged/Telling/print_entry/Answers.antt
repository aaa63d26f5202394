use Rattle.log_peer.specs.Peering.{held_by}
use Rattle.cli_lines.proofs.Printing.{printed_on_ok}
use Rattle.cli_peer.specs.Logged.{TellsReport}
use Rattle.cli_peer.specs.Printed.{read_text}
use Rattle.cli_peer.proofs.Entries.{entry_begun, entry_ended}
use Rattle.cli_peer.proofs.Filters.{tells_behind, told_behind}
use Rattle.cli_peer.proofs.logged.Telling.print_entry.Goals as goal

pub returns-clause-tells : goal.returns-clause-tells
returns-clause-tells g c =
    tells_behind c.args.out.now c.print_report.new.out c.writeln.new.self c.writeln.result c.in_ok-print_report.ensures.tells c.writeln.ensures.tells

pub returns-in_err-print_report-clause-kept : goal.returns-in_err-print_report-clause-kept
returns-in_err-print_report-clause-kept g c = c.print_report.ensures.kept

pub returns-clause-kept : goal.returns-clause-kept
returns-clause-kept g c = c.print_report.ensures.kept

pub returns-in_err-print_report-clause-begins : goal.returns-in_err-print_report-clause-begins
returns-in_err-print_report-clause-begins g c =
    let self = c.args.self.now in
    let entry = c.args.entry.now in
    entry_begun self.log.now (held_by self.peer.now) entry.index.now entry.text.now c.args.report.now c.from_residual.result c.args.out.now
    c.print_report.new.out (c.in_err-print_report.ensures.begins c.in_err-print_report.ensures.lost)

pub returns-clause-begins : goal.returns-clause-begins
returns-clause-begins g c =
    let self = c.args.self.now in
    let entry = c.args.entry.now in
    entry_ended self.log.now (held_by self.peer.now) entry.index.now entry.text.now c.args.report.now c.writeln.result c.args.out.now c.print_report.new.out
    c.writeln.new.self c.in_ok-print_report.ensures.prints c.writeln.ensures.nothing

pub returns-clause-prints : goal.returns-clause-prints
returns-clause-prints g c =
    let self = c.args.self.now in
    let entry = c.args.entry.now in
    let held = held_by self.peer.now in
    printed_on_ok c.writeln.result _ _
    (told_behind (TellsReport self.log.now held entry.index.now entry.text.now c.args.report.now) (read_text entry.index.now held.log) c.args.out.now
    c.print_report.new.out c.writeln.new.self c.in_ok-print_report.ensures.prints) (rw c.waiting.ensures at c.writeln.ensures.prints)
