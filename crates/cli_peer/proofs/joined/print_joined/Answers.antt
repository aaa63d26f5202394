use Rattle.std.proofs.Common.{◌≡◌, ◌++◌}
use Rattle.std.specs.List.{flat_map}
use Rattle.ledger_model.specs.Chain.{transactions_from}
use Rattle.cli_lines.specs.Lines.{committed_text}
use Rattle.cli_lines.specs.Told.{PrintsPart}
use Rattle.cli_lines.proofs.Printing.{on_err, part_first, part_same}
use Rattle.cli_peer.specs.Printed.{tx_text}
use Rattle.cli_peer.proofs.Filters.{tells_behind}
use Rattle.cli_peer.proofs.joined.print_joined.Goals as goal

pub returns-clause-tells : goal.returns-clause-tells
returns-clause-tells g c =
    tells_behind c.args.out.now c.print_transactions.new.out c.print_committed.new.out c.print_committed.result c.in_ok-print_transactions.ensures.tells
    c.print_committed.ensures.tells

pub returns-in_err-print_transactions-clause-part : goal.returns-in_err-print_transactions-clause-part
returns-in_err-print_transactions-clause-part g c =
    let block = c.args.block.now in
    let t = c.args.out.now in
    let u = c.print_transactions.new.out in
    let shown = flat_map tx_text (transactions_from c.args.number 0 c.as_slice-envelopes.result.now c.flags.result.now) in
    let wanted = flat_map tx_text (transactions_from c.args.number 0 block.block.envelopes block.flags) in
    let more = committed_text c.args.number block.flags in
    let same : shown ≡ wanted = cc (c.as_slice-envelopes.ensures.value, c.block.ensures, c.flags.ensures.value) in
    on_err c.from_residual.result (PrintsPart t u (wanted ++ more))
    (part_first t u wanted more (part_same t u shown wanted same c.in_err-print_transactions.ensures.part))
