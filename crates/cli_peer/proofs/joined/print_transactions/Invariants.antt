use Rattle.std.proofs.Common.{[], ◌++◌, take}
use Rattle.std.specs.List.{flat_map}
use Rattle.ledger_model.specs.Chain.{transactions_from}
use Rattle.cli_lines.specs.Told.{Prints}
use Rattle.cli_peer.specs.Printed.{tx_text}
use Rattle.cli_peer.proofs.joined.print_transactions.Given as goal

abbrev pub invariant-loop-place : goal.invariant-loop-place
invariant-loop-place g l = Prints l.fn.out l.out ([] ++ flat_map tx_text (take l.place (transactions_from l.number 0 l.envelopes l.flags)))
