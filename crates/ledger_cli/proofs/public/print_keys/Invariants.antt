use Rattle.std.proofs.Common.{[], ◌++◌, take}
use Rattle.std.specs.List.{flat_map}
use Rattle.cli_lines.specs.Told.{Prints}
use Rattle.ledger_cli.specs.Keys.{public_text}
use Rattle.ledger_cli.proofs.public.print_keys.Given as goal

abbrev pub invariant-loop-key : goal.invariant-loop-key
invariant-loop-key g l = Prints l.fn.out l.out ([] ++ flat_map public_text (take l.key-index l.keys))
