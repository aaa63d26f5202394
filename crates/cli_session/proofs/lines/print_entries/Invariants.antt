use Rattle.std.proofs.Common.{[], ◌++◌, take}
use Rattle.std.specs.List.{flat_map}
use Rattle.std.specs.Map.Iter.{deref_pair}
use Rattle.cli_lines.specs.Told.{Prints}
use Rattle.cli_session.specs.States.{entry_text}
use Rattle.cli_session.proofs.lines.print_entries.Given as goal

abbrev pub invariant-loop-key : goal.invariant-loop-key
invariant-loop-key g l = Prints l.fn.out l.out ([] ++ flat_map (λ e. entry_text (deref_pair e)) (take l.key-index l.entries))
