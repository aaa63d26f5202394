use Rattle.std.proofs.Common.{◌≡◌, map, take}
use Rattle.std.specs.Map.Iter.{deref_pair}
use Rattle.cli_lines.specs.Told.{IsMore}
use Rattle.cli_show.specs.Lines.{HasLines, entries_json}
use Rattle.cli_show.proofs.entries.print_entries.Given as goal

abbrev pub invariant-loop-key : goal.invariant-loop-key
invariant-loop-key g l =
    record {
      more : IsMore l.fn.out l.out;
      failed : l.out.failed ≡ l.fn.out.failed;
      lines : HasLines (entries_json (map deref_pair (take l.key-index l.entries))) l.fn.out.bytes l.out.bytes;
    }
