use Rattle.std.proofs.Common.{string_bytes}
use Rattle.cli_show.proofs.SoughtParts.{sought_none}
use Rattle.cli_show.proofs.sought.Sought.new.Goals as goal

pub returns-clause-none : goal.returns-clause-none
returns-clause-none c =
    sought_none c.args.asked.now.part c.args.asked.now.at c.new.result.entries (string_bytes c.new-2.result) c.new.ensures.empty c.new-2.ensures.bytes
