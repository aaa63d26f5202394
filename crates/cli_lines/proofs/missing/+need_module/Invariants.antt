use Rattle.std.proofs.Common.{length}
use Rattle.cli_lines.proofs.missing.+need_module.Given as goal

abbrev pub decreases-need_module : goal.decreases-need_module
decreases-need_module l = length l.envelopes.now
