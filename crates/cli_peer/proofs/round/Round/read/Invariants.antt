use Rattle.std.proofs.Common.{◌≡◌}
use Rattle.cli_peer.specs.Rounds.{ReadsBehind}
use Rattle.cli_peer.proofs.round.Round.read.Given as goal

abbrev pub invariant-loop : goal.invariant-loop
invariant-loop g l = record {
  lines : ReadsBehind l.fn.lines.last l.fn.lines.left l.self.lines.items l.lines.left;
  answers : l.self.answers.items ≡ l.fn.self.answers.items;
}
