use Rattle.cli_session.specs.Reading.{TakesPart}
use Rattle.cli_session.proofs.reading.next_line.Given as goal

abbrev pub invariant-loop : goal.invariant-loop
invariant-loop g l = TakesPart (g.B.Read.remaining l.fn.lines) (g.B.Read.remaining l.lines) l.line.items
