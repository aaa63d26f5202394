use Rattle.std.proofs.Common.{◌≡◌, ℕ, suc, List, length}
use Rattle.cli_session.specs.Reading.{TakesLines}
use Rattle.cli_session.specs.Running.{AreLines}
use Rattle.cli_session.specs.Stages.{DoesPrint, stage_at}
use Rattle.cli_session.proofs.session.Session.do_lines.Given as goal

abbrev pub invariant-loop-number : goal.invariant-loop-number
invariant-loop-number g l =
    (lines : List (List ℕ)) × (l.number ≡ suc (length lines)) × TakesLines (g.B.Read.remaining l.fn.lines) (g.B.Read.remaining l.lines) lines
    × DoesPrint (AreLines lines) (stage_at l.fn.self.system l.fn.self.bindings) (stage_at l.self.system l.self.bindings) l.fn.out l.out
    × (g.F.Files.bytes l.files ≡ g.F.Files.bytes l.fn.files)
