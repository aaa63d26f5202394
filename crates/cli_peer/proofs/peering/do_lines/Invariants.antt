use Rattle.std.proofs.Common.{◌≡◌, Ok}
use Rattle.log_peer.specs.Peering.{held_by}
use Rattle.cli_lines.specs.declared.failure.Failure.{Failure}
use Rattle.cli_peer.specs.Keeping.{StoresOn}
use Rattle.cli_peer.specs.Peering.{DoesLine}
use Rattle.cli_peer.specs.Rounds.{IsRound, left_behind}
use Rattle.cli_peer.specs.Running.{IsReader, reached}
use Rattle.peer_answers.specs.Setting.{peer_of}
use Rattle.cli_peer.proofs.Filters.{HasDone}
use Rattle.cli_peer.proofs.peering.do_lines.Given as goal

abbrev pub invariant-loop-number : goal.invariant-loop-number
invariant-loop-number g l = record {
  reader : IsReader g.D.StoreFile.is_known g.D.Write.contents l.setting.answering.log.now l.reader;
  round : IsRound (peer_of g.D.StoreFile.is_known l.setting.answering) (held_by l.reader.peer).chain l.round;
  kept : g.F.Files.bytes l.files ≡ g.F.Files.bytes l.fn.files;
  stores : StoresOn {A = Unit {0}} {E = Failure} g.D.Write.contents l.fn.reader.peer l.reader.peer (Ok tt);
  done : HasDone (DoesLine (peer_of g.D.StoreFile.is_known l.setting.answering)) (left_behind l.fn.round.lines.items l.fn.lines.left)
      (left_behind l.round.lines.items l.lines.left) (reached l.fn.reader) l.number (reached l.reader) l.fn.out l.out;
}
