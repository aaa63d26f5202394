use Rattle.std.proofs.Common.{ℕ, List, length, drop, subst, IfSome, ◌≡◌, ◌++◌}
use Rattle.std.specs.Io.{StopsAt}
use Rattle.std.specs.Io.Buffered.{reader_buffer, reader_remaining}
use Rattle.std.specs.Io.BufRead.{take_through}
use Rattle.std.specs.Io.KnownBytes.{Consumes}
use Rattle.cli_peer.specs.Input.{Input, IsNext}
use Rattle.cli_peer.proofs.Lines.{next_is}
use Rattle.cli_peer.proofs.input.InputLines.read_next.Goals as goal

pub returns-clause-next : goal.returns-clause-next
returns-clause-next g c =
    let a = reader_remaining g.R.Read.remaining c.self.inside.input in
    let b = reader_remaining g.R.Read.remaining c.read_until.new.self in
    let read = c.read_until.new.buf.items in
    let r = c.in_ok-read_until.ensures in
    let none = c.clear.ensures.items in
    let kept = c.take_end.new.line.items in
    let ahead = reader_buffer c.read_until.new.self in
    let new : Input = record { last = kept; left = b; ahead = ahead } in
    subst (λ (old : Input). IsNext c.take_end.result old new) c.self.view_is
    (next_is c.take_end.result c.self.inside.line.items kept read a b (reader_buffer c.self.inside.input) ahead
    (subst (λ (l : List ℕ). StopsAt (drop (length l) read) 10) none r.stops)
    (subst (λ (l : List ℕ). Consumes a b (drop (length l) read)) none r.none_lost)
    (subst (λ (l : List ℕ). IfSome a (λ xs. read ≡ l ++ take_through 10 xs)) none r.bytes) c.take_end.ensures)
