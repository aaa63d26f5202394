use Rattle.std.proofs.Common.{rules, ◌≡◌, ◌==◌, false, Some, None, take, refl, subst}
use Rattle.std.specs.Io.Buffered.{reader_buffer, reader_capacity, reader_inner, reader_remaining}
use Rattle.std.specs.Io.KnownBytes.{Consumes}
use Rattle.std.specs.List.{position}
use Rattle.cli_lines.specs.Texts.{line}
use Rattle.cli_peer.specs.Input.{Input, is_at_hand}
use Rattle.cli_peer.proofs.AtHand.{loses_line, none_at_hand, none_before_end}
use Rattle.cli_peer.proofs.input.InputLines.take_at_hand.Goals as goal

pub returns-in_default : goal.returns-in_default
returns-in_default g c =
    let none : position (λ b. b == 10) (reader_buffer c.self.inside.input) ≡ None = search rules in
    (subst (λ (i : Input). is_at_hand i ≡ false) c.self.view_is (none_at_hand (reader_buffer c.self.inside.input) none), refl)

pub returns : goal.returns
returns g c =
    let n = c.in-Some.length in
    let bytes = reader_buffer c.self.inside.input in
    let there : position (λ b. b == 10) bytes ≡ Some n = search rules in
    let is : c.in_ok-line.line.items ≡ take n bytes = search rules in
    let end = c.consume.ensures in
    let old = c.self.inside.input in
    let new = c.consume.new.self in
    let remaining = g.R.Read.remaining in
    let lost : Consumes (reader_remaining remaining old) (reader_remaining remaining new) (line (take n bytes)) =
    rw (end.buffer, end.capacity, end.inner) (loses_line bytes n there (reader_capacity old == 0) (remaining (reader_inner old))) in
    rw is (none_before_end bytes n there, subst (λ (i : Input). Consumes i.left (reader_remaining remaining new) (line (take n bytes))) c.self.view_is lost)
