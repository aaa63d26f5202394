use Rattle.std.proofs.Common.{arith, subst}
use Rattle.cli_session.specs.Reading.{IsPiece}
use Rattle.cli_session.specs.declared.reading.Piece.{Piece}
use Rattle.cli_session.proofs.Pieces.{too_long, piece_ended}
use Rattle.cli_session.proofs.reading.next_line.Goals as goal

pub returns-in-Ended-clause-next : goal.returns-in-Ended-clause-next
returns-in-Ended-clause-next g c =
    let old = g.B.Read.remaining c.loop.lines in
    let new = g.B.Read.remaining c.append_piece.new.lines in
    let before = c.loop.line.items in
    let after = c.append_piece.new.line.items in
    piece_ended (g.B.Read.remaining c.args.lines.now) old new before after c.loop.invariant
    (subst (λ (p : Piece). IsPiece p old new before after) c.in-Ended.is c.in_ok-piece.ensures.piece)

pub returns-then-len-gt-LONGEST_LINE-clause-next : goal.returns-then-len-gt-LONGEST_LINE-clause-next
returns-then-len-gt-LONGEST_LINE-clause-next g c =
    too_long 2097152 c.in_ok-piece.piece (g.B.Read.remaining c.args.lines.now) (g.B.Read.remaining c.loop.lines)
    (g.B.Read.remaining c.append_piece.new.lines) c.loop.line.items c.append_piece.new.line.items c.loop.invariant
    c.in_ok-piece.ensures.piece (omega (arith, c.len.ensures, c.if-len-gt-LONGEST_LINE.true))
