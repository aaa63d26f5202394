use Rattle.std.proofs.Common.{ℕ, List, [], sym, subst, append-nil}
use Rattle.std.specs.Io.BufRead.{FillKeeps}
use Rattle.std.proofs.BufReadLemmas.{Consumes_shown}
use Rattle.cli_session.specs.Reading.{IsPiece}
use Rattle.cli_session.proofs.Pieces.{part_none, piece_cut}
use Rattle.cli_session.proofs.reading.append_piece.Goals as goal

pub returns-then-eq : goal.returns-then-eq
returns-then-eq g c = record { piece = ([], sym (append-nil _), part_none _ _ c.fill_buf.follows.holds-at-none.0) }

pub returns : goal.returns
returns g c =
    let rested = c.fill_buf.follows.lender-at-none in
    let filled = subst (FillKeeps _ (g.B.Read.remaining rested) (g.B.BufRead.consumable_len rested)) c.in-Ok.is c.fill_buf.follows.holds-at-none in
    let cut = c.cut_of-cut in
    let shown = c.in-Ok.available.now in
    let old = g.B.Read.remaining c.args.lines.now in
    let new = g.B.Read.remaining c.consume.new.self in
    let moved = Consumes_shown _ _ _ _ shown cut.result.taken cut.ensures.within.1 c.in-Ok.ensures.front c.in-Ok.ensures.end filled.0 filled.1
    c.consume.ensures.bytes in
    record {
      piece =
          subst (λ (l : List ℕ). IsPiece cut.result.piece old new c.args.line.now.items l) (sym c.in_ok-extend_from_slice.ensures.items)
          (piece_cut cut.result.piece old new shown c.args.line.now.items cut.result.text cut.result.taken c.in-Ok.ensures.end cut.ensures.cut moved.0);
    }
