use Rattle.std.proofs.Common.{ℕ, take, sym, subst}
use Rattle.std.specs.Io.KnownBytes.{Consumes, IsAtEnd}
use Rattle.store_devices.specs.StoreFile.{IsPiece, from_place}
use Rattle.store_devices.proofs.Pieces.{piece_last, piece_taken}
use Rattle.store_devices.proofs.store_reader.StoreReaderCountedRead.read.Goals as goal

pub returns-in-Some-clause-known : goal.returns-in-Some-clause-known
returns-in-Some-clause-known g c =
    let known = g.D.Write.contents c.args.self.now.file.now in
    let place = c.args.self.now.place in
    let count = c.in-Some.count in
    let buffer = c.piece.new.buffer in
    let is : IsPiece known place count c.in-Some.behind buffer = c.in-Some.ensures in
    let on = sym is.on in (
      subst (λ (behind : ℕ). Consumes (from_place place known) (from_place behind known) (take count buffer)) on (piece_taken known place count buffer is.gives),
      λ none room. subst (λ (behind : ℕ). IsAtEnd (from_place behind known)) on (piece_last known place count buffer is.gives none room),
    )
