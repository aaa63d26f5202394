-- What a clause sees of the cell's ends.
use Rattle.std.specs.Prelude.{◌≡◌, List, All}
use Rattle.logbook.specs.Pages.{Book}
use Rattle.ledger_model.specs.Chain.{Chain}
use Rattle.snapshot_cell.specs.declared.reader.Reader.{Reader}
use Rattle.snapshot_cell.specs.declared.writer.Writer.{Writer}
use Rattle.snapshot_cell.specs.declared.writer.Told.{Told}

-- the whole blocks that a seat has seen or was told of
abbrev pub seen_list : Reader → Chain
seen_list r = r.front.seen.log

-- the whole blocks that the writer published
abbrev pub published_list : Writer → Chain
published_list w = w.front.seen.log

-- the whole blocks that the writer or a seat told of
abbrev pub told_list : Told → Chain
told_list t = t.front.seen.log

-- which cell it is
abbrev pub cell_of_reader : Reader → Book
cell_of_reader r = r.front.seen.book

abbrev pub cell_of_writer : Writer → Book
cell_of_writer w = w.front.seen.book

abbrev pub cell_of_told : Told → Book
cell_of_told t = t.front.seen.book

-- each of the seats is of this cell and has seen these blocks
abbrev pub EachBegins : Book → Chain → List Reader → Type 0
EachBegins cell blocks readers = All (λ r. (cell_of_reader r ≡ cell) × (seen_list r ≡ blocks)) readers
