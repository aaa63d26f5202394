-- What a copy and the seats know of the history that the copy is of.
use Rattle.std.specs.Prelude.{◌≡◌, ℕ, List, true}
use mathlib.Core.Option.{some}
use lib.ListN.{get_elem?}
use Rattle.logbook.specs.Pages.{Book}
use Rattle.snapshot_cell.specs.declared.knowledge.Knowledge.{Knowledge}

-- what a seat knows that knows this history
abbrev pub knowing : Book → Knowledge
knowing b = record { knows = true; number = b.number; log_name = b.log_name; cells_name = b.cells_name }

-- each seat that knows a history knows this one
abbrev pub AllKnow : Book → List Knowledge → Type 0
AllKnow b seats = (seat : ℕ) (m : Knowledge) → get_elem? seats seat ≡ some m → m.knows ≡ true → m ≡ knowing b
