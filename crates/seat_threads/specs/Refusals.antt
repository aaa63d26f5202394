-- The numbers of refusals, and the refusal of a peer that did not open.
use Rattle.std.specs.Prelude.{ℕ}
use Rattle.snapshot_cell.specs.declared.refusal.OpenRefusal.{OpenRefusal}
use Rattle.snapshot_cell.specs.declared.refusal.OpenRefusal.TheVariants as opening
use Rattle.seat_threads.specs.declared.refusal.SeatsRefusal.{SeatsRefusal}
use Rattle.seat_threads.specs.declared.refusal.SeatsRefusal.TheVariants.{Memory, NoPlace, NotEntered}

abbrev pub seats_number : SeatsRefusal → ℕ
seats_number Memory = 9
seats_number NoPlace = 431
seats_number NotEntered = 432

abbrev pub of_open : OpenRefusal → SeatsRefusal
of_open opening.NoPlace = NoPlace
of_open opening.Memory = Memory
