-- The numbers of refusals.
use Rattle.std.specs.Prelude.{ℕ}
use Rattle.snapshot_cell.specs.declared.refusal.OpenRefusal.{OpenRefusal}
use Rattle.snapshot_cell.specs.declared.refusal.OpenRefusal.TheVariants as opening
use Rattle.snapshot_cell.specs.declared.refusal.TakeRefusal.{TakeRefusal}
use Rattle.snapshot_cell.specs.declared.refusal.TakeRefusal.TheVariants as taking

abbrev pub open_number : OpenRefusal → ℕ
open_number opening.NoPlace = 431
open_number opening.Memory = 9

abbrev pub take_number : TakeRefusal → ℕ
take_number taking.NotEntered = 432
take_number taking.Memory = 9
