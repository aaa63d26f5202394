-- The numbers of refusals, and how they are written; which refusal a seat hands on, and what the refusal of a peer that comes back says.
use Rattle.std.specs.Prelude.{◌++◌, ℕ, List, [], codes}
use Rattle.std.specs.Fmt.{decimal}
use Rattle.fab_types.specs.Committed.{Committed}
use Rattle.ledger_model.specs.Judged.{BlockRule}
use Rattle.simulator.specs.RefusalNumber.{refusal_number, refusal_text}
use Rattle.simulator.specs.declared.refusal.SimRefusal.TheVariants.{Memory}
use Rattle.snapshot_cell.specs.declared.refusal.TakeRefusal.{TakeRefusal}
use Rattle.snapshot_cell.specs.declared.refusal.TakeRefusal.TheVariants as take
use Rattle.snapshot_cell.specs.Numbers.{open_number}
use Rattle.store_replay.specs.Lawful.{AreLawful, IsRecommitRefused}
use Rattle.store_replay.specs.Numbers.{recommit_number, recommit_text}
use Rattle.peer_node.specs.declared.refusal.ReopenRefusal.{ReopenRefusal}
use Rattle.peer_node.specs.declared.refusal.ReopenRefusal.TheVariants.{Stored, Open}
use Rattle.peer_node.specs.declared.refusal.FinishRefusal.{FinishRefusal}
use Rattle.peer_node.specs.declared.refusal.FinishRefusal.TheVariants.{Simulation, NotEntered}

abbrev pub finish_number : FinishRefusal → ℕ
finish_number (Simulation r) = refusal_number r
finish_number NotEntered = 432

abbrev pub finish_text : FinishRefusal → List ℕ
finish_text (Simulation r) = refusal_text r
finish_text NotEntered = codes "refused 432"

abbrev pub of_memory : FinishRefusal
of_memory = Simulation Memory

-- the refusal of a seat that took no snapshot
abbrev pub of_take : TakeRefusal → FinishRefusal
of_take take.NotEntered = NotEntered
of_take take.Memory = of_memory

abbrev pub reopen_number : ReopenRefusal → ℕ
reopen_number (Stored r) = recommit_number r
reopen_number (Open r) = open_number r

abbrev pub reopen_text : ReopenRefusal → List ℕ
reopen_text (Stored r) = recommit_text r
reopen_text (Open r) = codes "refused " ++ decimal (open_number r)

-- a cell is opened for lawful blocks alone; when it has no place for a seat is not said
abbrev pub IsReopenRefused : BlockRule → List Committed → ReopenRefusal → Type 0
IsReopenRefused rule records (Stored r) = IsRecommitRefused rule records r
IsReopenRefused rule records (Open r) = AreLawful rule [] records
