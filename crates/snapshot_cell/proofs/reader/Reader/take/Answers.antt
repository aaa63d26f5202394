use Rattle.std.proofs.Common.{refl}
use Rattle.snapshot_cell.proofs.Knowing.{turns}
use Rattle.snapshot_cell.proofs.reader.Reader.take.Goals as goal

pub enter_as-requires : goal.enter_as-requires
enter_as-requires c x = turns _ _ x x refl
