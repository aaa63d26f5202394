use Rattle.block_store.proofs.Beginnings.{beginning_loads}
use Rattle.block_store.proofs.laws.beginning_loads_as_torn.Goals as goal

pub returns : goal.returns
returns c = beginning_loads
