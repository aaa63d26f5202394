use Rattle.block_store.proofs.EachStore.{has_answer}
use Rattle.block_store.proofs.laws.each_store_loads.Goals as goal

pub returns : goal.returns
returns c = has_answer
