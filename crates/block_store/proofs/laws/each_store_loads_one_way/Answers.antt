use Rattle.block_store.proofs.OneAnswer.{one_answer}
use Rattle.block_store.proofs.laws.each_store_loads_one_way.Goals as goal

pub returns : goal.returns
returns c = one_answer
