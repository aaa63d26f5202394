use Rattle.std.proofs.Common.{[]}
use Rattle.ledger_model.proofs.Settled.{settled_chain}
use Rattle.ledger_model.proofs.a_block_reads_nothing_that_it_wrote.Goals as goal

pub returns : goal.returns
returns c id endorsed chain h = settled_chain id endorsed [] chain h
