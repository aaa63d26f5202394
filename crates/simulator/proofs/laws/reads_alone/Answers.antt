use Rattle.simulator.proofs.Alone.{each_alone}
use Rattle.simulator.proofs.laws.reads_alone.Goals as goal

pub returns : goal.returns
returns c =
    let laws = c.definitions_are_read.ensures in
    laws.all _ (each_alone c.reads_alone.ensures laws.calls laws.upgrades _ c.chaincodes-valid.ensures.valid)
