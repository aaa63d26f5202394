use Rattle.std.proofs.Common.{sym}
use Rattle.orderer.proofs.Heading.{tip_named}
use Rattle.orderer.proofs.maker.tip_of.Goals as goal

pub returns-in-Some-clause-tip : goal.returns-in-Some-clause-tip
returns-in-Some-clause-tip c = λ chain are. tip_named c.args.hashes.now c.in-Some.hash.now (sym c.in-Some.ensures.value) chain are
