use Rattle.orderer.proofs.Heading.{tip_behind}
use Rattle.orderer.proofs.maker.tip_after.Goals as goal

pub returns-in-Some-clause-tip : goal.returns-in-Some-clause-tip
returns-in-Some-clause-tip c = λ chain at. rw (c.header_hash.ensures, c.in-Some.is) (tip_behind c.args.tip c.in-Some.block chain at)
