use Rattle.std.proofs.Common.{◌∙◌}
use Rattle.wire.proofs.Last.{no_last, of_last}
use Rattle.wire.proofs.links.next_link.Goals as goal

pub returns-in-None : goal.returns-in-None
returns-in-None c = λ blocks at. no_last c.args.last blocks c.in-None.is at

pub returns-in-Some : goal.returns-in-Some
returns-in-Some c = λ blocks at. c.header_hash.ensures ∙ of_last c.args.last c.in-Some.block blocks c.in-Some.is at
