use Rattle.edwards25519.proofs.Choosing.{chosen_flag}
use Rattle.edwards25519.proofs.choice.chosen.Goals as goal

pub returns : goal.returns
returns c = chosen_flag c.args.first c.args.a.now c.args.b.now _ _ c.flag.ensures.flag c.chosen.ensures.same
