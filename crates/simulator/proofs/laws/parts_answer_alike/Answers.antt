use Rattle.simulator.proofs.Parts.{exec_alike}
use Rattle.simulator.proofs.laws.parts_answer_alike.Goals as goal

pub returns : goal.returns
returns c = exec_alike
