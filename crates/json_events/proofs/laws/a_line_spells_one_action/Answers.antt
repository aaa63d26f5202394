use Rattle.json_events.proofs.OneAction.{one}
use Rattle.json_events.proofs.laws.a_line_spells_one_action.Goals as goal

pub returns : goal.returns
returns c = one
