use Rattle.json_events.proofs.OneProposal.{one}
use Rattle.json_events.proofs.laws.a_line_spells_one_proposal.Goals as goal

pub returns : goal.returns
returns c = one
