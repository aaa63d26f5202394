use Rattle.ledger_cli.proofs.Usage.{ended_by, lost_by}
use Rattle.ledger_cli.proofs.commands.refused.Goals as goal

pub returns-clause-lost : goal.returns-clause-lost
returns-clause-lost g c =
    let told = c.tell_and_hand_on-is_told in
    lost_by c.args.command.now c.args.failure c.args.out.now told.new.out told.result c.status_of.result c.status_of.ensures.told c.status_of.ensures.lost told.ensures.line

pub returns-clause-ended : goal.returns-clause-ended
returns-clause-ended g c =
    let told = c.tell_and_hand_on-is_told in
    ended_by c.args.command.now c.args.failure c.args.out.now told.new.out told.result c.status_of.result c.status_of.ensures.told told.ensures.lost told.ensures.line
