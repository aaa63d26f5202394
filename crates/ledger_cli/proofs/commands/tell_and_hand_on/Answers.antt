use Rattle.cli_lines.proofs.Silence.{and_more}
use Rattle.ledger_cli.proofs.Lines.{last_kept}
use Rattle.ledger_cli.proofs.Telling.{still_told}
use Rattle.ledger_cli.proofs.commands.tell_and_hand_on.Goals as goal

pub returns-in-Ok-clause-told : goal.returns-in-Ok-clause-told
returns-in-Ok-clause-told g c =
    λ before more says. still_told before c.tell-told.new.out c.hand_on-is_handed_on.new.out (c.tell-told.ensures.told before more says)
    c.hand_on-is_handed_on.ensures.more

pub returns-in-Err-clause-told : goal.returns-in-Err-clause-told
returns-in-Err-clause-told g c =
    λ before more says. still_told before c.tell-told.new.out c.hand_on-is_handed_on.new.out (c.tell-told.ensures.told before more says)
    c.hand_on-is_handed_on.ensures.more

pub returns-in-Ok-clause-line : goal.returns-in-Ok-clause-line
returns-in-Ok-clause-line g c =
    let u = c.tell-told.new.out in
    let h = c.hand_on-is_handed_on in
    λ handed. last_kept c.args.command.now c.args.failure c.args.out.now u h.new.out c.in-Ok.ensures.line (h.ensures.kept handed)

pub returns-in-Err-clause-lost : goal.returns-in-Err-clause-lost
returns-in-Err-clause-lost g c = λ not. c.hand_on-is_handed_on.ensures.more.fails c.in-Err.ensures.lost

pub returns-in-Ok-clause-more : goal.returns-in-Ok-clause-more
returns-in-Ok-clause-more g c =
    and_more c.args.out.now c.tell-told.new.out c.hand_on-is_handed_on.new.out c.tell-told.ensures.more c.hand_on-is_handed_on.ensures.more

pub returns-in-Err-clause-more : goal.returns-in-Err-clause-more
returns-in-Err-clause-more g c =
    and_more c.args.out.now c.tell-told.new.out c.hand_on-is_handed_on.new.out c.tell-told.ensures.more c.hand_on-is_handed_on.ensures.more
