use Rattle.std.proofs.Common.{[], ◌∙◌, sym, true≢false}
use Rattle.cli_lines.proofs.Answering.{prints_kept}
use Rattle.cli_lines.proofs.Printing.{prints_none}
use Rattle.ledger_cli.proofs.commands.hand_on.Goals as goal

pub returns-in-Ok-clause-kept : goal.returns-in-Ok-clause-kept
returns-in-Ok-clause-kept g c =
    let t = c.args.out.now in
    let f = c.in-Ok.ensures in
    λ done. prints_kept t t c.flush.new.self [] (prints_none t) f.tells.0 f.tells.1 f.bytes

pub returns-in-Err-clause-handed_on : goal.returns-in-Err-clause-handed_on
returns-in-Err-clause-handed_on g c = λ whole. absurd (true≢false (sym c.in-Err.ensures.failed ∙ whole))

pub returns-in-Ok-clause-handed_on : goal.returns-in-Ok-clause-handed_on
returns-in-Ok-clause-handed_on g c = λ whole. (c.in-Ok.ensures.handed_on, c.in-Ok.ensures.handed)
