use Rattle.std.proofs.Common.{ℕ, List, Ok, Err, ap, map, string_bytes, subst, sym, ◌∙◌}
use Rattle.cli_lines.specs.Places.{FilesHeld}
use Rattle.cli_lines.proofs.Silence.{and_more}
use Rattle.ledger_cli.specs.Ends.{CarriesOut, PrintsLast}
use Rattle.ledger_cli.specs.Leaving.{KeepsFiles}
use Rattle.ledger_cli.specs.Tasks.{KnownFiles}
use Rattle.ledger_cli.proofs.Beginning.{same_after}
use Rattle.ledger_cli.proofs.Telling.{not_output}
use Rattle.ledger_cli.proofs.commands.program.Goals as goal

pub returns-in-Ok-clause-answers : goal.returns-in-Ok-clause-answers
returns-in-Ok-clause-answers g c =
    λ whole. let end = c.done.ensures.ended whole in
    record { answer = Ok tt; mid = c.carry_out.new.out; carries = c.in-Ok.ensures.carries; end = end.1; status_is = end.0; told = λ is. cc is }

pub returns-in-Err-clause-answers : goal.returns-in-Err-clause-answers
returns-in-Err-clause-answers g c =
    let files = g.F.Files.bytes in
    let same = same_after g.F.Files.is_known (files c.args.files.now) (files c.carry_out.new.files) (files c.explain_refusal.new.files)
    (g.F.Files.input_bytes c.args.files.now) c.explain_refusal.ensures in
    let words = map string_bytes c.args.words.now in
    let f = c.in-Err.failure in
    let mid = c.carry_out.new.out in
    let carries = subst (λ (k : KnownFiles). CarriesOut words k c.args.out.now mid (Err f)) same c.in-Err.ensures.carries in
    let refused = c.refused-status in
    λ whole. let end = refused.ensures.ended whole in
    let told = not_output c.args.out.now mid refused.new.out f c.in-Err.ensures.tells.1 refused.ensures.more whole in
    let printed = subst (λ (command : List ℕ). PrintsLast command f mid refused.new.out) c.command_in.ensures end.1 in
    record { answer = Err f; mid = mid; carries = carries; end = printed; status_is = end.0; told = λ is. told (cc is) }

pub returns-in-Ok-clause-more : goal.returns-in-Ok-clause-more
returns-in-Ok-clause-more g c = and_more c.args.out.now c.carry_out.new.out c.done.new.out c.in-Ok.ensures.tells.0 c.done.ensures.more

pub returns-in-Err-clause-more : goal.returns-in-Err-clause-more
returns-in-Err-clause-more g c = and_more c.args.out.now c.carry_out.new.out c.refused-status.new.out c.in-Err.ensures.tells.0 c.refused-status.ensures.more

pub returns-in-Err-clause-told : goal.returns-in-Err-clause-told
returns-in-Err-clause-told g c = λ positive. c.refused-status.ensures.told c.args.out.now c.in-Err.ensures.tells.0 c.in-Err.ensures.tells.1

pub returns-in-Err-clause-files : goal.returns-in-Err-clause-files
returns-in-Err-clause-files g c =
    let files = g.F.Files.bytes in
    subst (λ (h : FilesHeld). KeepsFiles g.F.Files.is_known (map string_bytes c.args.words.now) (files c.args.files.now) h) (sym c.explain_refusal.ensures)
    c.in-Err.ensures.files

pub returns-in-Ok-clause-lost : goal.returns-in-Ok-clause-lost
returns-in-Ok-clause-lost g c = λ whole lost. c.done.ensures.lost (c.in-Ok.ensures.tells.1 ∙ whole) lost

pub returns-in-Err-clause-lost : goal.returns-in-Err-clause-lost
returns-in-Err-clause-lost g c = λ whole lost. c.refused-status.ensures.lost (λ is. c.in-Err.ensures.usage (ap Err is) ∙ whole) lost
