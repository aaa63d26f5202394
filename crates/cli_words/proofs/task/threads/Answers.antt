use Rattle.std.proofs.Common.{codes, subst, sym, ◌∙◌}
use Rattle.std.proofs.lemmas.Option.{none-some}
use Rattle.std.proofs.lemmas.Result.{err_from_is_err_and}
use Rattle.cli_words.proofs.Parts.{threads_parts}
use Rattle.cli_words.proofs.Reading.{none_is, one_text, refused}
use Rattle.cli_words.specs.Words.{IsWorkAs, SpellsCount, rows_in}
use Rattle.cli_words.proofs.task.threads.Goals as goal

pub returns-in_err-text : goal.returns-in_err-text
returns-in_err-text c =
    let p = err_from_is_err_and c.from_residual.result c.from_residual.ensures.1 in
    rw (p.1, p.2)
    (none_is (IsWorkAs (codes "threads") (rows_in c.args.command.now)) c.in_err-text.field-0.0
    (λ is w h. let s = (threads_parts (rows_in c.args.command.now) w h).0 in none-some s.1 (sym c.in_err-text.ensures.missing ∙ s.2)))

pub returns-in_err-count : goal.returns-in_err-count
returns-in_err-count c =
    let p = err_from_is_err_and c.from_residual-in_err-count.result c.from_residual-in_err-count.ensures.1 in
    let rows = rows_in c.args.command.now in
    rw (p.1, p.2)
    (refused _ _ c.in_err-count.field-0.0 c.in_err-count.ensures
    (λ w h. let s = (threads_parts rows w h).0 in
    (s.0, subst (λ d. SpellsCount d s.0) (one_text rows (codes "ROUNDS") s.1 c.in_ok-text.field-0.now s.2 c.in_ok-text.ensures.reads) s.3)))

pub returns-in_err-chaincode : goal.returns-in_err-chaincode
returns-in_err-chaincode c =
    let p = err_from_is_err_and c.from_residual-in_err-chaincode.result c.from_residual-in_err-chaincode.ensures.1 in
    rw (p.1, p.2) (refused _ _ c.in_err-chaincode.field-0.0 c.in_err-chaincode.ensures (λ w h. (threads_parts (rows_in c.args.command.now) w h).1))
