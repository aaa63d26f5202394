use Rattle.std.proofs.Common.{rules, ◌≡◌, ◌∙◌, Some, ap, sym}
use Rattle.std.proofs.lemmas.Str.{utf8_lossy-IsUtf8}
use Rattle.std.specs.Str.{IsUtf8}
use Rattle.std.specs.Str.Lossy.{utf8_lossy}
use Rattle.peer_answers.specs.Lines.{Asks, said_in}
use Rattle.peer_answers.specs.Setting.{peer_of}
use Rattle.peer_answers.proofs.Known.{answer_is}
use Rattle.peer_answers.proofs.ahead.answer_to.Goals as goal

pub returns-in-Some-Ask : goal.returns-in-Some-Ask
returns-in-Some-Ask g c =
    let asked = c.in-Some-Ask.asked in
    let l = c.args.line.now in
    let text : c.in_ok-text.text.now ≡ l = search rules in
    let utf8 : IsUtf8 l = search rules in
    let says : Some (Asks asked.request asked.tag.now asked.words.now) ≡ said_in (utf8_lossy l) =
    rw c.in-Some-Ask.field-0-is at c.in-Some-Ask.ensures ∙ ap said_in (text ∙ sym (utf8_lossy-IsUtf8 l utf8)) in
    let peer = peer_of g.B.Blocks.keeps c.args.answering.now in
    let chain = g.B.Blocks.chain c.args.blocks.now in
    rw c.ok-in-Some-Ask.ensures.value (answer_is peer chain l asked.request asked.tag.now asked.words.now c.answer.result says c.answer.ensures)
