use Rattle.std.proofs.Common.{Some, string_bytes}
use Rattle.json_chain.specs.Writes.{placed_at}
use Rattle.cli_show.specs.Lines.{HasLines, write_json}
use Rattle.cli_show.proofs.Behind.{on_ok}
use Rattle.cli_show.proofs.WriteLines.{line_of_write, no_line_of_write}
use Rattle.cli_show.proofs.writes.push_write.Goals as goal

pub returns-in-Some : goal.returns-in-Some
returns-in-Some c =
    let a = Some (string_bytes c.args.text.now) in
    let b = Some (string_bytes c.push_line.new.text) in
    let placed = c.args.placed.now in
    let e = placed.envelope.now in
    let key = c.args.key.now in
    on_ok c.push_line.result _ (HasLines (write_json key (placed_at e placed.flag placed.block placed.place)) a b)
    (λ h. line_of_write e placed.flag key placed.block placed.place c.in_ok-line.field-0 c.in-Some.line a b c.in_ok-line.ensures c.in-Some.is h)
    c.push_line.ensures

pub returns-in-None : goal.returns-in-None
returns-in-None c =
    let placed = c.args.placed.now in
    no_line_of_write placed.envelope.now placed.flag c.args.key.now placed.block placed.place c.in_ok-line.field-0 (Some (string_bytes c.args.text.now))
    c.in_ok-line.ensures c.in-None.is
