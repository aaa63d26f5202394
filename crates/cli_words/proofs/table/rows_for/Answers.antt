use Rattle.std.proofs.Common.{◌∙◌, map, sym, ap}
use Rattle.std.specs.List.{find}
use Rattle.cli_words.specs.Table.{row_of_tuple, table}
use Rattle.cli_words.specs.UsageText.{alone_or, has_name}
use Rattle.cli_words.proofs.Rows.{found_at, none_past, passed_at}
use Rattle.cli_words.proofs.table.rows_for.Goals as goal

pub loop-row-preserved : goal.loop-row-preserved
loop-row-preserved c =
    let rows = c.rows-rows.result.now in
    let i = c.loop-row.row-index in
    c.loop-row.invariant
    ∙ passed_at row_of_tuple (has_name c.args.name.now) rows i _ c.loop-row-test.true (sym c.has_name.ensures ∙ c.if-has_name.false)

pub returns-then-has_name : goal.returns-then-has_name
returns-then-has_name c =
    let rows = c.rows-rows.result.now in
    let i = c.loop-row.row-index in
    let named = has_name c.args.name.now in
    let found = found_at row_of_tuple named rows i _ c.loop-row-test.true (sym c.has_name.ensures ∙ c.if-has_name.true) in
    ap (map row_of_tuple) c.from_ref.ensures.value
    ∙ sym (ap (alone_or table) (sym (ap (find named) c.rows-rows.ensures) ∙ c.loop-row.invariant ∙ found))

pub returns : goal.returns
returns c =
    let rows = c.rows-rows.result.now in
    let named = has_name c.args.name.now in
    let none = none_past row_of_tuple named rows c.loop-row.row-index c.loop-row-test.false in
    c.rows-rows.ensures ∙ sym (ap (alone_or table) (sym (ap (find named) c.rows-rows.ensures) ∙ c.loop-row.invariant ∙ none))
