use Rattle.std.proofs.Common.{◌≡◌, ◌≤◌, Some, ap, length, rules, subst, sym, ◌∙◌}
use Rattle.fab_types.specs.Data.{IsBlockData}
use Rattle.fab_types.specs.Editions.{last_block}
use Rattle.orderer.specs.Arranged.{arranges_by}
use Rattle.orderer.specs.Blocks.{next_block}
use Rattle.orderer.specs.Places.{envelopes_at}
use Rattle.orderer.specs.declared.making.Tip.{Tip}
use Rattle.orderer.specs.declared.report.BatchReport.{BatchReport}
use Rattle.orderer.proofs.Picking.{survivors_are_data}
use Rattle.orderer.proofs.Steps.{needs_one, one_made}
use Rattle.orderer.proofs.making.make_block.Goals as goal

pub returns-in_default-clause-refused : goal.returns-in_default-clause-refused
returns-in_default-clause-refused c = λ chain at.
    let arrangement = c.in_ok-arrangement.arrangement in
    let es = envelopes_at c.args.batch.now arrangement.order.items in
    let same : c.in_ok-survivors.survivors.items ≡ es = search rules in
    let some : 1 ≤ length c.in_ok-survivors.survivors.items = search rules in
    let full : c.args.tip.height ≡ last_block c.args.edition = search rules in
    needs_one (last_block c.args.edition) (arranges_by c.args.reorder) chain c.args.batch.now arrangement.order.items arrangement.aborted.items
    c.in_ok-arrangement.ensures.arranged
    (subst (λ xs. 1 ≤ length xs) same some) (sym (ap (λ (t : Tip). t.height) at) ∙ full)

pub block_of-requires-clause-envelopes : goal.block_of-requires-clause-envelopes
block_of-requires-clause-envelopes c =
    let arrangement = c.in_ok-arrangement.arrangement in
    let es = envelopes_at c.args.batch.now arrangement.order.items in
    let same : es ≡ c.in_ok-survivors.survivors.items = search rules in
    let some : 1 ≤ length es = search rules in
    subst IsBlockData same (survivors_are_data c.args.batch.now arrangement.order.items c.in_ok-arrangement.ensures.places c.requires.batch some)

pub returns-clause-made : goal.returns-clause-made
returns-clause-made c = λ chain at.
    let arranges = arranges_by c.args.reorder in
    let batch = c.args.batch.now in
    let order = c.in_ok-arrangement.arrangement.order.items in
    let es = envelopes_at batch order in
    let same : c.in_ok-survivors.survivors.items ≡ es = search rules in
    let some : 1 ≤ length es = search rules in
    let aborted = c.new-aborted.result in
    let report : BatchReport = record { block = Some c.get.result; count = c.len.result; aborted = aborted } in
    let arranged = subst (λ left. arranges batch order left) (sym c.new-aborted.ensures) c.in_ok-arrangement.ensures.arranged in
    let count : c.len.result ≡ length es = search rules in
    let block = c.in_ok-block_of.ensures.next chain at ∙ ap (λ survivors. next_block chain survivors) same in
    one_made arranges c.args.tip chain batch order report c.in_ok-block_of.field-0 at arranged some block
    (ap Some (c.get.ensures.value ∙ c.in-Some.ensures.number)) count
