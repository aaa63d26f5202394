use Rattle.std.proofs.Common.{◌≡◌, ◌+◌, Some, length, take, sym, ap, ◌∙◌, arith, string_bytes}
use Rattle.ledger_model.specs.Chain.{transactions_from}
use Rattle.cli_show.proofs.WriteLines.{transactions_push, writes_push}
use Rattle.cli_show.proofs.writes.push_writes.Goals as goal

pub loop-place-preserved : goal.loop-place-preserved
loop-place-preserved c =
    let k = c.loop-place.place in
    let es = c.as_slice-envelopes.result.now in
    let fs = c.flags-flags.result.now in
    let n = c.args.number in
    let same : length fs ≡ length es =
    ap (λ xs. length xs) c.flags-flags.ensures.value ∙ c.flags-flags.ensures.one_each ∙
    sym (ap (λ xs. length xs) (c.as_slice-envelopes.ensures.value ∙ ap (λ b. b.envelopes) c.block.ensures)) in
    writes_push c.args.key.now (transactions_from n 0 (take k es) (take k fs)) (transactions_from n 0 (take (k + 1) es) (take (k + 1) fs)) _
    (Some (string_bytes c.args.text.now)) (Some (string_bytes c.loop-place.text)) (Some (string_bytes c.push_write.new.text))
    (transactions_push n 0 k k es fs c.index-envelopes-place.result _ (omega arith) (omega (arith, c.loop-place-test.true)) (omega arith)
    c.index-envelopes-place.is)
    c.loop-place.invariant c.in_ok-push_write.ensures
