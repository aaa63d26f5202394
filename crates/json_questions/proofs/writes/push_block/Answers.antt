use Rattle.std.proofs.Common.{◌≡◌, length, sym, ap, ◌∙◌, arith}
use Rattle.json_questions.proofs.Placing.{transactions_step, writes_more}
use Rattle.json_questions.proofs.writes.push_block.Goals as goal

pub loop-place-preserved : goal.loop-place-preserved
loop-place-preserved c =
    let k = c.loop-place.place in
    let es = c.as_slice-envelopes.result.now in
    let fs = c.flags-flags.result.now in
    let same : length fs ≡ length es =
    ap (λ xs. length xs) c.flags-flags.ensures.value ∙ c.flags-flags.ensures.one_each ∙
    sym (ap (λ xs. length xs) (c.as_slice-envelopes.ensures.value ∙ ap (λ b. b.envelopes) c.block.ensures)) in
    writes_more c.args.key.now _ _ _ _ _ _
    (transactions_step c.args.number 0 k k es fs c.index-envelopes-place.result _ (omega arith) (omega (arith, c.loop-place-test.true)) (omega (arith, same))
    c.index-envelopes-place.is)
    c.loop-place.invariant c.in_ok-push_write.ensures
