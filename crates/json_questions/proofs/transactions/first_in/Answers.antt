use Rattle.std.proofs.Common.{rules, ◌≡◌, ◌+◌, drop, get_or, length, sym, ap, ◌∙◌, arith}
use Rattle.std.specs.List.{find}
use Rattle.ledger_model.specs.Chain.{Valid, transactions_from}
use Rattle.json_chain.specs.Writes.{placed_at}
use Rattle.json_questions.specs.Answers.{has_id}
use Rattle.json_questions.proofs.Placing.{found_later, transactions_step}
use Rattle.json_questions.proofs.transactions.first_in.Goals as goal

pub loop-place-preserved : goal.loop-place-preserved
loop-place-preserved c =
    let k = c.loop-place.place in
    let es = c.as_slice-envelopes.result.now in
    let fs = c.flags-flags.result.now in
    let e = c.index-envelopes-place.result in
    let test = has_id c.args.id.now in
    let same : length fs ≡ length es =
    ap (λ xs. length xs) c.flags-flags.ensures.value ∙ c.flags-flags.ensures.one_each ∙
    sym (ap (λ xs. length xs) (c.as_slice-envelopes.ensures.value ∙ ap (λ b. b.envelopes) c.block.ensures)) in
    let here = placed_at e (get_or fs k Valid) c.args.number k in
    let later = transactions_from c.args.number (k + 1) (drop (k + 1) es) (drop (k + 1) fs) in
    let step = transactions_step c.args.number 0 k k es fs e Valid (omega arith) (omega (arith, c.loop-place-test.true)) (omega (arith, same))
    c.index-envelopes-place.is in
    sym (found_later test here later (search rules)) ∙ ap (λ ts. find test ts) (sym step) ∙ c.loop-place.invariant
