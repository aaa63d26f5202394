use Rattle.std.proofs.Common.{map, length, ◌≡◌, false, get_or, sym, ap, ◌∙◌}
use Rattle.std.proofs.lemmas.List.{get_or-map}
use Rattle.endorsement_policy.specs.Judge.{judges}
use Rattle.endorsement_policy.proofs.Shares.{next_place, next_answer, next_within}
use Rattle.endorsement_policy.proofs.parallel.check_share.Goals as goal

pub loop-index-preserved : goal.loop-index-preserved
loop-index-preserved g c =
    let all = map (judges c.args.judge.now) c.args.envelopes.now in
    let done = c.loop-index.answers.items in
    let answer = c.in_ok-answer.field-0 in
    let i = c.loop-index.index in
    let is : answer ≡ get_or all i false =
    c.in_ok-answer.ensures ∙ ap (judges c.args.judge.now) c.index-envelopes-index.is ∙
    sym (get_or-map (judges c.args.judge.now) c.args.envelopes.now i c.index-envelopes-index.result false c.loop-index-test.true) in
    rw c.in_ok-push.ensures.items (record {
      place = next_place all done c.args.worker c.args.workers i answer c.loop-index.invariant.place;
      so_far = next_answer all done c.args.worker c.args.workers i answer c.loop-index.invariant.place is c.loop-index.invariant.so_far;
      within = next_within all done c.args.worker c.args.workers i answer c.loop-index.invariant.place (length c.args.envelopes.now) c.loop-index-test.true
          c.loop-index.invariant.within;
    })
