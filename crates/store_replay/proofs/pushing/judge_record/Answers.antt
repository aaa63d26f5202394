use Rattle.std.proofs.Common.{◌≡◌, ◌≢◌, ◌∙◌, MatchBool, ap, subst}
use Rattle.ledger_setting.specs.Judging.{next_by}
use Rattle.ledger_setting.specs.Rule.{table_of}
use Rattle.store_replay.proofs.Flags.{compared}
use Rattle.store_replay.proofs.Pushed.{by_test}
use Rattle.store_replay.proofs.pushing.judge_record.Goals as goal

pub returns-clause-flags : goal.returns-clause-flags
returns-clause-flags g c = λ chain kept.
    let rule = table_of c.args.rules.now in
    let stored = c.args.stored.now in
    let is_same = c.eq-is_same.result in
    let flags = (next_by rule chain stored.block).flags in
    let judged = c.deref-flags.ensures.value ∙ (c.in_ok-judged.ensures.judged chain kept).flags ∙ ap (λ b. (next_by rule chain b).flags) c.block.ensures in
    by_test rule chain stored is_same
    (subst (λ fs. MatchBool is_same (fs ≡ flags) (fs ≢ flags)) c.flags.ensures.value
    (compared c.flags.result.now c.deref-flags.result.now flags is_same judged c.eq-is_same.ensures))
