use Rattle.std.proofs.Common.{◌≡◌, IfSome, map, subst, sym}
use Rattle.ledger_model.specs.Chain.{history}
use Rattle.ledger_model.specs.State.{state}
use Rattle.ledger_model.specs.Views.{Versioned, values_of}
use Rattle.endorsement_policy.specs.Endorsed.{right_orgs}
use Rattle.endorsement_policy.specs.Membership.{listed_in}
use Rattle.world_state.proofs.Keeping.{kept_is, of_entries}
use Rattle.ledger_setting.proofs.judging.judge_with.Goals as goal

pub judge_with_behind-requires : goal.judge_with_behind-requires
judge_with_behind-requires c =
    subst (λ (m : Versioned). IfSome c.args.right
    (λ orgs. orgs.now ≡ map (right_orgs (listed_in c.args.rules.now (values_of m)).orgs) c.args.block.now.envelopes))
    (sym (of_entries (state (history c.args.snapshot.now)))) c.requires

pub returns-clause-judged : goal.returns-clause-judged
returns-clause-judged c = c.judge_with_behind.ensures.judged c.args.snapshot.now (kept_is c.args.snapshot.now)

pub returns-clause-refused : goal.returns-clause-refused
returns-clause-refused c = c.judge_with_behind.ensures.refused c.args.snapshot.now (kept_is c.args.snapshot.now)
