use Rattle.std.proofs.Common.{rules, subst}
use Rattle.ledger_model.specs.Chain.{Chain}
use Rattle.ledger_setting.specs.Rule.{table_of}
use Rattle.store_replay.specs.Lawful.{IsRecommitRefused, StopsAt}
use Rattle.store_replay.proofs.recommitting.recommit.Goals as goal

pub returns-in_err-recommit_behind-clause-refused : goal.returns-in_err-recommit_behind-clause-refused
returns-in_err-recommit_behind-clause-refused g c =
    let rule = table_of c.args.rules.now in
    let refusal = c.in_err-recommit_behind.field-0.0 in
    let last = c.recommit_behind.new.snapshot in
    let told : IsRecommitRefused rule c.args.records.items refusal = record {
      last = last;
      stops = subst (λ (chain : Chain). StopsAt rule chain c.args.records.items last refusal) c.empty-snapshot.ensures
          c.in_err-recommit_behind.ensures.refused;
    } in
    search rules
