use Rattle.std.proofs.Common.{rules, ◌≡◌, ◌∙◌, ◌++◌, ◌∷◌, [], List, ap, sym, subst, append_assoc}
use Rattle.fab_types.specs.Committed.{Committed}
use Rattle.kept_state.specs.Keeping.{chain_of}
use Rattle.ledger_model.specs.Chain.{Chain}
use Rattle.ledger_setting.specs.Rule.{table_of}
use Rattle.store_replay.specs.Lawful.{AreLawful, IsNextRefused, StopsAt}
use Rattle.store_replay.proofs.Lawful.{lawful_more}
use Rattle.store_replay.specs.Tags.{orgs_at}
use Rattle.store_replay.proofs.RightTags.{of_none}
use Rattle.store_replay.proofs.rechecking.recommit_kept.Goals as goal

pub records-init : goal.records-init
records-init g c = record {
  done = [];
  all = search rules;
  kept = c.requires.kept;
  chain = search rules;
  lawful = search rules;
  known = of_none (orgs_at c.args.rules.now c.new-pending.result.value) _ _ c.new-pending.ensures.known;
}

pub records-preserved : goal.records-preserved
records-preserved g c =
    let rule = table_of c.args.rules.now in
    let start = chain_of c.args.chain.now in
    let done = c.records.invariant.done in
    let stored = c.in-Some.stored in
    let left = c.next.new.self.records.items in
    let steps : c.records.pending.records.items ≡ stored ∷ left = c.in-Some.ensures.next in
    let next = subst (λ (chain : Chain). AreLawful rule chain (stored ∷ [])) c.records.invariant.chain c.in_ok-recommit_one.ensures.lawful in
    record {
      done = done ++ stored ∷ [];
      all = c.records.invariant.all ∙ ap (λ (cs : List Committed). done ++ cs) steps ∙ sym (append_assoc done (stored ∷ []) left);
      kept = c.in_ok-recommit_one.ensures.kept;
      chain =
          c.in_ok-recommit_one.ensures.chain ∙ ap (λ (chain : Chain). chain ++ stored ∷ []) c.records.invariant.chain
          ∙ append_assoc start done (stored ∷ []);
      lawful = lawful_more rule start done stored c.records.invariant.lawful next.0 next.1;
      known = c.next.ensures.known;
    }

pub returns-in_err-recommit_one-clause-refused : goal.returns-in_err-recommit_one-clause-refused
returns-in_err-recommit_one-clause-refused g c =
    let rule = table_of c.args.rules.now in
    let start = chain_of c.args.chain.now in
    let done = c.records.invariant.done in
    let stored = c.in-Some.stored in
    let left = c.next.new.self.records.items in
    let refusal = c.in_err-recommit_one.field-0.0 in
    let unchanged = c.in_err-recommit_one.ensures.unchanged in
    let steps : c.records.pending.records.items ≡ stored ∷ left = c.in-Some.ensures.next in
    let told : StopsAt rule start c.args.records.items (chain_of c.recommit_one.new.chain) refusal = record {
      before = done;
      first = stored;
      after = left;
      all = c.records.invariant.all ∙ ap (λ (cs : List Committed). done ++ cs) steps;
      lawful = c.records.invariant.lawful;
      put = unchanged ∙ c.records.invariant.chain;
      why = subst (λ (chain : Chain). IsNextRefused rule chain stored refusal) (sym unchanged) c.in_err-recommit_one.ensures.refused;
    } in
    search rules
