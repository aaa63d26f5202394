use Rattle.std.proofs.Common.{rules, ◌≡◌, ◌≢◌, ◌∙◌, ◌++◌, ◌∷◌, [], None, List, Option, ap, append-nil, append_assoc, sym, subst}
use Rattle.fab_types.specs.Committed.{Committed}
use Rattle.kept_state.specs.Keeping.{chain_of}
use Rattle.committer.specs.declared.refusal.CommitRefusal.{CommitRefusal}
use Rattle.ledger_setting.specs.Rule.{table_of}
use Rattle.store_replay.specs.Replay.{Replays}
use Rattle.store_replay.specs.Tags.{orgs_at}
use Rattle.store_replay.proofs.Going.{stopped_before}
use Rattle.store_replay.proofs.RightTags.{of_none}
use Rattle.store_replay.proofs.replaying.commit_all.Goals as goal

pub records-init : goal.records-init
records-init g c = record {
  done = [];
  all = search rules;
  fits = c.requires.fits;
  kept = c.requires.kept;
  replays = λ cs h.
      subst (λ (xs : List Committed). Replays (table_of c.args.rules.now) [] xs (chain_of c.args.progress.now.chain) c.args.progress.now.differs None)
      (sym (append-nil cs)) h;
  took = c.requires.took;
  context = search rules;
  known = of_none (orgs_at c.args.rules.now c.new-pending.result.value) _ _ c.new-pending.ensures.known;
}

pub records-preserved : goal.records-preserved
records-preserved g c =
    let rule = table_of c.args.rules.now in
    let done = c.records.invariant.done in
    let stored = c.in-Some.stored in
    let left = c.next.new.self.records.items in
    let new = c.commit_next.new.progress in
    let steps : c.records.pending.records.items ≡ stored ∷ left = c.in-Some.ensures.next in
    let none : new.refused ≡ None = search rules in
    record {
      done = done ++ stored ∷ [];
      all = c.records.invariant.all ∙ ap (λ (cs : List Committed). done ++ cs) steps ∙ sym (append_assoc done (stored ∷ []) left);
      fits = none;
      kept = c.in_ok-commit_next.ensures.kept;
      replays = λ cs h.
          subst (λ (r : Option CommitRefusal). Replays rule [] (cs ++ (done ++ stored ∷ [])) (chain_of new.chain) new.differs r) none
          (subst (λ (xs : List Committed). Replays rule [] xs (chain_of new.chain) new.differs new.refused) (append_assoc cs done (stored ∷ []))
          (c.in_ok-commit_next.ensures.replays (cs ++ done) (c.records.invariant.replays cs h)));
      took = c.in_ok-commit_next.ensures.took;
      context = c.in_ok-commit_next.ensures.context ∙ c.records.invariant.context;
      known = c.next.ensures.known;
    }

pub returns-then-is_some-clause-replays : goal.returns-then-is_some-clause-replays
returns-then-is_some-clause-replays g c = λ cs h.
    let rule = table_of c.args.rules.now in
    let done = c.records.invariant.done in
    let stored = c.in-Some.stored in
    let left = c.next.new.self.records.items in
    let new = c.commit_next.new.progress in
    let steps : c.records.pending.records.items ≡ stored ∷ left = c.in-Some.ensures.next in
    let some : new.refused ≢ None = search rules in
    let here = c.in_ok-commit_next.ensures.replays (cs ++ done) (c.records.invariant.replays cs h) in
    let all : c.args.records.items ≡ done ++ stored ∷ left = c.records.invariant.all ∙ ap (λ (xs : List Committed). done ++ xs) steps in
    let whole : ((cs ++ done) ++ stored ∷ []) ++ left ≡ cs ++ c.args.records.items =
    append_assoc (cs ++ done) (stored ∷ []) left ∙ append_assoc cs done (stored ∷ left) ∙ ap (λ (xs : List Committed). cs ++ xs) (sym all) in
    subst (λ (xs : List Committed). Replays rule [] xs (chain_of new.chain) new.differs new.refused) whole
    (stopped_before rule ((cs ++ done) ++ stored ∷ []) left (chain_of new.chain) new.differs new.refused some here)

pub returns-clause-replays : goal.returns-clause-replays
returns-clause-replays g c = λ cs h.
    let rule = table_of c.args.rules.now in
    let done = c.records.invariant.done in
    let last = c.records.progress in
    let over : c.records.pending.records.items ≡ [] = search rules in
    let all : c.args.records.items ≡ done = c.records.invariant.all ∙ ap (λ (xs : List Committed). done ++ xs) over ∙ append-nil done in
    subst (λ (r : Option CommitRefusal). Replays rule [] (cs ++ c.args.records.items) (chain_of last.chain) last.differs r) (sym c.records.invariant.fits)
    (subst (λ (xs : List Committed). Replays rule [] (cs ++ xs) (chain_of last.chain) last.differs None) (sym all) (c.records.invariant.replays cs h))
