use Rattle.std.proofs.Common.{rules, ◌≡◌, [], ◌∷◌, ◌++◌, List, length, ap, subst, sym, ◌∙◌, append_assoc, arith}
use Rattle.std.specs.Option.{option_to_list}
use Rattle.std.specs.Vec.Iter.{into_iter_items}
use Rattle.endorsement_policy.specs.Endorsed.{Listed}
use Rattle.ledger_model.specs.Judged.{BlockRule}
use Rattle.ledger_setting.specs.Rule.{table_of}
use Rattle.orderer.specs.Making.{number_in}
use Rattle.log_orderer.specs.Handed.{blocks_of}
use Rattle.log_orderer.specs.declared.batch.LogBatch.{LogBatch}
use Rattle.log_committer.specs.Committing.{ReceivesAll}
use Rattle.log_peer.specs.Peering.{AreNotReceived, HaveNumbers, IsBatchOf, told_of}
use Rattle.log_peer.specs.Storing.{rules_of, stored_chain}
use Rattle.log_peer.proofs.Joined.{all_at, joined_more}
use Rattle.log_peer.proofs.Keeping.{grows_on}
use Rattle.log_peer.proofs.Peers.{batch_cut, batch_more, zip_more}
use Rattle.log_peer.proofs.peering.receive_each.Goals as goal

pub returns-in_err-batch-clause-refused : goal.returns-in_err-batch-clause-refused
returns-in_err-batch-clause-refused g c =
    let kept = c.batches.invariant in
    let old = stored_chain c.args.chain.now in
    let rule : BlockRule = table_of (rules_of c.args.chain.now) in
    let between = stored_chain c.batches.chain in
    let batch = c.in-Some.batch in
    let blocks = option_to_list batch.block in
    let rest = into_iter_items c.next.new.self in
    let refusal = c.in_err-batch.field-0.0 in
    let parts : c.args.batches.items ≡ c.batches.yielded ++ batch ∷ rest =
    kept.split ∙ ap (λ (l : List LogBatch). c.batches.yielded ++ l) c.in-Some.ensures.steps.0 in
    let here = subst (λ (listed : Listed). AreNotReceived (table_of listed) between blocks refusal) kept.rules c.in_err-batch.ensures.refused in
    let why : AreNotReceived rule old (blocks_of c.args.batches.items) refusal =
    batch_cut rule old between c.args.batches.items c.batches.yielded rest batch (told_of c.batches.told.items) refusal parts kept.received here in
    search rules

pub returns-in_err-batch-clause-grows : goal.returns-in_err-batch-clause-grows
returns-in_err-batch-clause-grows g c = grows_on _ _ _ c.batches.invariant.grows c.in_err-batch.ensures.grows

pub batches-preserved : goal.batches-preserved
batches-preserved g c =
    let kept = c.batches.invariant in
    let old = stored_chain c.args.chain.now in
    let rule : BlockRule = table_of (rules_of c.args.chain.now) in
    let between = stored_chain c.batches.chain in
    let new = stored_chain c.receive_batch.new.chain in
    let batch = c.in-Some.batch in
    let more = c.in_ok-batch.batch in
    let front = c.batches.yielded in
    let told = c.batches.told.items in
    let rest = into_iter_items c.next.new.self in
    let split = c.in-Some.ensures.steps.0 in
    let pushed = rw c.unwrap.ensures at c.push.ensures.items in
    let counted = rw c.unwrap.ensures at c.push.ensures.len in
    let parts : c.args.batches.items ≡ front ++ batch ∷ rest = kept.split ∙ ap (λ (l : List LogBatch). front ++ l) split in
    let here = subst
    (λ (listed : Listed). ReceivesAll (table_of listed) between (option_to_list batch.block) (option_to_list more.received) new) kept.rules
    c.in_ok-batch.ensures.received in
    record {
      stored = c.in_ok-batch.ensures.stored;
      rules = c.in_ok-batch.ensures.rules ∙ kept.rules;
      failures = c.in_ok-batch.ensures.device ∙ kept.failures;
      split = kept.split ∙ ap (λ (l : List LogBatch). front ++ l) split ∙ sym (append_assoc front (batch ∷ []) rest);
      fits = omega (arith, ap length split, counted, c.push.ensures.capacity, kept.fits);
      batches = rw pushed (zip_more IsBatchOf front told batch more kept.batches c.in_ok-batch.ensures.batch);
      joined = λ own.
          let all = subst HaveNumbers parts own in
          let is = c.in_ok-batch.ensures.joined (all_at (λ b. b.report.block ≡ number_in b.block) front rest batch all) in
          rw pushed (joined_more rule between new (option_to_list batch.block) (option_to_list more.received) told more here (kept.joined own) is);
      received = rw pushed (batch_more rule old between new front batch told more kept.received here);
      holds = λ held. c.in_ok-batch.ensures.holds (kept.holds held);
      grows = grows_on _ _ _ kept.grows c.in_ok-batch.ensures.grows;
    }
