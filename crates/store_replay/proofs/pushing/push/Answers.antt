use Rattle.std.proofs.Common.{rules, ◌∙◌, ◌++◌, ◌∷◌, [], ap}
use Rattle.fab_types.specs.Committed.{Committed}
use Rattle.kept_state.specs.Keeping.{chain_of}
use Rattle.ledger_setting.specs.Rule.{table_of}
use Rattle.store_replay.proofs.Pushed.{as_judged, for_memory, grown, is_next, is_of}
use Rattle.store_replay.specs.Tags.{orgs_kept}
use Rattle.store_replay.proofs.RightTags.{of_lent}
use Rattle.store_replay.proofs.pushing.push.Goals as goal

pub judge_record-requires : goal.judge_record-requires
judge_record-requires c =
    of_lent (orgs_kept c.args.rules.now c.args.chain.now.state) c.args.stored c.args.right c.as_deref.result c.requires.right c.as_deref.ensures.value

pub returns-in_err-judged-clause-refused : goal.returns-in_err-judged-clause-refused
returns-in_err-judged-clause-refused c =
    let refused = c.in_err-judged.ensures.refused (chain_of c.args.chain.now) c.requires.kept.state in
    search rules

pub extend-requires-clause-next : goal.extend-requires-clause-next
extend-requires-clause-next c =
    let chain = chain_of c.args.chain.now in
    is_next (table_of c.args.rules.now) chain _ c.args.stored.block c.in_ok-judged.judged c.into_parts-block.ensures.block
    (c.in_ok-judged.ensures.judged chain c.requires.kept.state)

pub extend-requires-clause-judged : goal.extend-requires-clause-judged
extend-requires-clause-judged c =
    let chain = chain_of c.args.chain.now in
    is_of (table_of c.args.rules.now) chain _ c.args.stored.block c.in_ok-judged.judged c.into_parts-block.ensures.block
    (c.in_ok-judged.ensures.judged chain c.requires.kept.state)

pub returns-in_err-committed-clause-refused : goal.returns-in_err-committed-clause-refused
returns-in_err-committed-clause-refused c =
    let chain = chain_of c.args.chain.now in
    let next = for_memory (table_of c.args.rules.now) chain c.args.stored.block c.in_ok-judged.judged
    (c.in_ok-judged.ensures.judged chain c.requires.kept.state) in
    search rules

pub returns-clause-made : goal.returns-clause-made
returns-clause-made c =
    let chain = chain_of c.args.chain.now in
    c.in_ok-committed.ensures.made
    ∙ as_judged (table_of c.args.rules.now) chain _ c.args.stored.block c.in_ok-judged.judged c.into_parts-block.ensures.block
    (c.in_ok-judged.ensures.judged chain c.requires.kept.state)

pub returns-clause-pushed : goal.returns-clause-pushed
returns-clause-pushed c =
    let chain = chain_of c.args.chain.now in
    let is = c.in_ok-judged.ensures.judged chain c.requires.kept.state in
    record {
      fits = is.fits;
      flags = c.in_ok-judged.ensures.flags chain c.requires.kept.state;
      grown =
          grown (table_of c.args.rules.now) chain (chain_of c.extend.new.self) _ c.args.stored.block c.in_ok-judged.judged
          c.into_parts-block.ensures.block is
          (c.in_ok-committed.ensures.extended ∙ ap (λ (x : Committed). chain ++ x ∷ []) c.in_ok-committed.ensures.made);
    }
