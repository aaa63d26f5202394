use Rattle.std.proofs.Common.{rules, ◌∙◌, ◌++◌, ◌∷◌, [], ap}
use Rattle.ledger_setting.specs.Rule.{table_of}
use Rattle.kept_state.specs.Keeping.{chain_of}
use Rattle.fab_types.specs.Committed.{Committed}
use Rattle.store_replay.specs.Tags.{orgs_kept}
use Rattle.store_replay.proofs.Pushed.{for_memory, is_next, is_of, stands}
use Rattle.store_replay.proofs.RightTags.{of_lent}
use Rattle.store_replay.proofs.rechecking.recommit_one.Goals as goal

pub judge_as_stored-requires : goal.judge_as_stored-requires
judge_as_stored-requires c =
    of_lent (orgs_kept c.args.rules.now c.args.chain.now.state) c.args.stored c.args.right c.as_deref.result c.requires.right c.as_deref.ensures.value

pub returns-in_err-judged-clause-refused : goal.returns-in_err-judged-clause-refused
returns-in_err-judged-clause-refused c =
    let chain = chain_of c.args.chain.now in
    let refused = c.in_err-judged.ensures.refused chain c.requires.kept.state in
    search rules

pub extend-requires-clause-next : goal.extend-requires-clause-next
extend-requires-clause-next c =
    let chain = chain_of c.args.chain.now in
    is_next (table_of c.args.rules.now) chain _ c.args.stored.block c.in_ok-judged.judged c.into_parts-block.ensures.block
    (c.in_ok-judged.ensures.judged chain c.requires.kept.state)

pub extend-requires-clause-judged : goal.extend-requires-clause-judged
extend-requires-clause-judged c =
    let chain = chain_of c.args.chain.now in
    is_of (table_of c.args.rules.now) chain _ c.args.stored.block c.in_ok-judged.judged c.into_parts-block.ensures.block
    (c.in_ok-judged.ensures.judged chain c.requires.kept.state)

pub returns-in_err-extend-clause-refused : goal.returns-in_err-extend-clause-refused
returns-in_err-extend-clause-refused c =
    let chain = chain_of c.args.chain.now in
    let next = for_memory (table_of c.args.rules.now) chain c.args.stored.block c.in_ok-judged.judged (c.in_ok-judged.ensures.judged chain c.requires.kept.state) in
    search rules

pub returns-clause-chain : goal.returns-clause-chain
returns-clause-chain c =
    let chain = chain_of c.args.chain.now in
    stands (table_of c.args.rules.now) chain (chain_of c.extend.new.self) _ c.args.stored c.in_ok-judged.judged c.into_parts-block.ensures.block
    (c.in_ok-judged.ensures.judged chain c.requires.kept.state) (c.in_ok-judged.ensures.flags chain c.requires.kept.state)
    (c.in_ok-extend.ensures.extended ∙ ap (λ (x : Committed). chain ++ x ∷ []) c.in_ok-extend.ensures.made)

pub returns-clause-lawful : goal.returns-clause-lawful
returns-clause-lawful c =
    let chain = chain_of c.args.chain.now in
    let is = c.in_ok-judged.ensures.judged chain c.requires.kept.state in
    (is.fits, c.in_ok-judged.ensures.flags chain c.requires.kept.state, tt)
