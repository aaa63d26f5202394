use Rattle.std.proofs.Common.{rules, ◌∙◌, ◌++◌, ◌∷◌, [], ap, sym, subst, Option, None, ℕ, OnOk}
use Rattle.fab_types.specs.Committed.{Committed}
use Rattle.committer.specs.declared.refusal.CommitRefusal.{CommitRefusal}
use Rattle.kept_state.specs.Keeping.{chain_of}
use Rattle.ledger_model.specs.Chain.{Chain}
use Rattle.ledger_setting.specs.Rule.{table_of}
use Rattle.store_replay.specs.Replay.{IsUnfit, Replays, earlier, first_of}
use Rattle.store_replay.proofs.Going.{anyway, one_pushed, one_unfit}
use Rattle.store_replay.proofs.Pushed.{has_number}
use Rattle.store_replay.proofs.replaying.commit_next.Goals as goal

pub take-requires : goal.take-requires
take-requires g c =
    let rule = table_of c.args.rules.now in
    let chain = chain_of c.args.progress.now.chain in
    (chain, c.requires.took, has_number rule chain c.args.stored c.in-Ok.committed c.in-Ok.ensures.made c.in-Ok.ensures.pushed.fits)

pub returns-in-Ok-clause-replays : goal.returns-in-Ok-clause-replays
returns-in-Ok-clause-replays g c = λ cs h.
    let rule = table_of c.args.rules.now in
    let old = c.args.progress.now in
    let new = c.push.new.chain in
    let all = cs ++ c.args.stored ∷ [] in
    let found = c.first_differing-progress.ensures
    ∙ ap (λ (n : ℕ). earlier old.differs (first_of c.in-Ok.is_same n None)) (c.height-height.ensures.value ∙ c.in-Ok.ensures.kept.state.height) in
    let is = one_pushed rule cs (chain_of old.chain) (chain_of new) old.differs c.args.stored c.in-Ok.is_same h c.in-Ok.ensures.pushed in
    anyway c.take.result _
    (subst (λ (r : Option CommitRefusal). Replays rule [] all (chain_of new) c.first_differing-progress.result r) (sym c.requires.fits)
    (subst (λ (d : Option ℕ). Replays rule [] all (chain_of new) d None) (sym found) is))

pub returns-in-Ok-clause-kept : goal.returns-in-Ok-clause-kept
returns-in-Ok-clause-kept g c = anyway c.take.result _ c.in-Ok.ensures.kept

pub returns-in-Ok-clause-took : goal.returns-in-Ok-clause-took
returns-in-Ok-clause-took g c =
    let rule = table_of c.args.rules.now in
    let chain = chain_of c.args.progress.now.chain in
    let grown = c.in-Ok.ensures.pushed.grown ∙ ap (λ (x : Committed). chain ++ x ∷ []) (sym c.in-Ok.ensures.made) in
    subst (λ (blocks : Chain). OnOk c.take.result (g.S.BlockSink.Took c.take.new.self blocks)) (sym grown)
    (c.take.ensures.took chain c.requires.took (has_number rule chain c.args.stored c.in-Ok.committed c.in-Ok.ensures.made c.in-Ok.ensures.pushed.fits))

pub returns-in-Err-clause-replays : goal.returns-in-Err-clause-replays
returns-in-Err-clause-replays g c = λ cs h.
    let chain = chain_of c.args.progress.now.chain in
    let unfit : IsUnfit chain c.args.stored c.in-Err.cause = search rules in
    one_unfit (table_of c.args.rules.now) cs chain (chain_of c.push.new.chain) c.args.progress.now.differs c.args.stored c.in-Err.cause h unfit
    c.in-Err.ensures.unchanged

pub returns-in-Err-clause-took : goal.returns-in-Err-clause-took
returns-in-Err-clause-took g c =
    subst (λ (blocks : Chain). g.S.BlockSink.Took c.args.progress.now.sink blocks) (sym c.in-Err.ensures.unchanged) c.requires.took
