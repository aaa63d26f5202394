use Rattle.std.proofs.Common.{◌∙◌, subst}
use Rattle.std.proofs.lemmas.Result.{err_from_is_err_and}
use Rattle.std.specs.Arc.{arc_value}
use Rattle.endorsement_policy.specs.Endorsed.{Listed}
use Rattle.ledger_model.specs.Chain.{Chain}
use Rattle.committer.specs.Fits.{IsRefused, blocks_of}
use Rattle.ledger_setting.specs.Judging.{IsJudged}
use Rattle.ledger_setting.specs.Rule.{table_of}
use Rattle.peer_node.specs.Writers.{published_chain}
use Rattle.peer_node.proofs.Committing.{committed, fits, next}
use Rattle.peer_node.proofs.writer.PeerWriter.commit.Goals as goal

pub returns-in-Err-clause-refused : goal.returns-in-Err-clause-refused
returns-in-Err-clause-refused g c =
    subst (λ (chain : Chain). IsRefused c.in-Err.refusal (blocks_of chain) c.args.block) c.newest-newest.ensures c.in-Err.ensures.refused

pub returns-in_err-next-clause-refused : goal.returns-in_err-next-clause-refused
returns-in_err-next-clause-refused g c =
    let judged = c.in-Ok.judged in
    let p = err_from_is_err_and c.from_residual.result c.from_residual.ensures.1 in
    let is = fits c.deref.result.now _ _ c.args.block judged c.newest-newest.ensures c.in-Ok.ensures.judged in
    rw (p.1, p.2) (next (published_chain c.args.self.now) c.args.block is)

pub returns-in_err-publish-clause-refused : goal.returns-in_err-publish-clause-refused
returns-in_err-publish-clause-refused g c =
    let judged = c.in-Ok.judged in
    let p = err_from_is_err_and c.from_residual-in_err-publish.result c.from_residual-in_err-publish.ensures.1 in
    let is = fits c.deref.result.now _ _ c.args.block judged c.newest-newest.ensures c.in-Ok.ensures.judged in
    rw (p.1, p.2) (next (published_chain c.args.self.now) c.args.block is)

pub returns-clause-committed : goal.returns-clause-committed
returns-clause-committed g c =
    let judged = c.in-Ok.judged in
    let is = subst (λ (l : Listed). IsJudged (table_of l) c.newest-newest.result.now c.args.block judged) c.deref.ensures c.in-Ok.ensures.judged in
    c.in_ok-publish.ensures.published
    ∙ (c.in_ok-next.ensures ∙ committed (arc_value c.args.self.now.rules) _ _ c.args.block judged c.newest-newest.ensures is)

pub returns-clause-fits : goal.returns-clause-fits
returns-clause-fits g c = fits c.deref.result.now _ _ c.args.block c.in-Ok.judged c.newest-newest.ensures c.in-Ok.ensures.judged
