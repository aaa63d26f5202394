use Rattle.std.proofs.lemmas.Result.{err_from_is_err_and}
use Rattle.fab_types.specs.declared.proposal.Proposal.TheVariants as proposal
use Rattle.json_events.proofs.OneProposal.{no_call}
use Rattle.json_events.proofs.line.proposal_of.Goals as goal

pub returns-in_err-call-clause-refused : goal.returns-in_err-call-clause-refused
returns-in_err-call-clause-refused c =
    let p = err_from_is_err_and c.from_residual.result c.from_residual.ensures.1 in
    rw (p.1, p.2) (λ real. no_call _ _ _ _ c.in-Some.ensures (c.in_err-call.ensures.refused real))

pub returns-clause-refused : goal.returns-clause-refused
returns-clause-refused c real (proposal.Call call) h = c.in_default.ensures h.0 h.1 h.2 h.3
returns-clause-refused c real (proposal.Upgrade u) h = c.in_default-upgrade_fields.ensures h.0 h.1 h.2 h.3 h.4 h.5 h.6
returns-clause-refused c real (proposal.Amend a) h = c.in_default-amend_fields.ensures h.0 h.1 h.2 h.3 h.4
