use Rattle.std.proofs.Common.{◌∙◌, IfOk, List, ap, string_bytes, subst}
use Rattle.endorsement_policy.specs.Membership.{Standing}
use Rattle.org_keys.specs.declared.organisation.Organisation.{Organisation}
use Rattle.json_chain.specs.Blocks.{block_json}
use Rattle.json_chain.specs.JsonText.{IsJsonText}
use Rattle.cli_show.proofs.chain.line_behind.Goals as goal

pub returns : goal.returns
returns c =
    let orgs = c.organisations.ensures ∙ ap (λ (s : Standing). s.orgs) c.in_ok-standing.ensures in
    subst (λ (os : List Organisation). IfOk c.block_line.result (λ s. IsJsonText (block_json os c.args.committed.now) (string_bytes s))) orgs
    c.block_line.ensures
