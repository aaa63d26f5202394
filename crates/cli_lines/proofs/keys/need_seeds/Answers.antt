use Rattle.std.proofs.Common.{is_some, option_map, ap, ◌∙◌}
use Rattle.cli_lines.specs.Sealing.{lacks_seed}
use Rattle.cli_lines.proofs.Found.{is_any}
use Rattle.cli_lines.proofs.keys.need_seeds.Goals as goal

pub returns-in-Some-clause-refused : goal.returns-in-Some-clause-refused
returns-in-Some-clause-refused g c e =
    let lacks = lacks_seed c.args.genesis.now.rules.value c.args.genesis.now.signers.value in
    is_any lacks c.args.orgs.now _ c.first_lacking.ensures ∙ ap (λ o. is_some (option_map (λ p. p.now) o)) c.in-Some.is

pub returns-in-None-clause-ok : goal.returns-in-None-clause-ok
returns-in-None-clause-ok g c e =
    let lacks = lacks_seed c.args.genesis.now.rules.value c.args.genesis.now.signers.value in
    is_any lacks c.args.orgs.now _ c.first_lacking.ensures ∙ ap (λ o. is_some (option_map (λ p. p.now) o)) c.in-None.is
