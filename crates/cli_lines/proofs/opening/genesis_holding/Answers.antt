use Rattle.std.proofs.lemmas.Result.{err_from_is_err_and}
use Rattle.json_genesis.specs.NoGenesis.{NoGenesisHolding}
use Rattle.cli_lines.proofs.RefusedTexts.{refused_text}
use Rattle.cli_lines.proofs.opening.genesis_holding.Goals as goal

pub returns-in_err-read_genesis_holding-in-Ok-clause-refused : goal.returns-in_err-read_genesis_holding-in-Ok-clause-refused
returns-in_err-read_genesis_holding-in-Ok-clause-refused c =
    let p = err_from_is_err_and c.from_residual.result c.from_residual.ensures.1 in
    rw p.1
    (refused_text (λ text r. NoGenesisHolding text c.args.held.items r) _ _ c.in-Ok.ensures.text _ _ p.2.1
    c.in_err-read_genesis_holding-in-Ok.ensures.refused)
