use Rattle.std.proofs.lemmas.Result.{err_from_is_err_and}
use Rattle.json_genesis.specs.NoGenesis.{NoGenesis}
use Rattle.cli_lines.proofs.RefusedTexts.{refused_text}
use Rattle.cli_lines.proofs.opening.genesis_in.Goals as goal

pub returns-in_err-read_genesis-clause-refused : goal.returns-in_err-read_genesis-clause-refused
returns-in_err-read_genesis-clause-refused c =
    let p = err_from_is_err_and c.from_residual-in_err-read_genesis.result c.from_residual-in_err-read_genesis.ensures.1 in
    rw p.1 (refused_text NoGenesis _ _ c.in_ok-text_of.ensures.text _ _ p.2.1 c.in_err-read_genesis.ensures.refused)
