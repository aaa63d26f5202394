use Rattle.std.proofs.lemmas.Bool.Decides.{same_from_decides}
use Rattle.org_keys.specs.Keys.{is_public_key}
use Rattle.org_keys.proofs.Keys.{decides}
use Rattle.org_keys.proofs.public_key.is_public_key.Goals as goal

pub returns-clause-decided : goal.returns-clause-decided
returns-clause-decided c =
    let key = c.args.bytes.now in same_from_decides c.is_public_key.result (is_public_key key) c.is_public_key.ensures (decides key)
