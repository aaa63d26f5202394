use Rattle.std.proofs.Common.{refl}
use Rattle.ledger_cli.proofs.opening.with_signers.Goals as goal

pub returns-in-Ok-clause-signed : goal.returns-in-Ok-clause-signed
returns-in-Ok-clause-signed c =
    rw c.in-Ok.is (
      record {
        book = refl;
        rules = refl;
        peers = refl;
        seats = refl;
        queue = refl;
        count = refl;
        preferred = refl;
        absolute = refl;
        reorder = refl;
      },
      refl,
      refl,
    )
