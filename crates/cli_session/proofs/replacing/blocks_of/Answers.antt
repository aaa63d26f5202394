use Rattle.std.proofs.Common.{ℕ, List, Option, IfSome, rules, subst}
use Rattle.cli_session.specs.Stored.{HasFound}
use Rattle.cli_session.proofs.Stored.{stores_begin}
use Rattle.cli_session.proofs.replacing.blocks_of.Goals as goal

pub returns-clause-store : goal.returns-clause-store
returns-clause-store g c =
    let found = c.in_ok-found.found in
    let held = subst (λ (o : Option (List ℕ)). IfSome o (λ bytes. HasFound bytes found.blocks found.end)) c.in-Some.ensures.read c.in_ok-found.ensures in
    stores_begin (g.F.Files.bytes c.args.files.now c.args.name.now) found.blocks found.end held (c.is_store.ensures (search rules))
