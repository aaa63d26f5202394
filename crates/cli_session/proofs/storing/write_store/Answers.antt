use Rattle.cli_session.proofs.Stored.{holds_written}
use Rattle.cli_session.proofs.storing.write_store.Goals as goal

pub returns-clause-stored : goal.returns-clause-stored
returns-clause-stored g c =
    holds_written c.write_whole.result g.F.Files.is_known (g.F.Files.bytes c.write_whole.new.files) c.args.target.now c.args.snapshot.now
    (c.write_whole.ensures.written tt)
