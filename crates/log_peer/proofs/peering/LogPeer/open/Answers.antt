use Rattle.log_peer.proofs.Keeping.{same_records}
use Rattle.log_peer.proofs.peering.LogPeer.open.Goals as goal

pub returns-in_default-clause-keeps : goal.returns-in_default-clause-keeps
returns-in_default-clause-keeps g c = same_records (g.D.Write.contents c.args.file)
