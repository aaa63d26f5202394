use Rattle.std.proofs.Common.{refl}
use Rattle.cli_peer.proofs.checkpointing.StoredCheckpointContent.write.Goals as goal

-- the premise has what the writer asks for: the chain is kept, and it is known where its records end
pub returns-in-Ok-clause-written : goal.returns-in-Ok-clause-written
returns-in-Ok-clause-written g c = λ sound.
    let w = c.in-Ok.ensures.written sound.kept sound.ends in
    (_, (w.0, w.1, w.2, refl), w.3)
