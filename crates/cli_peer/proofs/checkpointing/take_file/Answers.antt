use Rattle.std.proofs.Common.{◌≡◌, ◌⊎◌, [], IfSome, subst, take}
use Rattle.checkpoint.specs.Checkpoint.{form_bytes}
use Rattle.ledger_model.specs.Chain.{Bytes}
use Rattle.cli_lines.specs.Places.{FilesHeld}
use Rattle.cli_peer.proofs.Checkpoints.{begins_front}
use Rattle.cli_peer.proofs.checkpointing.take_file.Goals as goal

pub returns-clause-checkpoint : goal.returns-clause-checkpoint
returns-clause-checkpoint g c =
    let name = c.args.name.now in
    let front = c.in_ok-front.front.items in
    begins_front (g.F.Files.bytes c.args.files.now name) front
    (subst (λ (h : FilesHeld). IfSome (h name) (λ bytes. front ≡ take 8 bytes)) c.lock.ensures.kept c.in_ok-front.ensures.bytes)
    (subst (λ (f : Bytes). (f ≡ []) ⊎ (f ≡ form_bytes)) c.deref.ensures.value (c.is_front.ensures c.if-not-is_front.false))
