use Rattle.std.proofs.Common.{IfSome, subst}
use Rattle.cli_lines.specs.Places.{FilesHeld}
use Rattle.cli_session.specs.Stored.{BeginsNoStore}
use Rattle.cli_session.proofs.replacing.take_file.Goals as goal

pub returns-clause-store : goal.returns-clause-store
returns-clause-store g c =
    let name = c.args.name.now in
    subst (λ (h : FilesHeld). IfSome (h name) (λ held. ¬ BeginsNoStore held)) c.in_ok-lock.ensures.kept c.in_ok-blocks.ensures.store
