use Rattle.std.proofs.Common.{inr, refl}
use Rattle.std.proofs.lemmas.Result.{err_from_is_err_and}
use Rattle.cli_lines.proofs.Silence.{no_less, tells_by}
use Rattle.cli_lines.proofs.Printing.{on_err, printed_on_ok}
use Rattle.cli_peer.proofs.checkpointing.write_stored.Goals as goal

pub returns-in_err-digest-clause-tells : goal.returns-in_err-digest-clause-tells
returns-in_err-digest-clause-tells g c =
    let p = err_from_is_err_and c.from_residual.result c.from_residual.ensures.1 in
    let t = c.args.out.now in
    rw (p.1, p.2) (tells_by t t _ (no_less t) c.in_err-digest.ensures.silent)

pub returns-clause-prints : goal.returns-clause-prints
returns-clause-prints g c =
    let digest = c.in_ok-digest.digest in
    let placed = c.in_ok-digest.ensures.written c.requires.sound in
    printed_on_ok c.print_checkpoint.result _ _ (λ printed. (_, (digest, placed, refl), rw c.height.ensures at printed)) c.print_checkpoint.ensures.prints

pub returns-clause-stays : goal.returns-clause-stays
returns-clause-stays g c =
    on_err c.print_checkpoint.result _ (inr (c.in_ok-digest.digest, c.in_ok-digest.ensures.written c.requires.sound))
