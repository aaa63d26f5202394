use Rattle.std.proofs.Common.{ℕ, subst, sym}
use Rattle.cli_lines.specs.Told.{Prints}
use Rattle.cli_lines.proofs.Printing.{prints_none}
use Rattle.cli_peer.specs.Opening.{cut_text}
use Rattle.cli_peer.proofs.opening.print_cut.Goals as goal

pub returns-in-0-clause-prints : goal.returns-in-0-clause-prints
returns-in-0-clause-prints g c =
    subst (λ (n : ℕ). Prints c.args.out.now c.args.out.now (cut_text n)) (sym c.in-0.is) (prints_none c.args.out.now)
