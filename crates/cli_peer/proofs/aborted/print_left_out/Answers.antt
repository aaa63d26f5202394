use Rattle.std.proofs.Common.{ℕ, List, ◌++◌, Option, OnOk, ap, subst, sym}
use Rattle.std.specs.Prelude.{codes, option_map}
use Rattle.std.specs.Fmt.{decimal}
use Rattle.orderer.specs.Numbers.{abort_number}
use Rattle.orderer.specs.declared.arrangement.AbortCause.{AbortCause}
use Rattle.cli_lines.specs.Told.{Prints}
use Rattle.cli_peer.specs.Printed.{left_text}
use Rattle.cli_peer.proofs.aborted.print_left_out.Goals as goal
use denote.Ref.{Bor}

pub returns-in_ok-id-in-Some-clause-prints : goal.returns-in_ok-id-in-Some-clause-prints
returns-in_ok-id-in-Some-clause-prints g c =
    let w = c.writeln in
    let cause = c.in-Some.left.now in
    let t = c.args.out.now in
    subst (λ (o : Option (ℕ × AbortCause)). OnOk w.result (Prints t w.new.self (left_text c.args.id.now o)))
    (sym (ap (λ (o : Option (Bor (ℕ × AbortCause))). option_map (λ (l : Bor (ℕ × AbortCause)). l.now) o) c.in-Some.is))
    (subst (λ (hex : List ℕ). OnOk w.result (Prints t w.new.self (codes "aborted " ++ (hex ++ (codes " " ++ (decimal (abort_number cause.1) ++ codes "\n"))))))
    c.in_ok-id-in-Some.ensures w.ensures.prints)
