use Rattle.std.proofs.Common.{◌≡◌, [], OnOk, IfErr, Result, Ok, Err}
use Rattle.cli_lines.specs.Told.{IsMore, IsSilent, PrintsPart, Tells, Told}
use Rattle.cli_lines.specs.declared.failure.Failure.{Failure}
use Rattle.cli_lines.proofs.Printing.{on_err, part_none, part_whole, prints_none}
use Rattle.cli_peer.proofs.filter.next_line.Goals as goal

on_ok : {A E : Type 0} (r : Result A E) (P : Type 0) → P → OnOk r P
on_ok (Ok a) P p = p
on_ok (Err e) P p = tt

tells_silent : {A : Type 0} (t u : Told) (r : Result A Failure) → IsMore t u × (u.failed ≡ t.failed) → IfErr r IsSilent → Tells t u r
tells_silent t u (Ok a) told silent = told
tells_silent t u (Err e) told silent = (told.0, silent t u)

pub returns-in_err-hand_on-clause-part : goal.returns-in_err-hand_on-clause-part
returns-in_err-hand_on-clause-part g c =
    let t = c.args.out.now in
    let u = c.hand_on.new.out in
    on_err c.from_residual.result (PrintsPart t u []) (part_none t u [] c.in_err-hand_on.ensures.nothing)

pub returns-clause-handed_on : goal.returns-clause-handed_on
returns-clause-handed_on g c = λ none. on_ok c.read_explained.result _ (c.in_ok-hand_on.ensures.handed_on none)

pub returns-clause-told : goal.returns-clause-told
returns-clause-told g c = λ before text printed. on_ok c.read_explained.result _ (c.in_ok-hand_on.ensures.kept before text printed)

pub returns-clause-part : goal.returns-clause-part
returns-clause-part g c =
    let t = c.args.out.now in
    let u = c.hand_on.new.out in
    on_err c.read_explained.result (PrintsPart t u []) (part_whole t u [] (c.in_ok-hand_on.ensures.kept t [] (prints_none t)))

pub returns-clause-tells : goal.returns-clause-tells
returns-clause-tells g c =
    tells_silent c.args.out.now c.hand_on.new.out c.read_explained.result c.in_ok-hand_on.ensures.tells c.read_explained.ensures.silent

pub returns-clause-kept : goal.returns-clause-kept
returns-clause-kept g c = c.read_explained.ensures.kept
