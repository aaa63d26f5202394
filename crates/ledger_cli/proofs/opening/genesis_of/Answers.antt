use Rattle.std.proofs.Common.{inr, sym, ap, subst, ◌∙◌}
use Rattle.std.specs.Prelude.{option_map}
use Rattle.ledger_cli.specs.Opening.{FileHeld, SpellsNoneWith}
use Rattle.ledger_cli.proofs.Opened.{modules_refused}
use Rattle.ledger_cli.proofs.opening.genesis_of.Goals as goal

pub returns-clause-refused : goal.returns-clause-refused
returns-clause-refused g c =
    let held = g.F.Files.bytes c.args.files.now in
    let f = c.in-Err.failure in
    let e = c.in_ok-genesis_explained-in-Err in
    let refused = modules_refused (λ v. v.items) (held c.in-Some.name.now) f c.read_all-read.result c.read_all-read.ensures.bytes c.in-Err.ensures.refused in
    subst (λ (o : FileHeld). SpellsNoneWith c.args.bytes.now o f) (sym (ap (option_map (λ n. held n.now)) c.in-Some.is))
    (inr ((e.field-0, e.ensures.spelled), refused))

pub returns-clause-kept : goal.returns-clause-kept
returns-clause-kept g c = c.explain_modules.ensures.kept ∙ c.in_ok-genesis_explained-in-Err.ensures.kept ∙ c.read_all-read.ensures.kept
