use Rattle.std.proofs.Common.{List, ℕ, Option, Result, refl, subst, sym}
use Rattle.std.specs.Prelude.{option_map}
use Rattle.cli_lines.specs.Told.{Answers, Begins, Tells}
use Rattle.cli_lines.specs.declared.failure.Failure.{Failure}
use Rattle.cli_session.specs.Stored.{HoldsAsked}
use Rattle.cli_session.specs.Whole.{ComesTo, RunBegins}
use Rattle.ledger_cli.specs.Tasks.{Runs, known_files}
use Rattle.ledger_cli.proofs.Leaving.{spares_by}
use Rattle.ledger_cli.specs.Leaving.{SparesStore}
use Rattle.ledger_cli.proofs.Verdicts.{verdict_begins, verdict_tells, verdict_told}
use Rattle.ledger_cli.proofs.commands.run_events.Goals as goal

pub returns-clause-tells : goal.returns-clause-tells
returns-clause-tells g c =
    let r = c.run in
    subst (λ (a : Result (Unit {0}) Failure). Tells c.args.out.now r.new.out a) (sym c.answer_of.ensures)
    (verdict_tells c.args.out.now r.new.out r.result r.ensures.tells r.ensures.differs)

pub returns-clause-answers : goal.returns-clause-answers
returns-clause-answers g c =
    let r = c.run in
    let genesis = c.args.genesis.now in
    let names = c.args.names.now in
    let known = g.F.Files.is_known in
    let before = g.F.Files.bytes c.args.files.now in
    let after = g.F.Files.bytes r.new.files in
    let store : Option (List ℕ) = option_map (λ s. s.now) names.store in
    let P = ComesTo genesis (before names.events.now) (HoldsAsked known after store) in
    let Q = Runs genesis (known_files known before after (g.F.Files.input_bytes c.args.files.now)) names.events.now store in
    subst (λ (a : Result (Unit {0}) Failure). Answers Q c.args.out.now r.new.out a) (sym c.answer_of.ensures)
    (verdict_told P Q c.args.out.now r.new.out r.result (λ text h. (r.result, refl, h)) r.ensures.answers)

pub returns-clause-begins : goal.returns-clause-begins
returns-clause-begins g c =
    let r = c.run in
    let Whole = RunBegins c.args.genesis.now (g.F.Files.bytes c.args.files.now c.args.names.now.events.now) in
    subst (λ (a : Result (Unit {0}) Failure). Begins Whole c.args.out.now r.new.out a) (sym c.answer_of.ensures)
    (verdict_begins Whole c.args.out.now r.new.out r.result r.ensures.begins)

pub returns-clause-kept : goal.returns-clause-kept
returns-clause-kept g c = c.run.ensures.kept

pub returns-clause-others : goal.returns-clause-others
returns-clause-others g c = c.run.ensures.others

pub returns-clause-spares : goal.returns-clause-spares
returns-clause-spares g c = c.run.ensures.spares

pub returns-clause-stays : goal.returns-clause-stays
returns-clause-stays g c =
    let r = c.run in
    let known = g.F.Files.is_known in
    let before = g.F.Files.bytes c.args.files.now in
    let after = g.F.Files.bytes r.new.files in
    subst (λ (a : Result (Unit {0}) Failure). SparesStore known (option_map (λ s. s.now) c.args.names.now.store) before after a) (sym c.answer_of.ensures)
    (spares_by known c.args.names.now.store before after r.result r.ensures.stays)
