use Rattle.std.proofs.Common.{inl, inr, refl, subst}
use Rattle.std.proofs.lemmas.Result.{err_from_is_err_and}
use Rattle.cli_lines.specs.Places.{FilesHeld}
use Rattle.cli_lines.proofs.Silence.{no_less, tells_by}
use Rattle.ledger_cli.specs.Leaving.{Leaves}
use Rattle.ledger_cli.specs.Tasks.{KnownFiles, Works}
use Rattle.ledger_cli.proofs.Beginning.{same_files}
use Rattle.ledger_cli.proofs.Leaving.{leaves_all}
use Rattle.ledger_cli.proofs.commands.with_genesis.Goals as goal

pub returns-in_err-log : goal.returns-in_err-log
returns-in_err-log g c =
    let p = err_from_is_err_and c.from_residual.result c.from_residual.ensures.1 in
    let t = c.args.out.now in
    let e = c.in_err-log.ensures in
    rw (p.1, p.2) (record {
      tells = tells_by t t _ (no_less t) e.silent;
      works = inr (c.in_err-log.field-0.0, e.refused, refl, refl, e.kept);
      files = leaves_all g.F.Files.is_known c.args.work.now (g.F.Files.bytes c.args.files.now) (g.F.Files.bytes c.opened.new.files) e.kept;
    })

pub returns-clause-works : goal.returns-clause-works
returns-clause-works g c =
    let log = c.in_ok-log.log in
    let e = c.in_ok-log.ensures in
    let r = c.do_work in
    let w = c.args.work.now in
    let known = g.F.Files.is_known in
    let files = g.F.Files.bytes in
    let input = g.F.Files.input_bytes in
    let old = c.args.files.now in
    let mid = c.opened.new.files in
    let same = same_files known (files old) (files mid) (files r.new.files) (input old) (input mid) e.kept e.input in
    inl (log, e.opens, subst (λ (k : KnownFiles). Works log w k c.args.out.now r.new.out r.result) same r.ensures.works)

pub returns-clause-files : goal.returns-clause-files
returns-clause-files g c =
    let r = c.do_work in
    subst (λ (h : FilesHeld). Leaves g.F.Files.is_known c.args.work.now h (g.F.Files.bytes r.new.files)) c.in_ok-log.ensures.kept r.ensures.files

pub returns-clause-tells : goal.returns-clause-tells
returns-clause-tells g c = c.do_work.ensures.tells
