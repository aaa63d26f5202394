use Rattle.std.proofs.Common.{refl, sym, subst}
use Rattle.cli_lines.proofs.Answering.{begins_err}
use Rattle.cli_words.specs.declared.task.Task.{Task}
use Rattle.ledger_cli.specs.Leaving.{LeavesFiles}
use Rattle.ledger_cli.specs.Tasks.{Comes, known_files}
use Rattle.ledger_cli.proofs.Leaving.{leaves_files}
use Rattle.ledger_cli.proofs.commands.do_task.Goals as goal

pub returns-in-Work-clause-comes : goal.returns-in-Work-clause-comes
returns-in-Work-clause-comes g c =
    let r = c.with_genesis in
    let k = known_files g.F.Files.is_known (g.F.Files.bytes c.args.files.now) (g.F.Files.bytes r.new.files) (g.F.Files.input_bytes c.args.files.now) in
    subst (λ (t : Task). Comes t k c.args.out.now r.new.out r.result) (sym c.in-Work.is) r.ensures.works

pub returns-in-Check-clause-comes : goal.returns-in-Check-clause-comes
returns-in-Check-clause-comes g c =
    let r = c.check in
    let k = known_files g.F.Files.is_known (g.F.Files.bytes c.args.files.now) (g.F.Files.bytes r.new.files) (g.F.Files.input_bytes c.args.files.now) in
    subst (λ (t : Task). Comes t k c.args.out.now r.new.out r.result) (sym c.in-Check.is)
    (r.ensures.answers, begins_err _ c.args.out.now r.new.out r.result r.ensures.nothing)

pub returns-in-Digest-clause-comes : goal.returns-in-Digest-clause-comes
returns-in-Digest-clause-comes g c =
    let r = c.digest in
    let k = known_files g.F.Files.is_known (g.F.Files.bytes c.args.files.now) (g.F.Files.bytes r.new.files) (g.F.Files.input_bytes c.args.files.now) in
    subst (λ (t : Task). Comes t k c.args.out.now r.new.out r.result) (sym c.in-Digest.is)
    (r.ensures.answers, begins_err _ c.args.out.now r.new.out r.result r.ensures.nothing)

pub returns-in-Version-clause-comes : goal.returns-in-Version-clause-comes
returns-in-Version-clause-comes g c =
    let r = c.version in
    let k = known_files g.F.Files.is_known (g.F.Files.bytes c.args.files.now) (g.F.Files.bytes c.args.files.now) (g.F.Files.input_bytes c.args.files.now) in
    subst (λ (t : Task). Comes t k c.args.out.now r.new.out r.result) (sym c.in-Version.is)
    (r.ensures.answers, begins_err _ c.args.out.now r.new.out r.result r.ensures.nothing)

pub returns-in-Public-clause-comes : goal.returns-in-Public-clause-comes
returns-in-Public-clause-comes g c =
    let r = c.public in
    let k = known_files g.F.Files.is_known (g.F.Files.bytes c.args.files.now) (g.F.Files.bytes r.new.files) (g.F.Files.input_bytes c.args.files.now) in
    subst (λ (t : Task). Comes t k c.args.out.now r.new.out r.result) (sym c.in-Public.is) (r.ensures.answers, r.ensures.begins)

pub returns-in-Check-clause-files : goal.returns-in-Check-clause-files
returns-in-Check-clause-files g c =
    let bytes = g.F.Files.bytes in
    leaves_files g.F.Files.is_known c.args.task.now (bytes c.args.files.now) (bytes c.check.new.files) c.check.ensures.kept

pub returns-in-Digest-clause-files : goal.returns-in-Digest-clause-files
returns-in-Digest-clause-files g c =
    let bytes = g.F.Files.bytes in
    leaves_files g.F.Files.is_known c.args.task.now (bytes c.args.files.now) (bytes c.digest.new.files) c.digest.ensures.kept

pub returns-in-Public-clause-files : goal.returns-in-Public-clause-files
returns-in-Public-clause-files g c =
    let bytes = g.F.Files.bytes in
    leaves_files g.F.Files.is_known c.args.task.now (bytes c.args.files.now) (bytes c.public.new.files) c.public.ensures.kept

pub returns-in-Version-clause-files : goal.returns-in-Version-clause-files
returns-in-Version-clause-files g c =
    let held = g.F.Files.bytes c.args.files.now in leaves_files g.F.Files.is_known c.args.task.now held held refl

pub returns-in-Work-clause-files : goal.returns-in-Work-clause-files
returns-in-Work-clause-files g c =
    let bytes = g.F.Files.bytes in
    let r = c.with_genesis in
    subst (λ (t : Task). LeavesFiles g.F.Files.is_known t (bytes c.args.files.now) (bytes r.new.files)) (sym c.in-Work.is) r.ensures.files

pub returns-in-Check-clause-tells : goal.returns-in-Check-clause-tells
returns-in-Check-clause-tells g c = c.check.ensures.tells

pub returns-in-Digest-clause-tells : goal.returns-in-Digest-clause-tells
returns-in-Digest-clause-tells g c = c.digest.ensures.tells

pub returns-in-Public-clause-tells : goal.returns-in-Public-clause-tells
returns-in-Public-clause-tells g c = c.public.ensures.tells

pub returns-in-Version-clause-tells : goal.returns-in-Version-clause-tells
returns-in-Version-clause-tells g c = c.version.ensures.tells

pub returns-in-Work-clause-tells : goal.returns-in-Work-clause-tells
returns-in-Work-clause-tells g c = c.with_genesis.ensures.tells
