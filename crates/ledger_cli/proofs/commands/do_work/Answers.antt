use Rattle.std.proofs.Common.{ℕ, List, Option, refl, sym, subst}
use Rattle.cli_words.specs.declared.task.Work.{Work}
use Rattle.cli_words.specs.declared.task.Work.TheVariants as work
use Rattle.ledger_cli.specs.Leaving.{Leaves}
use Rattle.ledger_cli.specs.Tasks.{Works, known_files}
use Rattle.ledger_cli.proofs.Leaving.{leaves_all, leaves_run}
use Rattle.ledger_cli.proofs.commands.do_work.Goals as goal

pub returns-in-State-clause-works : goal.returns-in-State-clause-works
returns-in-State-clause-works g c =
    let r = c.state in
    let input = g.F.Files.input_bytes c.args.files.now in
    let k = known_files g.F.Files.is_known (g.F.Files.bytes c.args.files.now) (g.F.Files.bytes r.new.files) input in
    subst (λ (w : Work). Works c.args.subject.log.now w k c.args.out.now r.new.out r.result) (sym c.in-State.is)
    (c.part_of.result, c.part_of.ensures, (r.ensures.answers, r.ensures.begins))

pub returns-in-Threads-clause-works : goal.returns-in-Threads-clause-works
returns-in-Threads-clause-works g c =
    let r = c.threads in
    let input = g.F.Files.input_bytes c.args.files.now in
    let k = known_files g.F.Files.is_known (g.F.Files.bytes c.args.files.now) (g.F.Files.bytes r.new.files) input in
    subst (λ (w : Work). Works c.args.subject.log.now w k c.args.out.now r.new.out r.result) (sym c.in-Threads.is) (r.ensures.answers, r.ensures.begins)

pub returns-in-Run-clause-files : goal.returns-in-Run-clause-files
returns-in-Run-clause-files g c =
    let r = c.run_events in
    let known = g.F.Files.is_known in
    let old = g.F.Files.bytes c.args.files.now in
    let new = g.F.Files.bytes r.new.files in
    subst (λ (w : Work). Leaves known w old new) (sym c.in-Run.is)
    (leaves_run known c.in-Run.events c.in-Run.store old new r.ensures.kept r.ensures.others r.ensures.spares)

pub returns-in-Simulate-clause-works : goal.returns-in-Simulate-clause-works
returns-in-Simulate-clause-works g c =
    let r = c.simulate in
    let input = g.F.Files.input_bytes c.args.files.now in
    let k = known_files g.F.Files.is_known (g.F.Files.bytes c.args.files.now) (g.F.Files.bytes r.new.files) input in
    subst (λ (w : Work). Works c.args.subject.log.now w k c.args.out.now r.new.out r.result) (sym c.in-Simulate.is) (r.ensures.answers, r.ensures.begins)

pub returns-in-Run-clause-works : goal.returns-in-Run-clause-works
returns-in-Run-clause-works g c =
    let r = c.run_events in
    let input = g.F.Files.input_bytes c.args.files.now in
    let k = known_files g.F.Files.is_known (g.F.Files.bytes c.args.files.now) (g.F.Files.bytes r.new.files) input in
    subst (λ (w : Work). Works c.args.subject.log.now w k c.args.out.now r.new.out r.result) (sym c.in-Run.is)
    ((r.ensures.answers, r.ensures.begins), r.ensures.stays)

pub returns-in-Audit-clause-works : goal.returns-in-Audit-clause-works
returns-in-Audit-clause-works g c =
    let r = c.audit in
    let input = g.F.Files.input_bytes c.args.files.now in
    let k = known_files g.F.Files.is_known (g.F.Files.bytes c.args.files.now) (g.F.Files.bytes r.new.files) input in
    subst (λ (w : Work). Works c.args.subject.log.now w k c.args.out.now r.new.out r.result) (sym c.in-Audit.is) (r.ensures.answers, r.ensures.begins)

pub returns-in-Show-clause-works : goal.returns-in-Show-clause-works
returns-in-Show-clause-works g c =
    let r = c.show in
    let input = g.F.Files.input_bytes c.args.files.now in
    let k = known_files g.F.Files.is_known (g.F.Files.bytes c.args.files.now) (g.F.Files.bytes r.new.files) input in
    subst (λ (w : Work). Works c.args.subject.log.now w k c.args.out.now r.new.out r.result) (sym c.in-Show.is) (r.ensures.answers, r.ensures.begins)

pub returns-in-Peer-clause-works : goal.returns-in-Peer-clause-works
returns-in-Peer-clause-works g c =
    let r = c.peer in
    let input = g.F.Files.input_bytes c.args.files.now in
    let k = known_files g.F.Files.is_known (g.F.Files.bytes c.args.files.now) (g.F.Files.bytes r.new.files) input in
    let log = c.args.subject.log.now in
    subst (λ (w : Work). Works log w k c.args.out.now r.new.out r.result) (sym c.in-Peer.is)
    (subst (λ (org : Option (List ℕ)). Works log (work.Peer org c.in-Peer.store) k c.args.out.now r.new.out r.result) c.as_ref.ensures.value
    ((r.ensures.answers, r.ensures.begins), r.ensures.holds, r.ensures.told))

pub returns-in-Peer-clause-files : goal.returns-in-Peer-clause-files
returns-in-Peer-clause-files g c =
    let r = c.peer in
    subst (λ (w : Work). Leaves g.F.Files.is_known w (g.F.Files.bytes c.args.files.now) (g.F.Files.bytes r.new.files)) (sym c.in-Peer.is)
    (r.ensures.others, r.ensures.keeps)

pub returns-in-Marks-clause-works : goal.returns-in-Marks-clause-works
returns-in-Marks-clause-works g c =
    let r = c.marks in
    let input = g.F.Files.input_bytes c.args.files.now in
    let k = known_files g.F.Files.is_known (g.F.Files.bytes c.args.files.now) (g.F.Files.bytes r.new.files) input in
    subst (λ (w : Work). Works c.args.subject.log.now w k c.args.out.now r.new.out r.result) (sym c.in-Marks.is) (r.ensures.answers, r.ensures.begins)

pub returns-in-Simulate-clause-files : goal.returns-in-Simulate-clause-files
returns-in-Simulate-clause-files g c =
    let bytes = g.F.Files.bytes in
    leaves_all g.F.Files.is_known c.args.work.now (bytes c.args.files.now) (bytes c.simulate.new.files) c.simulate.ensures.kept

pub returns-in-Threads-clause-files : goal.returns-in-Threads-clause-files
returns-in-Threads-clause-files g c =
    let bytes = g.F.Files.bytes in
    leaves_all g.F.Files.is_known c.args.work.now (bytes c.args.files.now) (bytes c.threads.new.files) c.threads.ensures.kept

pub returns-in-Audit-clause-files : goal.returns-in-Audit-clause-files
returns-in-Audit-clause-files g c =
    let bytes = g.F.Files.bytes in
    leaves_all g.F.Files.is_known c.args.work.now (bytes c.args.files.now) (bytes c.audit.new.files) c.audit.ensures.kept

pub returns-in-Show-clause-files : goal.returns-in-Show-clause-files
returns-in-Show-clause-files g c =
    let bytes = g.F.Files.bytes in
    leaves_all g.F.Files.is_known c.args.work.now (bytes c.args.files.now) (bytes c.show.new.files) c.show.ensures.kept

pub returns-in-State-clause-files : goal.returns-in-State-clause-files
returns-in-State-clause-files g c =
    let bytes = g.F.Files.bytes in
    leaves_all g.F.Files.is_known c.args.work.now (bytes c.args.files.now) (bytes c.state.new.files) c.state.ensures.kept

pub returns-in-Marks-clause-files : goal.returns-in-Marks-clause-files
returns-in-Marks-clause-files g c =
    let bytes = g.F.Files.bytes in
    leaves_all g.F.Files.is_known c.args.work.now (bytes c.args.files.now) (bytes c.marks.new.files) c.marks.ensures.kept

pub returns-in-Trace-clause-files : goal.returns-in-Trace-clause-files
returns-in-Trace-clause-files g c =
    let held = g.F.Files.bytes c.args.files.now in leaves_all g.F.Files.is_known c.args.work.now held held refl

pub returns-in-Simulate-clause-tells : goal.returns-in-Simulate-clause-tells
returns-in-Simulate-clause-tells g c = c.simulate.ensures.tells

pub returns-in-Run-clause-tells : goal.returns-in-Run-clause-tells
returns-in-Run-clause-tells g c = c.run_events.ensures.tells

pub returns-in-Threads-clause-tells : goal.returns-in-Threads-clause-tells
returns-in-Threads-clause-tells g c = c.threads.ensures.tells

pub returns-in-Audit-clause-tells : goal.returns-in-Audit-clause-tells
returns-in-Audit-clause-tells g c = c.audit.ensures.tells

pub returns-in-Show-clause-tells : goal.returns-in-Show-clause-tells
returns-in-Show-clause-tells g c = c.show.ensures.tells

pub returns-in-State-clause-tells : goal.returns-in-State-clause-tells
returns-in-State-clause-tells g c = c.state.ensures.tells

pub returns-in-Trace-clause-tells : goal.returns-in-Trace-clause-tells
returns-in-Trace-clause-tells g c = c.trace.ensures.tells

pub returns-in-Peer-clause-tells : goal.returns-in-Peer-clause-tells
returns-in-Peer-clause-tells g c = c.peer.ensures.tells

pub returns-in-Marks-clause-tells : goal.returns-in-Marks-clause-tells
returns-in-Marks-clause-tells g c = c.marks.ensures.tells

pub returns-in-Checkpoint-clause-works : goal.returns-in-Checkpoint-clause-works
returns-in-Checkpoint-clause-works g c =
    let r = c.checkpoint in
    let input = g.F.Files.input_bytes c.args.files.now in
    let k = known_files g.F.Files.is_known (g.F.Files.bytes c.args.files.now) (g.F.Files.bytes r.new.files) input in
    subst (λ (w : Work). Works c.args.subject.log.now w k c.args.out.now r.new.out r.result) (sym c.in-Checkpoint.is)
    ((r.ensures.answers, r.ensures.begins), r.ensures.stays)

pub returns-in-Checkpoint-clause-files : goal.returns-in-Checkpoint-clause-files
returns-in-Checkpoint-clause-files g c =
    let r = c.checkpoint in
    subst (λ (w : Work). Leaves g.F.Files.is_known w (g.F.Files.bytes c.args.files.now) (g.F.Files.bytes r.new.files)) (sym c.in-Checkpoint.is)
    (r.ensures.others, r.ensures.spares)

pub returns-in-Checkpoint-clause-tells : goal.returns-in-Checkpoint-clause-tells
returns-in-Checkpoint-clause-tells g c = c.checkpoint.ensures.tells
