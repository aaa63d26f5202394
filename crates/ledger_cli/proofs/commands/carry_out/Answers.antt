use Rattle.std.proofs.Common.{rules, Ok, Err, inl, inr, map, string_bytes, refl}
use Rattle.cli_words.specs.declared.task.WordsFault.TheVariants as words
use Rattle.ledger_cli.specs.Tasks.{known_files}
use Rattle.ledger_cli.proofs.Usage.{usage_kept}
use Rattle.ledger_cli.proofs.commands.carry_out.Goals as goal

pub returns-in-Ok-clause-carries : goal.returns-in-Ok-clause-carries
returns-in-Ok-clause-carries g c = (Ok c.in-Ok.task, (c.in-Ok.ensures, c.do_task.ensures.comes))

pub returns-in-Ok-clause-usage : goal.returns-in-Ok-clause-usage
returns-in-Ok-clause-usage g c =
    let r = c.do_task in
    let files = g.F.Files.bytes in
    let k = known_files g.F.Files.is_known (files c.args.files.now) (files r.new.files) (g.F.Files.input_bytes c.args.files.now) in
    λ is. usage_kept (map string_bytes c.args.words.now) (Ok c.in-Ok.task) k c.args.out.now r.new.out r.result is
    (c.in-Ok.ensures, r.ensures.comes)

pub returns-in-Err-Usage-clause-carries : goal.returns-in-Err-Usage-clause-carries
returns-in-Err-Usage-clause-carries g c = (Err words.Usage, (search rules, refl, refl))

pub returns-in-Err-Memory-clause-carries : goal.returns-in-Err-Memory-clause-carries
returns-in-Err-Memory-clause-carries g c = (Err words.Memory, (refl, refl))

pub returns-in-Ok-clause-files : goal.returns-in-Ok-clause-files
returns-in-Ok-clause-files g c = inl (c.in-Ok.task, c.in-Ok.ensures, c.do_task.ensures.files)

pub returns-in-Err-Usage-clause-files : goal.returns-in-Err-Usage-clause-files
returns-in-Err-Usage-clause-files g c = inr refl

pub returns-in-Err-Memory-clause-files : goal.returns-in-Err-Memory-clause-files
returns-in-Err-Memory-clause-files g c = inr refl

pub returns-in-Ok-clause-tells : goal.returns-in-Ok-clause-tells
returns-in-Ok-clause-tells g c = c.do_task.ensures.tells
