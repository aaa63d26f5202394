use Rattle.std.proofs.Common.{codes}
use Rattle.wasm_profile.specs.declared.profile.Profile.TheVariants.{Core1}
use Rattle.cli_words.proofs.Reading.{or_other, or_there}
use Rattle.cli_words.specs.Words.{SpellsProfile, rows_in}
use Rattle.cli_words.proofs.task.profile_of.Goals as goal

pub returns-in-Some : goal.returns-in-Some
returns-in-Some c =
    or_there SpellsProfile Core1 (rows_in c.args.command.now) (codes "profile") c.option.result c.in-Some.digits c.profile.result c.option.ensures c.in-Some.is
    c.profile.ensures

pub returns-in-None : goal.returns-in-None
returns-in-None c = or_other SpellsProfile Core1 (rows_in c.args.command.now) (codes "profile") c.option.result c.option.ensures c.in-None.is
