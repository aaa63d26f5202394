use Rattle.std.proofs.Common.{ap, codes, false, ◌∙◌}
use Rattle.std.specs.Option.{option_map_or}
use Rattle.std.specs.Str.{bytes_eq}
use Rattle.clap.proofs.WalkLemmas.{one_text-rows}
use Rattle.clap.specs.Matches.{found_of, one_text}
use Rattle.cli_words.proofs.Reading.{flag_of}
use Rattle.cli_words.proofs.task.flag.Goals as goal

pub returns : goal.returns
returns c =
    let found = found_of c.args.command.now in
    let name = c.args.name.now in
    c.unwrap_or.ensures ∙ flag_of _ (one_text found name) c.get_one.result c.get_one.ensures.none c.get_one.ensures.value
    ∙ ap (λ o. option_map_or (λ t. bytes_eq t (codes "true")) o false) (one_text-rows found name)
