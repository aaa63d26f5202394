use Rattle.std.proofs.Common.{◌++◌, ◌∷◌, [], Some, refl, string_bytes}
use Rattle.cli_show.proofs.Behind.{on_ok}
use Rattle.cli_show.proofs.MarkLines.{block_behind}
use Rattle.cli_show.proofs.marking.MarkTextBlockSink.take.Goals as goal

pub returns-clause-took : goal.returns-clause-took
returns-clause-took c = λ before was next.
    let b = c.args.committed in
    on_ok c.push_block.result _ _
    (λ h. block_behind before (before ++ b ∷ []) b (Some []) (Some (string_bytes c.args.self.now.text)) (Some (string_bytes c.push_block.new.text)) refl was h)
    c.push_block.ensures
