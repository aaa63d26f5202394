use Rattle.std.proofs.Common.{rules}
use Rattle.cli_lines.proofs.Printing.{printed_on_err}
use Rattle.cli_lines.proofs.whole.name_file.Goals as goal

pub returns-then-is_there-clause-stays : goal.returns-then-is_there-clause-stays
returns-then-is_there-clause-stays g c = printed_on_err c.replace_file.result _ _ (λ stays apart free. stays apart) c.replace_file.ensures.stays

pub returns-else-is_there-clause-stays : goal.returns-else-is_there-clause-stays
returns-else-is_there-clause-stays g c =
    printed_on_err c.place_file.result _ _ (λ stays apart free. stays (apart, free (search rules))) c.place_file.ensures.stays
