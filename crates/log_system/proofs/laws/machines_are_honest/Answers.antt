use Rattle.log_system.proofs.Honest.{honest_machine}
use Rattle.log_system.proofs.laws.machines_are_honest.Goals as goal

pub returns : goal.returns
returns c = λ seal limits reorder lines answers log machines m reads are there. honest_machine c.log_laws.ensures.behind
    (record { book = c.args.book.now; listed = c.args.rules.now; seal = seal; limits = limits; reorder = reorder }) lines answers log machines m
    c.reads_alone.ensures c.an_endorsed_envelope_carries_a_right_tag.ensures reads are there
