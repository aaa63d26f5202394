use Rattle.ledger_model.specs.Execution.{ReadsAlone}
use Rattle.simulator.specs.Execution.{exec_of}
use Rattle.fabric_core.proofs.Runs.{honest_of}
use Rattle.fabric_core.proofs.laws.runs_are_honest.Goals as goal

pub returns : goal.returns
returns c seeds capacity orgs seats limits reorder events replies w refused run peer chain is =
    let alone : ReadsAlone (exec_of c.args.book.now) = record { truthful = c.reads_alone.ensures.truthful; only = c.reads_alone.ensures.only } in
    honest_of (exec_of c.args.book.now) alone c.args.rules.now c.an_endorsed_envelope_carries_a_right_tag.ensures
    seeds capacity orgs seats limits reorder events replies w refused run peer chain is
