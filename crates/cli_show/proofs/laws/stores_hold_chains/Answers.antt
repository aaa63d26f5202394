use Rattle.cli_show.proofs.Stored.{of_records, of_replay, one_more}
use Rattle.cli_show.proofs.laws.stores_hold_chains.Goals as goal

pub returns-clause-replayed : goal.returns-clause-replayed
returns-clause-replayed c = of_replay

pub returns-clause-opened : goal.returns-clause-opened
returns-clause-opened c = of_records

pub returns-clause-grown : goal.returns-clause-grown
returns-clause-grown c = one_more
