use Rattle.json_genesis.proofs.NamedKeys.{no_organisation}
use Rattle.json_genesis.proofs.organisations.OrganisationReaderReadItem.read.Goals as goal

pub returns-in-None-clause-refused : goal.returns-in-None-clause-refused
returns-in-None-clause-refused c = (λ e. cc, λ real o. no_organisation _ _ _ c.in_default.ensures c.in-None.ensures o)
