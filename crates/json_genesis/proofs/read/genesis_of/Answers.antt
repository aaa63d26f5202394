use Rattle.json_genesis.proofs.read.genesis_of.Goals as goal

pub returns-in-None-clause-refused : goal.returns-in-None-clause-refused
returns-in-None-clause-refused c = (λ e. cc, λ real g spelled. c.in-None.ensures spelled.0 spelled.1)
