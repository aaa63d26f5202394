use Rattle.endorsement_policy.proofs.Definitions.{spelled, of_known, placed, made, known, again}
use Rattle.endorsement_policy.proofs.laws.usable_definitions_are_spelled.Goals as goal

pub returns-clause-spelled : goal.returns-clause-spelled
returns-clause-spelled c = λ i d u is limits. spelled i d u is limits

pub returns-clause-known : goal.returns-clause-known
returns-clause-known c = λ i orgs d u is limits is_open known. of_known i d u is orgs limits is_open known

pub returns-clause-placed : goal.returns-clause-placed
returns-clause-placed c = λ i d u is. placed i d u is

pub returns-clause-found : goal.returns-clause-found
returns-clause-found c = λ i d place p e h. made i d place p e h

pub returns-clause-read : goal.returns-clause-read
returns-clause-read c = λ i bytes u e. known i bytes u e

pub returns-clause-again : goal.returns-clause-again
returns-clause-again c = λ i bytes u d k e is. again i bytes u d k e is
