use Rattle.policy_language.proofs.Named.{own_names}
use Rattle.policy_language.proofs.laws.its_own_names_suffice.Goals as goal

pub returns : goal.returns
returns c = λ orgs p text h. own_names orgs p text h
