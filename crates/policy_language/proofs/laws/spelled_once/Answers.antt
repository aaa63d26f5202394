use Rattle.policy_language.proofs.Whole.{same}
use Rattle.policy_language.proofs.laws.spelled_once.Goals as goal

pub returns : goal.returns
returns c = λ orgs a b text. same orgs text a b
