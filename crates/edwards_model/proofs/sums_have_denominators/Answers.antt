use Rattle.edwards_model.proofs.Representing as representing
use Rattle.edwards_model.proofs.sums_have_denominators.Goals as goal

pub returns : goal.returns
returns c = representing.sum_has_denominators
