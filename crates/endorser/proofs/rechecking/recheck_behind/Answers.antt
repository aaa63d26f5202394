use Rattle.endorser.proofs.rechecking.recheck_behind.Goals as goal

pub returns-then-branch-clause-refused : goal.returns-then-branch-clause-refused
returns-then-branch-clause-refused g c = tt
