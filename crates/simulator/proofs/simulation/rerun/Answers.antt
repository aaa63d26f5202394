use Rattle.simulator.proofs.Refusals.{unknown_told, not_installed_told, bad_policy_told, bad_membership_told}
use Rattle.simulator.proofs.Reruns.{rerun_answers}
use Rattle.simulator.proofs.simulation.rerun.Goals as goal

pub returns-clause-told : goal.returns-clause-told
returns-clause-told c = rerun_answers _ _ _ _ c.execute.ensures

pub returns-clause-recorded : goal.returns-clause-recorded
returns-clause-recorded c = c.execute.ensures

pub returns-clause-unknown : goal.returns-clause-unknown
returns-clause-unknown c = unknown_told _ c.chaincodes-valid.ensures.valid _ _ _ _ c.execute.ensures

pub returns-clause-not_installed : goal.returns-clause-not_installed
returns-clause-not_installed c = not_installed_told _ c.chaincodes-valid.ensures.valid _ _ _ _ c.execute.ensures

pub returns-clause-bad_policy : goal.returns-clause-bad_policy
returns-clause-bad_policy c = bad_policy_told _ c.chaincodes-valid.ensures.valid _ _ _ _ c.execute.ensures

pub returns-clause-bad_membership : goal.returns-clause-bad_membership
returns-clause-bad_membership c = bad_membership_told _ c.chaincodes-valid.ensures.valid _ _ _ _ c.execute.ensures
