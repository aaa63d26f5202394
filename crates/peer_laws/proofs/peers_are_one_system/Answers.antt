use Rattle.peer_laws.proofs.Machines.{follower_is_machine, followers_are_one_system, goes_by}
use Rattle.peer_laws.proofs.peers_are_one_system.Goals as goal

pub returns-clause-goes : goal.returns-clause-goes
returns-clause-goes c = goes_by

pub returns-clause-machine : goal.returns-clause-machine
returns-clause-machine c = follower_is_machine c.parts_answer_alike.ensures c.a_peer_is_a_machine.ensures.machine c.a_cut_log_is_one_log.ensures

pub returns-clause-system : goal.returns-clause-system
returns-clause-system c = followers_are_one_system c.parts_answer_alike.ensures c.a_peer_is_a_machine.ensures.machine c.a_cut_log_is_one_log.ensures
    c.apart.ensures
