use Rattle.log_system.proofs.Restarting.{AreReceived, restart_begins, restart_goes_on, restart_joins}
use Rattle.log_system.proofs.laws.a_restart_follows_the_log.Goals as goal

pub returns : goal.returns
returns c =
    let law = c.peers_agree.ensures in
    let laws : AreReceived = record { restarted = law.restarted; onward = law.onward; replayed = law.replayed } in
    record {
      begins = restart_begins laws;
      joins = restart_joins laws;
      goes_on = restart_goes_on c.log_laws.ensures.behind laws;
    }
