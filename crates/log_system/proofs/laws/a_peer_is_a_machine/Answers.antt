use Rattle.log_committer.proofs.Peering.{one_line}
use Rattle.log_system.proofs.Peering.{one_way, peer_has, peer_is_machine}
use Rattle.log_system.proofs.Restarting.{AreReceived}
use Rattle.log_system.proofs.laws.a_peer_is_a_machine.Goals as goal

pub returns : goal.returns
returns c =
    let law = c.peers_agree.ensures in
    let laws : AreReceived = record { restarted = law.restarted; onward = law.onward; replayed = law.replayed } in
    record {
      has = peer_has;
      one = one_way c.log_laws.ensures.one;
      line = one_line c.log_laws.ensures.one;
      machine = peer_is_machine laws;
    }
