use denote.Param.Send.{sendable}
use Rattle.std.proofs.Crossing.{crosses}
use Rattle.fab_types.proofs.key.Key.TheSendSync as key
use Rattle.fab_types.proofs.proposal.Proposal.TheSendSync as proposal
use Rattle.peer_node.proofs.Sending.{send_seat_field}
use Rattle.ledger_tests.proofs.concurrent_reads_test.meet.Goals as goal

pub join-requires-send-F : goal.join-requires-send-F
join-requires-send-F g c κs within = search (sendable, crosses, key.the_sync, proposal.the_sync, send_seat_field) depth 20
