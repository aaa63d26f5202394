-- A worker may go to another thread, as its seats may.
use denote.Param.Send.{IsSend, sendable}
use Rattle.std.proofs.Crossing.{crosses}
use Rattle.fab_types.proofs.name.Name.TheSendSync as name
use Rattle.intake.proofs.sender.SenderSeat.TheSendSync as sender
use Rattle.peer_node.proofs.Sending.{send_seat_field}
use Rattle.seat_threads.proofs.counts.Counts.TheSendSync as counts
use Rattle.seat_threads.specs.contracts.worker.Worker as worker_type

pub send_worker : IsSend worker_type.the_row
send_worker = search (sendable, crosses, name.the_send, sender.the_field_send, counts.the_field_send, send_seat_field) depth 30
