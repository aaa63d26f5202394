use Rattle.std.proofs.Common.{◌≡◌, ◌∙◌, [], ℕ, refl, sym, ap, subst, All}
use Rattle.std.specs.Prelude.{slice_index_or}
use Rattle.intake.specs.declared.receiver.ReceiverSeat.{ReceiverSeat}
use Rattle.intake.specs.Seats.{intake_of_receiver}
use Rattle.endorser.specs.Endorsing.{Endorsing}
use Rattle.peer_node.specs.declared.writer.PeerWriter.{PeerWriter}
use Rattle.peer_node.specs.Seats.{endorsing_for, IsSeat}
use Rattle.peer_node.specs.Writers.{peer_of_writer}
use Rattle.seat_threads.specs.Reports.{task_of}
use Rattle.seat_threads.specs.Work.{Home, AreWorkersOf}
use Rattle.seat_threads.proofs.Places.{first_of_some}
use Rattle.seat_threads.proofs.running.opened.Goals as goal

pub returns-in-Ok-clause-workers : goal.returns-in-Ok-clause-workers
returns-in-Ok-clause-workers g c = λ rounds.
    let genesis = c.args.genesis.now in
    let task = task_of genesis c.args.chaincode.now rounds in
    let receiver = c.in_ok-senders.receiver in
    let writer = c.in_ok-writer.writer in
    let home : Home = record { intake = intake_of_receiver receiver; peer = peer_of_writer writer } in
    let org : c.index.result.now ≡ slice_index_or genesis.peers.items 0 [] =
    c.index.ensures ∙ first_of_some genesis.peers.items c.index.result.now [] genesis.peers_in_range.0 in
    let seats = subst (λ (e : Endorsing). All (IsSeat e home.peer) c.in_ok-writer.seats.items) (ap (endorsing_for genesis) org) c.in_ok-writer.ensures.seats in
    let each = c.in-Ok.ensures.each task home refl seats
    (λ seat s at. let fresh = c.in_ok-senders.ensures.seats seat s at in (fresh.0, fresh.3, fresh.4)) in
    let all = subst (λ (n : ℕ). AreWorkersOf task home n c.in-Ok.workers.items) c.in_ok-senders.ensures.length each in
    let HomeOf : ReceiverSeat → PeerWriter → Home = λ r w. record { intake = intake_of_receiver r; peer = peer_of_writer w } in
    let received = subst (λ (r : ReceiverSeat). AreWorkersOf task (HomeOf r writer) genesis.seats c.in-Ok.workers.items) (sym c.new-desk.ensures.same.0) all in
    subst (λ (w : PeerWriter). AreWorkersOf task (HomeOf c.new-desk.result.receiver w) genesis.seats c.in-Ok.workers.items) (sym c.new-desk.ensures.same.2)
    received
