use Rattle.std.proofs.Common.{rules, ◌≡◌, List, Some, All, sym, subst, arith}
use Rattle.std.proofs.lemmas.List.Elements.{All-push, All-pop}
use Rattle.snapshot_cell.specs.declared.reader.Reader.{Reader}
use Rattle.snapshot_cell.specs.Seats.{seen_list, cell_of_reader}
use Rattle.peer_node.specs.declared.seat.Seat.{Seat}
use Rattle.peer_node.specs.Seats.{IsSeatBehind, endorsing_for}
use Rattle.peer_node.proofs.writer.seats_of.Goals as goal

pub loop-seat-preserved : goal.loop-seat-preserved
loop-seat-preserved c = (
  search rules,
  search rules,
  omega (arith, c.loop-seat.invariant.2, c.push_reserved.ensures.capacity),
  λ peer chain h.
      let both = c.loop-seat.invariant.3 peer chain h in
      let P : Reader → Type 0 = λ r. (cell_of_reader r ≡ peer) × (seen_list r ≡ chain) in
      let left = All-pop P _ _ (Some c.take_last-reader.result) c.take_last-reader.ensures.items both.0 in
      let behind = IsSeatBehind (endorsing_for c.args.genesis.now c.args.org.now) peer chain in
      let added = All-push behind _ _ both.1 (left.1.0, left.1.1, c.in_ok-endorser.ensures) in
      (left.0, subst (λ (seats : List Seat). All behind seats) (sym c.push_reserved.ensures.items) added),
)
