use Rattle.std.proofs.Common.{◌≡◌, length}
use Rattle.std.specs.Arc.{arc_value}
use Rattle.peer_node.specs.Writers.{published_chain, peer_of_writer, rules_of}
use Rattle.seat_threads.specs.Chains.{IsFirstOf}
use Rattle.seat_threads.proofs.committing.commit_rest.Given as goal

abbrev pub invariant-loop-index : goal.invariant-loop-index
invariant-loop-index g l =
    (rules_of l.writer ≡ rules_of l.fn.writer) × IsFirstOf (arc_value (rules_of l.fn.writer)) l.blocks (published_chain l.writer) ×
    (length (published_chain l.writer) ≡ l.index) × (peer_of_writer l.writer ≡ peer_of_writer l.fn.writer)
