-- What a clause sees of a peer's writer, and what it commits.
use Rattle.std.specs.declared.alloc.Global.{Global}
use Rattle.std.specs.declared.sync.Arc.{Arc}
use Rattle.logbook.specs.Pages.{Book}
use Rattle.fab_types.specs.declared.block.Block.{Block}
use Rattle.ledger_model.specs.Chain.{Chain, Committed}
use Rattle.endorsement_policy.specs.Endorsed.{Listed}
use Rattle.ledger_setting.specs.Judging as judging
use Rattle.ledger_setting.specs.Rule.{table_of}
use Rattle.snapshot_cell.specs.Seats as cell
use Rattle.peer_node.specs.declared.writer.PeerWriter.{PeerWriter}

-- the whole blocks that the writer committed
abbrev pub published_chain : PeerWriter → Chain
published_chain w = cell.published_list w.cell

-- which peer it is of
abbrev pub peer_of_writer : PeerWriter → Book
peer_of_writer w = cell.cell_of_writer w.cell

-- the rules by which it commits
abbrev pub rules_of : PeerWriter → Arc Listed Global
rules_of w = w.rules

-- the block that comes next in a chain, its transactions flagged by the table
abbrev pub next_by : Listed → Chain → Block → Committed
next_by listed = judging.next_by (table_of listed)
