-- What a run of chaincode has recorded: its questions, its result and its writes.
use Rattle.std.specs.Prelude.{ℕ, List, [], map}
use Rattle.std.specs.FinMap.{get}
use Rattle.fab_types.specs.declared.items.WriteItem.{WriteItem}
use Rattle.ledger_model.specs.Chain.{Bytes}
use Rattle.ledger_model.specs.Views.{Plain, first}
use Rattle.ledger_model.specs.Execution.{KeySeen, RangeSeen, Seen}

-- a range that was asked for
pub record Asked : Type 0 where
  pub start : Bytes
  pub end : Bytes
  pub limit : ℕ

-- the keys read and the keys written stand once each, in key order; the ranges in the order of the calls
pub record Recorded : Type 0 where
  pub reads : List Bytes
  pub ranges : List Asked
  pub result : Bytes
  pub writes : List WriteItem

abbrev pub nothing_recorded : Recorded
nothing_recorded = record { reads = []; ranges = []; result = []; writes = [] }

abbrev pub key_seen : Plain → Bytes → KeySeen
key_seen m key = record { key = key; value = get m key }

abbrev pub range_seen : Plain → Asked → RangeSeen
range_seen m a = record { start = a.start; end = a.end; limit = a.limit; entries = first m a.start a.end a.limit }

-- the questions with a state's answers
abbrev pub seen_on : Plain → Recorded → Seen
seen_on m s =
    record { reads = map (key_seen m) s.reads; ranges = map (range_seen m) s.ranges; result = s.result; writes = s.writes }
