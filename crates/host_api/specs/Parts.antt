-- What a payload takes from what an execution saw.
use Rattle.std.specs.Prelude.{map}
use Rattle.ledger_model.specs.Views.{Versioned}
use Rattle.ledger_model.specs.Execution.{Seen, read_item, range_item}
use Rattle.host_api.specs.declared.recorder.Parts.{Parts}

-- the items with a state's versions, as in a payload
abbrev pub parts_of : Versioned → Seen → Parts
parts_of m s =
    record { reads = map (read_item m) s.reads; ranges = map (range_item m) s.ranges; result = s.result; writes = s.writes }
