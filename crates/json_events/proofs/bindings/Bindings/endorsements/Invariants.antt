use Rattle.std.proofs.Common.{◌≡◌, map, string_bytes}
use Rattle.json_events.specs.Bound.{bound_as, endorsements_of}
use Rattle.json_events.proofs.Together.{found_before}
use Rattle.json_events.proofs.bindings.Bindings.endorsements.Given as goal

abbrev pub invariant-names : goal.invariant-names
invariant-names l =
    endorsements_of (bound_as l.self) (map string_bytes l.names) ≡ found_before (bound_as l.self) l.names l.name-index l.found.items
