use Rattle.std.proofs.Common.{◌≡◌, ◌++◌, map, drop}
use Rattle.std.specs.Map.Iter.{deref_pair}
use Rattle.serde_json.specs.View.{view}
use Rattle.json_chain.specs.Entries.{entries_json}
use Rattle.json_questions.proofs.entries.list_of.Given as goal

abbrev pub invariant-loop-key : goal.invariant-loop-key
invariant-loop-key l =
    map view l.values.items ++ entries_json (map deref_pair (drop l.key-index l.entries)) ≡ entries_json (map deref_pair l.entries)
