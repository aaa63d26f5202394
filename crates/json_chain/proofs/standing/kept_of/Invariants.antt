use Rattle.std.proofs.Common.{◌≡◌, ◌++◌, map, drop}
use Rattle.serde_json.specs.View.{view}
use Rattle.json_chain.specs.Memberships.{kept_json}
use Rattle.json_chain.proofs.standing.kept_of.Given as goal

abbrev pub invariant-loop-organisation : goal.invariant-loop-organisation
invariant-loop-organisation l =
    map view l.values.items ++ map kept_json (drop l.organisation-index l.organisations) ≡ map kept_json l.organisations
