use Rattle.std.proofs.Common.{◌≡◌, ◌++◌, drop}
use Rattle.json_questions.specs.Answers.{names_among}
use Rattle.json_questions.proofs.asked_orgs.found_standing.Given as goal

abbrev pub invariant-loop-name : goal.invariant-loop-name
invariant-loop-name l = l.found.items ++ names_among l.standing.orgs (drop l.name-index l.names) ≡ names_among l.standing.orgs l.names
