use Rattle.std.proofs.Common.{take}
use Rattle.serde_json.specs.View.{items_view}
use Rattle.json_fields.specs.Lists.{AreItems}
use Rattle.json_questions.specs.Spelling.{IsOrg}
use Rattle.json_questions.proofs.orgs.each_org.Given as goal

abbrev pub invariant-items : goal.invariant-items
invariant-items l = AreItems IsOrg (items_view (take l.value-index l.values)) l.found.items
