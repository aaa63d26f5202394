use Rattle.std.proofs.Common.{take}
use Rattle.serde_json.specs.View.{items_view}
use Rattle.json_fields.specs.Lists.{AreItems}
use Rattle.json_events.specs.Spelling.{IsMember}
use Rattle.json_events.proofs.members.each_member.Given as goal

abbrev pub invariant-items : goal.invariant-items
invariant-items l = AreItems IsMember (items_view (take l.value-index l.values)) l.found.items
