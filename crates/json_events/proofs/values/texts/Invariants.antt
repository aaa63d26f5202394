use Rattle.std.proofs.Common.{take}
use Rattle.serde_json.specs.View.{items_view}
use Rattle.json_events.specs.Spelling.{AreTexts}
use Rattle.json_events.proofs.values.texts.Given as goal

abbrev pub invariant-items : goal.invariant-items
invariant-items l = AreTexts (items_view (take l.value-index l.values)) l.found.items
