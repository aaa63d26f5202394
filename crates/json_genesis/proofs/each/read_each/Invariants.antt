use Rattle.std.proofs.Common.{take}
use Rattle.serde_json.specs.View.{items_view}
use Rattle.json_fields.specs.Lists.{AreItems}
use Rattle.json_genesis.proofs.each.read_each.Given as goal

abbrev pub invariant-items : goal.invariant-items
invariant-items g l = AreItems (g.R.ReadItem.spells l.reader) (items_view (take l.value-index l.values)) l.found.items
