-- What a transaction read and wrote, as JSON.
use Rattle.std.specs.Prelude.{Option, Some, None, codes}
use Rattle.fab_types.specs.Version.{Version}
use Rattle.fab_types.specs.Sets.{Range}
use Rattle.fab_types.specs.declared.items.ReadItem.{ReadItem}
use Rattle.fab_types.specs.declared.items.RangeEntry.{RangeEntry}
use Rattle.fab_types.specs.declared.items.WriteItem.{WriteItem}
use Rattle.serde_json.specs.Data.{Data, null, number, unsigned, object, member, no_members}
use Rattle.json_chain.specs.Texts.{hex_json, list_json, value_json, version_json}

-- null where a key was absent
abbrev pub seen_json : Option Version → Data
seen_json None = null
seen_json (Some version) = version_json version

abbrev pub read_json : ReadItem → Data
read_json r = object (member (codes "key") (hex_json r.key) (member (codes "version") (seen_json r.version) no_members))

abbrev pub range_entry_json : RangeEntry → Data
range_entry_json e = object (member (codes "key") (hex_json e.key) (member (codes "version") (version_json e.version) no_members))

abbrev pub range_json : Range → Data
range_json r =
    object (member (codes "end") (hex_json r.end) (member (codes "entries") (list_json range_entry_json r.entries)
    (member (codes "limit") (number (unsigned r.limit)) (member (codes "start") (hex_json r.start) no_members))))

abbrev pub write_item_json : WriteItem → Data
write_item_json w = object (member (codes "key") (hex_json w.key) (member (codes "value") (value_json w.value) no_members))
