-- What the fields hold that were found in an object.
use Rattle.std.specs.Prelude.{option_map}
use Rattle.serde_json.specs.View.{view}
use Rattle.json_genesis.specs.Spelling.{Parts}
use Rattle.json_genesis.specs.declared.fields.GenesisFields.{GenesisFields}

abbrev pub parts_of : GenesisFields → Parts
parts_of f = record {
  absolute = view f.absolute.now;
  chaincodes = view f.chaincodes.now;
  count = view f.count.now;
  modules = view f.modules.now;
  orgs = view f.orgs.now;
  peers = view f.peers.now;
  preferred = view f.preferred.now;
  queue = view f.queue.now;
  reorder = view f.reorder.now;
  rules = option_map (λ d. view d.now) f.rules;
  seats = view f.seats.now;
  upgrade = view f.upgrade.now;
}
