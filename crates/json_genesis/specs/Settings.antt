-- What the fields of a file with some SHA-256 spell but for the book.
use Rattle.std.specs.Prelude.{◌≡◌, ℕ, List}
use Rattle.serde_json.specs.Data.{boolean}
use Rattle.json_genesis.specs.Lists.{IsListOf, IsNumber}
use Rattle.json_genesis.specs.Spelling.{AreOrganisations, IsEdition, IsPeer, IsPolicy, Parts, names_of}
use Rattle.json_genesis.specs.declared.read.Setting.{Setting}

pub record IsSetting (ledger : List ℕ) (p : Parts) (s : Setting) : Type 0 where
  pub seats : IsNumber 1 64 p.seats s.seats
  pub queue : IsNumber 1 4096 p.queue s.queue
  pub count : IsNumber 1 512 p.count s.count
  pub preferred : IsNumber 1 524288 p.preferred s.preferred
  pub absolute : IsNumber 1 524288 p.absolute s.absolute
  pub reorder : p.reorder ≡ boolean s.reorder
  pub edition : IsEdition p.rules s.edition
  pub organisations : AreOrganisations s.edition ledger p.orgs s.organisations.items
  pub names : s.orgs.items ≡ names_of s.organisations.items
  pub peers : IsListOf (IsPeer s.orgs.items) 1 8 p.peers s.peers.items
  pub upgrade : IsPolicy s.orgs.items p.upgrade s.upgrade
