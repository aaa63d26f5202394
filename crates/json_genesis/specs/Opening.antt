-- What the parts of a genesis that was read have to do with one another, and when two hold the same.
use Rattle.std.specs.Prelude.{◌≡◌, true, map, length}
use Rattle.std.specs.List.{list_all}
use Rattle.policy_language.specs.GoodSets.{is_among}
use Rattle.endorsement_policy.specs.declared.rules.ChaincodePolicy.{ChaincodePolicy}
use Rattle.chaincode_book.specs.declared.book.Chaincode.{Chaincode}
use Rattle.ledger_setting.specs.declared.genesis.Genesis.{Genesis}
use Rattle.json_genesis.specs.Lists.{IsWithin}
use Rattle.json_genesis.specs.Spelling.{are_different, names_of, public_keys_of}

-- No two organisations have one name or one public key, each peer's organisation is known, the rules have a policy for each chaincode of the
-- book, in its order, and both are of one edition, and say the same of what is installed. That the numbers are within the ledger's limits is said by the type
pub record CanOpen (g : Genesis) : Type 0 where
  pub organisations : IsWithin 1 16 (length g.rules.value.orgs)
  pub different : are_different (names_of g.rules.value.orgs) ≡ true
  pub keys : are_different (public_keys_of g.rules.value.orgs) ≡ true
  pub known : list_all (is_among (names_of g.rules.value.orgs)) g.peers.items ≡ true
  pub chaincodes : IsWithin 1 16 (length g.book.value.chaincodes)
  pub policies : map (λ (p : ChaincodePolicy). p.chaincode) g.rules.value.policies ≡ map (λ (c : Chaincode). c.name) g.book.value.chaincodes
  pub edition : g.rules.value.edition ≡ g.book.value.edition
  pub installed : g.rules.value.installed ≡ g.book.value.installed

-- Both hold the same. Where their parts lie in memory is not compared
pub record HoldsSame (a b : Genesis) : Type 0 where
  pub book : a.book.value ≡ b.book.value
  pub rules : a.rules.value ≡ b.rules.value
  pub signers : a.signers.value ≡ b.signers.value
  pub peers : a.peers.items ≡ b.peers.items
  pub seats : a.seats ≡ b.seats
  pub queue : a.queue ≡ b.queue
  pub count : a.count ≡ b.count
  pub preferred : a.preferred ≡ b.preferred
  pub absolute : a.absolute ≡ b.absolute
  pub reorder : a.reorder ≡ b.reorder
