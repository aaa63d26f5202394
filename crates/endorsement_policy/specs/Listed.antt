-- What the members of a ledger agree on.
use Rattle.std.specs.Prelude.{ℕ, List, Bool, bytes_eq}
use Rattle.std.specs.List.{list_all}
use Rattle.fab_types.specs.declared.edition.Edition.{Edition}
use Rattle.policy_language.specs.GoodSets.{Name, needs_someone}
use Rattle.policy_language.specs.declared.policy.Policy.{Policy}
use Rattle.org_keys.specs.declared.organisation.Organisation.{Organisation}
use Rattle.endorsement_policy.specs.Installed.{Installed}
use Rattle.endorsement_policy.specs.declared.rules.ChaincodePolicy.{ChaincodePolicy}

-- the edition of the rules, the SHA-256 of the genesis file, the organisations with their keys, the policies of chaincodes by the genesis, the policy of
-- upgrades and amendments, and what every peer has installed
pub record Listed : Type 0 where
  pub edition : Edition
  pub ledger : List ℕ
  pub orgs : List Organisation
  pub policies : List ChaincodePolicy
  pub upgrade : Policy
  pub installed : Installed

abbrev pub is_org : Name → Organisation → Bool
is_org name o = bytes_eq o.name name

abbrev pub is_policy_of : Name → ChaincodePolicy → Bool
is_policy_of chaincode p = bytes_eq p.chaincode chaincode

abbrev pub do_need_someone : List ChaincodePolicy → Bool
do_need_someone ps = list_all (λ p. needs_someone p.policy) ps
