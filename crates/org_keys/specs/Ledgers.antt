-- Keys as they are in a ledger: under rules 2 each public key is bound to it.
use Rattle.std.specs.Prelude.{◌≡◌, ◌≢◌, ℕ, List, Bool, true, false, bytes_eq}
use Rattle.std.specs.List.{list_all}
use Rattle.fab_types.specs.declared.edition.Edition.{Edition}
use Rattle.fab_types.specs.declared.edition.Edition.TheVariants.{First, Second}
use Rattle.ed25519.specs.Signing.{verifies}
use Rattle.org_keys.specs.declared.organisation.OrgKey.{OrgKey}
use Rattle.org_keys.specs.declared.organisation.OrgKey.TheVariants as key
use Rattle.org_keys.specs.declared.organisation.Organisation.{Organisation}

-- a public key, bound to the ledger whose genesis file has this SHA-256; a shared key stays, and one that is bound already
abbrev pub bound_to : (ledger : List ℕ) → OrgKey → OrgKey
bound_to ledger (key.Shared k) = key.Shared k
bound_to ledger (key.Public k) = key.Bound k ledger
bound_to ledger (key.Bound k other) = key.Bound k other

-- a key as it is in a ledger under the rules of an edition
abbrev pub key_in : Edition → (ledger : List ℕ) → OrgKey → OrgKey
key_in First ledger k = k
key_in Second ledger k = bound_to ledger k

-- an organisation, with its key as it is in a ledger
abbrev pub org_in : Edition → (ledger : List ℕ) → Organisation → Organisation
org_in edition ledger o = record { name = o.name; key = key_in edition ledger o.key }

-- a key that is bound to no ledger
abbrev pub is_unbound : OrgKey → Bool
is_unbound (key.Shared k) = true
is_unbound (key.Public k) = true
is_unbound (key.Bound k ledger) = false

-- a shared key, or one that is bound to this ledger
abbrev pub is_bound_to : (ledger : List ℕ) → OrgKey → Bool
is_bound_to ledger (key.Shared k) = true
is_bound_to ledger (key.Public k) = false
is_bound_to ledger (key.Bound k other) = bytes_eq other ledger

-- under rules 1 no key of a ledger is bound, under rules 2 each public key is bound to it
abbrev pub is_key_of : Edition → (ledger : List ℕ) → OrgKey → Bool
is_key_of First ledger k = is_unbound k
is_key_of Second ledger k = is_bound_to ledger k

abbrev pub are_keys_of : Edition → (ledger : List ℕ) → List Organisation → Bool
are_keys_of edition ledger os = list_all (λ o. is_key_of edition ledger o.key) os

-- a signature verifies for two messages that differ, each under some public key
pub record VerifiesTwice (signature : List ℕ) : Type 0 where
  pub point : List ℕ
  pub other_point : List ℕ
  pub message : List ℕ
  pub other : List ℕ
  pub differ : message ≢ other
  pub right : verifies point message signature ≡ true
  pub right_too : verifies other_point other signature ≡ true
