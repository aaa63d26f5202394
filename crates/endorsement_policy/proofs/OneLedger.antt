-- Each key of who stands is one of the ledger, so a signature that is right in a ledger of rules 2 is right in no other.
use Rattle.std.proofs.Common.{◌≡◌, ◌≢◌, ℕ, true, ◌&&◌, List, [], ◌∷◌, map, length, Option, Some, None, refl, sym, ap₂, subst}
use Rattle.std.specs.FinMap.{get}
use Rattle.std.specs.List.{find}
use Rattle.std.proofs.lemmas.Option.{same_Some}
use Rattle.std.proofs.lemmas.Slice.Eq.{bytes_eq-Decides}
use Rattle.grammar.specs.Laws.Steps.{guarded}
use Rattle.fab_types.specs.Memberships.{membership_key}
use Rattle.fab_types.specs.Payloads.{Payload}
use Rattle.fab_types.specs.Spelling.{payload_bytes}
use Rattle.fab_types.specs.Within.{IsProposal}
use Rattle.fab_types.specs.declared.edition.Edition.{Edition}
use Rattle.fab_types.specs.declared.edition.Edition.TheVariants.{First, Second}
use Rattle.fab_types.specs.declared.membership.Member.{Member}
use Rattle.fab_types.specs.declared.membership.MemberKey.{MemberKey}
use Rattle.fab_types.specs.declared.membership.MemberKey.TheVariants.{Kept, Public}
use Rattle.fab_types.specs.declared.membership.Membership.{Membership}
use Rattle.fab_types.specs.declared.tag.Tag.TheVariants as tag
use Rattle.ledger_model.specs.Views.{Plain}
use Rattle.policy_language.specs.GoodSets.{Name}
use Rattle.policy_language.specs.declared.policy.Policy.{Policy}
use Rattle.org_keys.specs.Keys.{is_public_key, is_right_by}
use Rattle.org_keys.specs.Ledgers.{VerifiesTwice, are_keys_of, is_key_of, key_in, org_in}
use Rattle.org_keys.specs.declared.organisation.OrgKey.{OrgKey}
use Rattle.org_keys.specs.declared.organisation.OrgKey.TheVariants as org_key
use Rattle.org_keys.specs.declared.organisation.Organisation.{Organisation}
use Rattle.org_keys.proofs.OneLedger.{of_one_ledger}
use Rattle.endorsement_policy.specs.Endorsed.{is_org, is_right, is_tag_of}
use Rattle.endorsement_policy.specs.Listed.{Listed}
use Rattle.endorsement_policy.specs.Membership.{listed_in, membership_policy, org_by_key, orgs_by, standing_as, standing_by, usable_membership, with_org}
use Rattle.endorsement_policy.proofs.FirstBytes.{other_first}
use Rattle.endorsement_policy.proofs.Rights.{found_passes}

module _ (edition : Edition) (ledger : List ℕ) where
  abbrev IsOf : OrgKey → Type 0
  IsOf k = is_key_of edition ledger k ≡ true

  abbrev AreOf : List Organisation → Type 0
  AreOf os = are_keys_of edition ledger os ≡ true

-- ---- keys as they are in a ledger

kept_key : (edition : Edition) (ledger : List ℕ) (k : OrgKey) → IsOf edition ledger k → IsOf edition ledger (key_in edition ledger k)
kept_key First ledger k of = of
kept_key Second ledger (org_key.Shared k) of = refl
kept_key Second ledger (org_key.Public k) of = (bytes_eq-Decides ledger ledger).1 refl
kept_key Second ledger (org_key.Bound k other) of = of

own_key : (edition : Edition) (ledger k : List ℕ) → IsOf edition ledger (key_in edition ledger (org_key.Public k))
own_key First ledger k = refl
own_key Second ledger k = (bytes_eq-Decides ledger ledger).1 refl

-- ---- the keys of members

module _ (edition : Edition) (ledger : List ℕ) (orgs : List Organisation) (listed : AreOf edition ledger orgs) where
  member_key : (name : Name) (k : MemberKey) (o : Organisation) → org_by_key orgs name k ≡ Some o → IsOf edition ledger (key_in edition ledger o.key)
  member_key name Kept o found =
      kept_key edition ledger o.key (found_passes (is_org name) (λ (x : Organisation). is_key_of edition ledger x.key) orgs o listed found)
  member_key name (Public k) o found =
      let own : Organisation = record { name = name; key = org_key.Public k } in
      let tested = guarded (is_public_key k) (Some own) o found in
      subst (λ (x : Organisation). IsOf edition ledger (key_in edition ledger x.key)) (same_Some own o tested.1) (own_key edition ledger k)

  one_more : (found : Option Organisation) (os : List Organisation) →
      ((o : Organisation) → found ≡ Some o → IsOf edition ledger (key_in edition ledger o.key)) → AreOf edition ledger (map (org_in edition ledger) os) →
      AreOf edition ledger (map (org_in edition ledger) (with_org found os))
  one_more None os one are = are
  one_more (Some o) os one are = ap₂ (λ a b. a && b) (one o refl) are

  of_members : (members : List Member) → AreOf edition ledger (map (org_in edition ledger) (orgs_by orgs members))
  of_members [] = refl
  of_members (m ∷ ms) = one_more (org_by_key orgs m.name m.key) (orgs_by orgs ms) (member_key m.name m.key) (of_members ms)

-- ---- who stands

module _ (r : Listed) (listed : AreOf r.edition r.ledger r.orgs) (installed : r.installed.orgs ≡ r.orgs) where
  by_policy : (members : List Member) (policy : Option Policy) → AreOf r.edition r.ledger (standing_as r members policy).orgs
  by_policy members None = listed
  by_policy members (Some policy) =
      of_members r.edition r.ledger r.installed.orgs (subst (λ (os : List Organisation). AreOf r.edition r.ledger os) (sym installed) listed) members

  by_membership : (found : Option Membership) → AreOf r.edition r.ledger (standing_by r found).orgs
  by_membership None = listed
  by_membership (Some s) = by_policy s.members (membership_policy s)

  stand : (m : Plain) → AreOf r.edition r.ledger (listed_in r m).orgs
  stand m = by_membership (usable_membership r.installed.orgs (get m membership_key))

-- ---- a signature

-- of whose key it is right
record RightUnder (edition : Edition) (ledger : List ℕ) (p : Payload) (signature : List ℕ) : Type 0 where
  key : OrgKey
  of : is_key_of edition ledger key ≡ true
  right : is_right_by key (payload_bytes p) (tag.Ed25519 signature) ≡ true

right_under : (edition : Edition) (ledger : List ℕ) (orgs : List Organisation) (p : Payload) (org signature : List ℕ) → AreOf edition ledger orgs →
    is_right orgs p (record { org = org; tag = tag.Ed25519 signature }) ≡ true → RightUnder edition ledger p signature
right_under edition ledger orgs p org signature are right = by_found (find (is_org org) orgs) refl right
  where
    by_found : (found : Option Organisation) → find (is_org org) orgs ≡ found → is_tag_of found (payload_bytes p) (tag.Ed25519 signature) ≡ true →
        RightUnder edition ledger p signature
    by_found None is right = absurd cc
    by_found (Some o) is right =
        record { key = o.key; of = found_passes (is_org org) (λ (x : Organisation). is_key_of edition ledger x.key) orgs o are is; right = right }

pub one_ledger : (r s : Listed) → length r.ledger ≡ 32 → length s.ledger ≡ 32 → are_keys_of r.edition r.ledger r.orgs ≡ true →
    are_keys_of s.edition s.ledger s.orgs ≡ true → r.installed.orgs ≡ r.orgs → s.installed.orgs ≡ s.orgs → (m n : Plain) (p q : Payload)
    (a b signature : List ℕ) → r.edition ≡ Second → r.ledger ≢ s.ledger → IsProposal q.proposal →
    is_right (listed_in r m).orgs p (record { org = a; tag = tag.Ed25519 signature }) ≡ true →
    is_right (listed_in s n).orgs q (record { org = b; tag = tag.Ed25519 signature }) ≡ true → VerifiesTwice signature
one_ledger r s size other_size keys other_keys installed other_installed m n p q a b signature second apart is right right_too =
    let one = right_under r.edition r.ledger (listed_in r m).orgs p a signature (stand r keys installed m) right in
    let other = right_under s.edition s.ledger (listed_in s n).orgs q b signature (stand s other_keys other_installed n) right_too in
    of_one_ledger s.edition r.ledger s.ledger one.key other.key (payload_bytes p) (payload_bytes q) signature size other_size apart
    (λ rest same. other_first q.proposal rest _ _ _ _ is (sym same)) (subst (λ (e : Edition). is_key_of e r.ledger one.key ≡ true) second one.of) other.of
    one.right other.right
