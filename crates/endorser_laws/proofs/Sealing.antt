-- What is put on a payload is right where the key is at hand by which it is made, and nowhere else.
use Rattle.std.proofs.Common.{◌≡◌, ℕ, List, [], ◌∷◌, Bool, true, false, cond, Option, Some, None, is_some, option_map, bytes_eq, refl, subst, ◌∙◌}
use Rattle.std.specs.List.{find}
use Rattle.std.specs.Option.{option_map_or}
use Rattle.std.proofs.lemmas.Slice.Eq.{bytes_eq-Decides}
use Rattle.hmac_tag.specs.Tag.{tag}
use Rattle.fab_types.specs.declared.tag.Tag.{Tag}
use Rattle.fab_types.specs.declared.tag.Tag.TheVariants as tag_kind
use Rattle.ed25519.specs.Signing.{public_key, signature, verifies}
use Rattle.ed25519_laws.specs.Laws.{SignedIsVerified}
use Rattle.fab_types.specs.Spelling.{payload_bytes}
use Rattle.org_keys.specs.Keys.{is_right_by, tag_message}
use Rattle.org_keys.specs.Signers.{Seeds, is_at_hand, seed_for, signed, tag_for}
use Rattle.org_keys.specs.declared.organisation.OrgKey.{OrgKey}
use Rattle.org_keys.specs.declared.organisation.OrgKey.TheVariants as key
use Rattle.org_keys.specs.declared.organisation.Organisation.{Organisation}
use Rattle.endorsement_policy.specs.Endorsed.{is_org, is_tag_of}
use Rattle.endorsement_policy.specs.Membership.{listed_in}
use Rattle.endorser_laws.specs.Laws.{SealedIsRight}

-- under a bound key a tag is right as it is under the public one for the ledger's message
under_bound : (public ledger bytes : List ℕ) (t : Tag) →
    is_right_by (key.Bound public ledger) bytes t ≡ is_right_by (key.Public public) (tag_message ledger bytes) t
under_bound public ledger bytes (tag_kind.Hmac t) = refl
under_bound public ledger bytes (tag_kind.Ed25519 s) = refl

module _ (law : SignedIsVerified) (bytes : List ℕ) where
  -- a signature by a seed verifies under the key that is the seed's
  verified : (message seed public : List ℕ) → public_key seed ≡ public → verifies public message (signature seed message) ≡ true
  verified message seed public e = subst (λ k. verifies k message (signature seed message) ≡ true) e (law seed message)

  -- what is put on some bytes is right on the message that is signed of them
  signed_is_right : (message public : List ℕ) (seeds : Seeds) → is_right_by (key.Public public) message (signed (seed_for seeds public) message bytes) ≡
      is_some (seed_for seeds public)
  signed_is_right message public [] = refl
  signed_is_right message public (seed ∷ seeds) =
      let found : Bool → Option (List ℕ) = λ b. cond b (Some seed) (seed_for seeds public) in
      elim (bytes_eq (public_key seed) public) as (λ b. bytes_eq (public_key seed) public ≡ b → is_right_by (key.Public public) message (signed (found b)
      message bytes) ≡ is_some (found b)) [
        | true ↦ λ is. verified message seed public ((bytes_eq-Decides (public_key seed) public).0 is)
        | false ↦ λ is. signed_is_right message public seeds
      ] refl

  by_key : (seeds : Seeds) (k : OrgKey) → is_right_by k bytes (tag_for seeds (Some k) bytes) ≡ is_at_hand seeds k
  by_key seeds (key.Shared k) = (bytes_eq-Decides (tag k bytes) (tag k bytes)).1 refl
  by_key seeds (key.Public k) = signed_is_right bytes k seeds
  by_key seeds (key.Bound k ledger) =
      let message = tag_message ledger bytes in
      under_bound k ledger bytes (signed (seed_for seeds k) message bytes) ∙ signed_is_right message k seeds

  by_organisation : (seeds : Seeds) (found : Option Organisation) → let k = option_map (λ o. o.key) found in is_tag_of found bytes (tag_for seeds k
      bytes) ≡ option_map_or (is_at_hand seeds) k false
  by_organisation seeds None = refl
  by_organisation seeds (Some o) = by_key seeds o.key

pub sealed_is_right : SignedIsVerified → SealedIsRight
sealed_is_right law listed seeds m org payload = by_organisation law (payload_bytes payload) seeds (find (is_org org) (listed_in listed m).orgs)
