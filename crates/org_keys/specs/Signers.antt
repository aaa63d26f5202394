-- The seeds at hand, and what is put on some bytes by them.
use Rattle.std.specs.Prelude.{ℕ, List, [], Option, Some, None, is_some, Bool, true, bytes_eq}
use Rattle.std.specs.List.{find}
use Rattle.fab_types.specs.declared.tag.Tag.{Tag}
use Rattle.fab_types.specs.declared.tag.Tag.TheVariants as tag
use Rattle.hmac_tag.specs.Tag.{tag as hmac}
use Rattle.ed25519.specs.Signing.{public_key, signature}
use Rattle.org_keys.specs.Keys.{tag_message}
use Rattle.org_keys.specs.declared.organisation.OrgKey.{OrgKey}
use Rattle.org_keys.specs.declared.organisation.OrgKey.TheVariants as key

abbrev pub Seeds : Type 0
Seeds = List (List ℕ)

-- the first seed at hand whose public key this is
abbrev pub seed_for : Seeds → List ℕ → Option (List ℕ)
seed_for seeds public = find (λ s. bytes_eq (public_key s) public) seeds

-- a shared key is; a public one where its seed is, bound or not
abbrev pub is_at_hand : Seeds → OrgKey → Bool
is_at_hand seeds (key.Shared k) = true
is_at_hand seeds (key.Public k) = is_some (seed_for seeds k)
is_at_hand seeds (key.Bound k ledger) = is_some (seed_for seeds k)

-- what is put where there is no key or no seed: it is nobody's
abbrev pub nobodys : List ℕ → Tag
nobodys bytes = tag.Hmac (hmac [] bytes)

-- the signature by a seed (RFC 8032, section 5.1.6) of the message that is signed of some bytes
abbrev pub signed : Option (List ℕ) → (message bytes : List ℕ) → Tag
signed None message bytes = nobodys bytes
signed (Some seed) message bytes = tag.Ed25519 (signature seed message)

-- what is put on some bytes for who has this key
abbrev pub tag_for : Seeds → Option OrgKey → List ℕ → Tag
tag_for seeds None bytes = nobodys bytes
tag_for seeds (Some (key.Shared k)) bytes = tag.Hmac (hmac k bytes)
tag_for seeds (Some (key.Public k)) bytes = signed (seed_for seeds k) bytes bytes
tag_for seeds (Some (key.Bound k ledger)) bytes = signed (seed_for seeds k) (tag_message ledger bytes) bytes
