-- A signature that is right in a ledger of rules 2 is right in no other, but where it verifies for two messages that differ.
use Rattle.std.proofs.Common.{◌≡◌, ◌≢◌, ℕ, List, ◌∷◌, ◌++◌, true, false, length, take, drop, codes, sym, ap, subst, ◌∙◌, arith}
use Rattle.std.proofs.lemmas.List.{take_all, take-append-le}
use Rattle.std.proofs.lemmas.Slice.Eq.{bytes_eq-Decides}
use Rattle.fab_types.specs.declared.edition.Edition.{Edition}
use Rattle.fab_types.specs.declared.edition.Edition.TheVariants.{First, Second}
use Rattle.fab_types.specs.declared.tag.Tag.TheVariants as tag
use Rattle.ed25519.specs.Signing.{verifies}
use Rattle.org_keys.specs.Keys.{is_right_by, tag_message}
use Rattle.org_keys.specs.Ledgers.{VerifiesTwice, is_key_of}
use Rattle.org_keys.specs.declared.organisation.OrgKey.{OrgKey}
use Rattle.org_keys.specs.declared.organisation.OrgKey.TheVariants as key

-- a public key under which the signature verifies for a message
abbrev Verified : (message signature : List ℕ) → Type 0
Verified message signature = (point : List ℕ) × (verifies point message signature ≡ true)

bound_right : (ledger : List ℕ) (k : OrgKey) (bytes signature : List ℕ) → is_key_of Second ledger k ≡ true →
    is_right_by k bytes (tag.Ed25519 signature) ≡ true → Verified (tag_message ledger bytes) signature
bound_right ledger (key.Shared k) bytes signature of right = absurd (let wrong : false ≡ true = right in cc)
bound_right ledger (key.Public k) bytes signature of right = absurd (let wrong : false ≡ true = of in cc)
bound_right ledger (key.Bound k other) bytes signature of right =
    (k, subst (λ (l : List ℕ). verifies k (tag_message l bytes) signature ≡ true) ((bytes_eq-Decides other ledger).0 of) right)

unbound_right : (ledger : List ℕ) (k : OrgKey) (bytes signature : List ℕ) → is_key_of First ledger k ≡ true →
    is_right_by k bytes (tag.Ed25519 signature) ≡ true → Verified bytes signature
unbound_right ledger (key.Shared k) bytes signature of right = absurd (let wrong : false ≡ true = right in cc)
unbound_right ledger (key.Public k) bytes signature of right = (k, right)
unbound_right ledger (key.Bound k other) bytes signature of right = absurd (let wrong : false ≡ true = of in cc)

-- ---- the messages differ

begins : (xs ys : List ℕ) → length xs ≡ 32 → take 32 (xs ++ ys) ≡ xs
begins xs ys h = take-append-le 32 xs ys (omega arith) ∙ take_all 32 xs (omega arith)

of_two_ledgers : (one other first second : List ℕ) → length one ≡ 32 → length other ≡ 32 → one ≢ other →
    tag_message one first ≢ tag_message other second
of_two_ledgers one other first second h g apart same =
    let behind : one ++ first ≡ other ++ second = ap (drop 5) same in
    apart (sym (begins one first h) ∙ ap (take 32) behind ∙ begins other second g)

of_no_ledger : (ledger first second : List ℕ) → ((rest : List ℕ) → second ≢ 255 ∷ rest) → tag_message ledger first ≢ second
of_no_ledger ledger first second other same = other ((codes "tag " ++ ledger) ++ first) (sym same)

-- ---- under the keys of two ledgers

twice : (one other signature : List ℕ) → Verified one signature → Verified other signature → one ≢ other → VerifiesTwice signature
twice one other signature h k apart =
    record { point = h.0; other_point = k.0; message = one; other = other; differ = apart; right = h.1; right_too = k.1 }

-- the second ledger may be one of rules 1, where its bytes do not begin with ff
pub of_one_ledger : (edition : Edition) (one other : List ℕ) (a b : OrgKey) (first second signature : List ℕ) → length one ≡ 32 → length other ≡ 32 →
    one ≢ other → ((rest : List ℕ) → second ≢ 255 ∷ rest) → is_key_of Second one a ≡ true → is_key_of edition other b ≡ true →
    is_right_by a first (tag.Ed25519 signature) ≡ true → is_right_by b second (tag.Ed25519 signature) ≡ true → VerifiesTwice signature
of_one_ledger First one other a b first second signature h g apart plain of of_other right right_too =
    twice (tag_message one first) second signature (bound_right one a first signature of right) (unbound_right other b second signature of_other right_too)
    (of_no_ledger one first second plain)
of_one_ledger Second one other a b first second signature h g apart plain of of_other right right_too =
    twice (tag_message one first) (tag_message other second) signature (bound_right one a first signature of right)
    (bound_right other b second signature of_other right_too) (of_two_ledgers one other first second h g apart)
