-- What an organisation says of the blocks that it has, what it signs of that, and when it is told as a fork.
use Rattle.std.specs.Prelude.{◌≡◌, ◌≢◌, ◌↔◌, ◌⊎◌, ◌<◌, ◌^◌, ℕ, List, ◌∷◌, ◌++◌, Option, Some, None, IsSome, IfSome, IsTrue, Bool, false, ◌&&◌, ◌||◌, not, nat_lt, bytes_eq, codes, length, option_map, [], if◌then◌else◌}
use Rattle.std.specs.Fmt.{decimal}
use Rattle.std.specs.Int.{w32, to_be_bytes}
use Rattle.std.specs.List.{find, position_or_len}
use Rattle.std.specs.Option.{SomeIff}
use Rattle.std.specs.Result.{result_ok}
use Rattle.std.specs.Str.Lossy.{utf8_lossy}
use Rattle.std.specs.Str.Parse.{IsNumeral, digits_value, without_leading_plus}
use Rattle.hex.specs.Hex.{decode_sized}
use Rattle.fab_types.specs.Committed.{Committed}
use Rattle.fab_types.specs.Limits.{IsOrgName}
use Rattle.fab_types.specs.declared.block.Block.{Block}
use Rattle.fab_types.specs.declared.tag.Tag.TheVariants as tag
use Rattle.ledger_model.specs.Chain.{Chain}
use Rattle.org_keys.specs.declared.organisation.Organisation.{Organisation}
use Rattle.org_keys.specs.declared.organisation.OrgKey.{OrgKey}
use Rattle.org_keys.specs.declared.organisation.OrgKey.TheVariants.{Shared, Public, Bound}
use Rattle.endorsement_policy.specs.Endorsed.{Listed, is_org, is_tag_of, key_of}
use Rattle.endorsement_policy.specs.Judge.{orgs_behind}
use Rattle.orderer.specs.Headers.{hash_at}
use Rattle.log_committer.specs.Committing.{block_at, header_hash}
use Rattle.peer_answers.specs.Parts.{behind_first, first_word}
use Rattle.peer_answers.specs.Words.{is_space}
use Rattle.peer_answers.specs.declared.seen.Seen.{Seen}
use Rattle.peer_answers.specs.declared.seen.SignedSeen.{SignedSeen}

-- an organisation says that its block of a number has a header of this hash, and may sign it
pub record Sighting : Type 0 where
  pub org : List ℕ
  pub number : ℕ
  pub hash : List ℕ
  pub signature : Option (List ℕ)

abbrev pub sighting_of : Seen → Sighting
sighting_of s = record { org = s.org.now; number = s.number; hash = s.hash; signature = s.signature }

-- so many bytes in hex; none, where that is no such text
abbrev pub bytes_in : ℕ → List ℕ → Option (List ℕ)
bytes_in count digits = result_ok (decode_sized digits count)

-- what stands behind the hash: nothing, or a space and a signature
abbrev pub signature_in : List ℕ → Option (Option (List ℕ))
signature_in text = if nat_lt (position_or_len is_space text) (length text) then option_map Some (bytes_in 64 (behind_first text)) else Some None

-- the number of 32 bits that digits stand for, if they do
abbrev pub IsNumber : List ℕ → Option ℕ → Type 0
IsNumber digits n =
    let numeral = without_leading_plus digits in SomeIff n (IsNumeral 10 numeral × (digits_value 10 numeral < 2 ^ 32)) (digits_value 10 numeral)

abbrev pub sighting : List ℕ → Option ℕ → Option (List ℕ) → Option (Option (List ℕ)) → Option Sighting
sighting org (Some number) (Some hash) (Some signature) = Some (record { org = org; number = number; hash = hash; signature = signature })
sighting org _ _ _ = None

-- an organisation, a number, the hash in hex and its signature in hex, or none, each behind a space
abbrev pub AreWords : List ℕ → Option Sighting → Type 0
AreWords words said =
    let numbered = behind_first words in let hashed = behind_first numbered in
    (number : Option ℕ) × IsNumber (first_word numbered) number × (said ≡ sighting (first_word words) number (bytes_in 32 (first_word hashed)) (signature_in hashed))

-- a text says so: these words stand behind `seen`
abbrev pub SpellsSeen : List ℕ → Option Sighting → Type 0
SpellsSeen text said = ((first_word text ≢ codes "seen") × (said ≡ None)) ⊎ ((first_word text ≡ codes "seen") × AreWords (behind_first text) said)

-- a signature counts where an organisation can have the name
abbrev pub IsSeen : List ℕ → Option Sighting → Type 0
IsSeen text None = SpellsSeen text None ⊎ ((s : Sighting) × SpellsSeen text (Some s) × IsSome s.signature × ¬ IsOrgName s.org)
IsSeen text (Some s) = SpellsSeen text (Some s) × (IsSome s.signature → IsOrgName s.org)

-- one with a signature
abbrev pub SpellsSigned : List ℕ → Option SignedSeen → Type 0
SpellsSigned text None = (s : Option Sighting) × SpellsSeen text s × IfSome s (λ x. IfSome x.signature (λ _. ¬ IsOrgName x.org))
SpellsSigned text (Some t) =
    IsOrgName t.org × SpellsSeen text (Some (record { org = t.org; number = t.number; hash = t.hash; signature = Some t.signature }))

-- the organisation is listed with a public key
abbrev pub IsPublic : Option OrgKey → Type 0
IsPublic None = ⊥
IsPublic (Some (Shared key)) = ⊥
IsPublic (Some (Public key)) = Unit {0}
IsPublic (Some (Bound key ledger)) = Unit {0}

abbrev pub IsListedPublic : Listed → List ℕ → Type 0
IsListedPublic listed org = IsOrgName org × IsPublic (key_of listed.orgs org)

abbrev pub forked_text : List ℕ → ℕ → List ℕ
forked_text org number = codes "forked " ++ (org ++ (codes " " ++ (decimal number ++ codes "\n")))

-- Without a signature it is told as a fork where the genesis gives the organisation no public key, and the log's chain has another
-- block of the number, or none
abbrev pub IsUnsigned : Listed → List Block → Sighting → List ℕ → Type 0
IsUnsigned listed chain s text =
    (public : Bool) × (known : Bool) × (IsTrue public ↔ IsListedPublic listed s.org) × (IsTrue known ↔ (hash_at chain s.number ≡ Some s.hash))
    × (text ≡ (if public || known then [] else forked_text s.org s.number))

-- what is signed: the byte ff, with which no payload begins, and the word; the SHA-256 of the genesis file; the block's number in four bytes, and the
-- hash of its header
abbrev pub seen_bytes : List ℕ → ℕ → List ℕ → List ℕ
seen_bytes genesis number hash = 255 ∷ (codes "seen " ++ genesis ++ to_be_bytes w32 number ++ hash)

-- the organisation is one of these, with a public key, and the signature is right under it
abbrev pub is_signed : List Organisation → List ℕ → SignedSeen → Bool
is_signed orgs genesis s = is_tag_of (find (is_org s.org) orgs) (seen_bytes genesis s.number s.hash) (tag.Ed25519 s.signature)

-- a block is there, and its header has this hash
abbrev pub has_hash : List ℕ → Option Committed → Bool
has_hash hash None = false
has_hash hash (Some own) = bytes_eq (header_hash own.block) hash

-- it is told as a fork: the chain has another block at the number, or none, and it is signed by who stands behind the chain
abbrev pub is_fork : Listed → List ℕ → Chain → SignedSeen → Bool
is_fork r genesis chain s = not (has_hash s.hash (block_at chain s.number)) && is_signed (orgs_behind r chain) genesis s

-- so it is told, by the lossy text of the name
abbrev pub fork_text : SignedSeen → Bool → List ℕ
fork_text s fork = if fork then forked_text (utf8_lossy s.org) s.number else []

abbrev pub TellsSigned : Listed → List ℕ → Chain → Option SignedSeen → List ℕ → Type 0
TellsSigned listed digest chain None text = text ≡ []
TellsSigned listed digest chain (Some s) text = text ≡ fork_text s (is_fork listed digest chain s)

abbrev pub TellsFork : Listed → List ℕ → Chain → List ℕ → List ℕ → Type 0
TellsFork listed digest chain said text = (seen : Option SignedSeen) × SpellsSigned said seen × TellsSigned listed digest chain seen text
