-- The length of each value's spelling is its size, and how much that is at most.
use Rattle.std.proofs.Common.{◌≡◌, ℕ, ◌+◌, ◌*◌, ◌≤◌, ◌++◌, List, [], ◌∷◌, length, get_or, Option, Some, None, IfSome, refl, sym}
use Rattle.std.proofs.Common.{◌∙◌, arith}
use Rattle.std.specs.List.{flat_map, sum_by, AllByRecursion}
use Rattle.std.specs.Int.{w16, w32, to_be_bytes}
use Rattle.std.proofs.lemmas.List.{length-append}
use Rattle.std.proofs.lemmas.List.Elements.{All-from_recursion}
use Rattle.std.proofs.lemmas.List.Sums.{sum_by-cons, sum_by-le}
use Rattle.fab_types.specs.Limits.{IsValue}
use Rattle.fab_types.specs.Sets.{Range}
use Rattle.fab_types.specs.Version.{Version}
use Rattle.fab_types.specs.Size.{call_size, definition_size, member_key_size, member_size, membership_size, upgrade_size, amend_size, proposal_size}
use Rattle.fab_types.specs.Size.{optional_version_size, optional_value_size, read_size, entry_size, range_size, write_size, payload_size}
use Rattle.fab_types.specs.Size.{short_size, endorsement_size, envelope_size}
use Rattle.fab_types.specs.Tags.{IsTag, tag_size}
use Rattle.fab_types.specs.declared.tag.Tag.{Tag}
use Rattle.fab_types.specs.declared.tag.Tag.TheVariants as tag
use Rattle.fab_types.specs.declared.items.ReadItem.{ReadItem}
use Rattle.fab_types.specs.declared.items.RangeEntry.{RangeEntry}
use Rattle.fab_types.specs.declared.items.WriteItem.{WriteItem}
use Rattle.fab_types.specs.declared.definition.Definition.{Definition}
use Rattle.fab_types.specs.declared.proposal.Call.{Call}
use Rattle.fab_types.specs.declared.proposal.Upgrade.{Upgrade}
use Rattle.fab_types.specs.declared.proposal.Amend.{Amend}
use Rattle.fab_types.specs.declared.membership.MemberKey.{MemberKey}
use Rattle.fab_types.specs.declared.membership.MemberKey.TheVariants.{Kept, Public}
use Rattle.fab_types.specs.declared.membership.Member.{Member}
use Rattle.fab_types.specs.declared.membership.Membership.{Membership}
use Rattle.fab_types.specs.declared.proposal.Proposal.{Proposal}
use Rattle.fab_types.specs.declared.proposal.Proposal.TheVariants as proposal
use Rattle.fab_types.specs.Payloads.{Payload}
use Rattle.fab_types.specs.declared.envelope.Endorsement.{Endorsement}
use Rattle.fab_types.specs.declared.envelope.Envelope.{Envelope}
use Rattle.fab_types.specs.Spelling.{short_bytes, long_bytes, version_bytes, optional_bytes, few_bytes, many_bytes, read_bytes, entry_bytes, range_bytes}
use Rattle.fab_types.specs.Spelling.{write_bytes, form_of, definition_bytes, member_key_bytes, member_bytes, membership_bytes, call_bytes, upgrade_bytes}
use Rattle.fab_types.specs.Spelling.{amend_bytes, proposal_bytes, payload_bytes}
use Rattle.fab_types.specs.BlockSpelling.{tagged_bytes, endorsement_bytes, envelope_bytes}
use Rattle.fab_types.specs.Within.{IsReadItem, IsEntry, IsWriteItem, IsRangeItem, IsDefinition, IsMemberKey, IsMember, IsMembership, IsCall, IsUpgrade, IsAmend}
use Rattle.fab_types.specs.Within.{IsProposal, IsPayload}
use Rattle.fab_types.specs.BlockWithin.{IsEndorsement, IsEnvelope}

pub two_lengths : (a b : List ℕ) (i j : ℕ) → length a ≡ i → length b ≡ j → length (a ++ b) ≡ i + j
two_lengths a b i j h k = omega (arith, length-append a b, h, k)

-- items one after another, each of the length that is told
lengths : {A : Type 0} (Known : A → Type 0) (spelling : A → List ℕ) (size : A → ℕ) → ((x : A) → Known x → length (spelling x) ≡ size x) → (xs : List A) →
    AllByRecursion Known xs → length (flat_map spelling xs) ≡ sum_by size xs
lengths Known spelling size each [] k = refl
lengths Known spelling size each (x ∷ xs) k =
    two_lengths (spelling x) (flat_map spelling xs) (size x) (sum_by size xs) (each x k.0) (lengths Known spelling size each xs k.1) ∙
    sym (sum_by-cons size x xs)

abbrev Whatever : {A : Type 0} → A → Type 0
Whatever x = Unit {0}

anything : {A : Type 0} (xs : List A) → AllByRecursion Whatever xs
anything [] = tt
anything (x ∷ xs) = (tt, anything xs)

many_length : {A : Type 0} (spelling : A → List ℕ) (size : A → ℕ) → ((x : A) → length (spelling x) ≡ size x) → (xs : List A) →
    length (many_bytes spelling xs) ≡ 2 + sum_by size xs
many_length spelling size each xs =
    let more = lengths Whatever spelling size (λ x _. each x) xs (anything xs) in
    omega (arith, length-append (to_be_bytes w16 (length xs)) (flat_map spelling xs), more)

few_length : {A : Type 0} (Known : A → Type 0) (spelling : A → List ℕ) (size : A → ℕ) → ((x : A) → Known x → length (spelling x) ≡ size x) → (xs : List A) →
    AllByRecursion Known xs → length (few_bytes spelling xs) ≡ 1 + sum_by size xs
few_length Known spelling size each xs k = let more = lengths Known spelling size each xs k in omega (arith, more)

version_length : (v : Option Version) → length (optional_bytes version_bytes v) ≡ optional_version_size v
version_length None = refl
version_length (Some v) = refl

read_length : (r : ReadItem) → length (read_bytes r) ≡ read_size r
read_length r = omega (arith, length-append (short_bytes r.key) (optional_bytes version_bytes r.version), version_length r.version)

entry_length : (e : RangeEntry) → length (entry_bytes e) ≡ entry_size e
entry_length e = omega (arith, length-append (short_bytes e.key) (version_bytes e.version))

range_length : (r : Range) → length (range_bytes r) ≡ range_size r
range_length r =
    let es = few_length Whatever entry_bytes entry_size (λ e _. entry_length e) r.entries (anything r.entries) in
    omega (
      arith,
      length-append (short_bytes r.start ++ short_bytes r.end) (r.limit ∷ few_bytes entry_bytes r.entries),
      length-append (short_bytes r.start) (short_bytes r.end),
      es,
    )

value_length : (v : Option (List ℕ)) → length (optional_bytes long_bytes v) ≡ optional_value_size v
value_length None = refl
value_length (Some v) = omega (arith, length-append (to_be_bytes w16 (length v)) v)

write_length : (w : WriteItem) → length (write_bytes w) ≡ write_size w
write_length w = omega (arith, length-append (short_bytes w.key) (optional_bytes long_bytes w.value), value_length w.value)

call_length : (c : Call) → IsCall c → length (call_bytes c) ≡ call_size c
call_length c k =
    let nonce = k.nonce in
    omega (
      arith,
      length-append (short_bytes c.chaincode ++ long_bytes c.argument) c.nonce,
      length-append (short_bytes c.chaincode) (long_bytes c.argument),
      length-append (to_be_bytes w16 (length c.argument)) c.argument,
      nonce,
    )

definition_length : (d : Definition) → IsDefinition d → length (definition_bytes d) ≡ definition_size d
definition_length d k =
    let digest = k.digest in
    omega (
      arith,
      length-append ((form_of d ∷ []) ++ d.digest ++ to_be_bytes w32 d.fuel) (long_bytes d.policy),
      length-append ((form_of d ∷ []) ++ d.digest) (to_be_bytes w32 d.fuel),
      length-append (to_be_bytes w16 (length d.policy)) d.policy,
      digest,
    )

upgrade_length : (u : Upgrade) → IsUpgrade u → length (upgrade_bytes u) ≡ upgrade_size u
upgrade_length u k =
    let definition = definition_length u.definition k.definition in
    let nonce = k.nonce in
    omega (
      arith,
      length-append (short_bytes u.chaincode ++ definition_bytes u.definition) u.nonce,
      length-append (short_bytes u.chaincode) (definition_bytes u.definition),
      definition,
      nonce,
    )

member_key_length : (k : MemberKey) → IsMemberKey k → length (member_key_bytes k) ≡ member_key_size k
member_key_length Kept h = refl
member_key_length (Public bytes) h = omega (arith, h)

member_length : (m : Member) → IsMember m → length (member_bytes m) ≡ member_size m
member_length m k =
    let key = member_key_length m.key k.key in
    omega (arith, length-append (short_bytes m.name) (member_key_bytes m.key), key)

membership_length : (s : Membership) → IsMembership s → length (membership_bytes s) ≡ membership_size s
membership_length s k =
    let members = few_length IsMember member_bytes member_size member_length s.members k.each_member in
    omega (
      arith,
      length-append ((1 ∷ []) ++ to_be_bytes w32 s.serial ++ few_bytes member_bytes s.members) (long_bytes s.policy),
      length-append ((1 ∷ []) ++ to_be_bytes w32 s.serial) (few_bytes member_bytes s.members),
      length-append (to_be_bytes w16 (length s.policy)) s.policy,
      members,
    )

amend_length : (a : Amend) → IsAmend a → length (amend_bytes a) ≡ amend_size a
amend_length a k =
    two_lengths (membership_bytes a.membership) a.nonce (membership_size a.membership) 16 (membership_length a.membership k.membership) k.nonce

proposal_length : (p : Proposal) → IsProposal p → length (proposal_bytes p) ≡ proposal_size p
proposal_length (proposal.Call c) k = call_length c k
proposal_length (proposal.Upgrade u) k = let upgrade = upgrade_length u k in omega (arith, upgrade)
proposal_length (proposal.Amend a) k = let amend = amend_length a k in omega (arith, amend)

five_lengths : (a b c d e : List ℕ) (i j k l m : ℕ) → length a ≡ i → length b ≡ j → length c ≡ k → length d ≡ l → length e ≡ m →
    length (a ++ b ++ c ++ d ++ e) ≡ i + j + k + l + m
five_lengths a b c d e i j k l m p q r s t =
    omega (arith, length-append (a ++ b ++ c ++ d) e, length-append (a ++ b ++ c) d, length-append (a ++ b) c, length-append a b, p, q, r, s, t)

pub payload_length : (p : Payload) → IsPayload p → length (payload_bytes p) ≡ payload_size p
payload_length p k =
    let proposal = proposal_length p.proposal k.proposal in
    let reads = many_length read_bytes read_size read_length p.reads in
    let ranges = many_length range_bytes range_size range_length p.ranges in
    let writes = many_length write_bytes write_size write_length p.writes in
    let a = proposal_bytes p.proposal in
    let b = long_bytes p.result in
    let c = many_bytes read_bytes p.reads in
    let d = many_bytes range_bytes p.ranges in
    let e = many_bytes write_bytes p.writes in
    five_lengths a b c d e (proposal_size p.proposal) (2 + length p.result) (2 + sum_by read_size p.reads) (2 + sum_by range_size p.ranges)
    (2 + sum_by write_size p.writes) proposal (omega (arith, length-append (to_be_bytes w16 (length p.result)) p.result)) reads ranges writes ∙ omega arith

tagged_length : (org : List ℕ) (t : Tag) → IsTag t → length (tagged_bytes org t) ≡ short_size org + tag_size t
tagged_length org (tag.Hmac bytes) k = omega (arith, length-append (short_bytes org) bytes, k)
tagged_length org (tag.Ed25519 bytes) k = omega (arith, length-append (short_bytes org) bytes, k)

endorsement_length : (e : Endorsement) → IsEndorsement e → length (endorsement_bytes e) ≡ endorsement_size e
endorsement_length e k = tagged_length e.org e.tag k.tag

pub envelope_length : (e : Envelope) → IsEnvelope e → length (envelope_bytes e) ≡ envelope_size e
envelope_length e k =
    let payload = payload_length e.payload k.payload in
    let rest = few_length IsEndorsement endorsement_bytes endorsement_size endorsement_length e.endorsements k.each_endorsement in
    omega (arith, length-append (payload_bytes e.payload) (few_bytes endorsement_bytes e.endorsements), payload, rest)

-- ---- how long at most

sum_most : {A : Type 0} (Known : A → Type 0) (size : A → ℕ) (most : ℕ) → ((x : A) → Known x → size x ≤ most) → (xs : List A) →
    AllByRecursion Known xs → sum_by size xs ≤ length xs * most
sum_most Known size most each xs k = sum_by-le size most xs (λ i d h. each (get_or xs i d) (All-from_recursion Known xs k i d h))

call_most : (c : Call) → IsCall c → call_size c ≤ 4147
call_most c k = omega (arith, k.chaincode.1, k.argument)

definition_most : (d : Definition) → IsDefinition d → definition_size d ≤ 1063
definition_most d k = omega (arith, k.policy.1)

upgrade_most : (u : Upgrade) → IsUpgrade u → upgrade_size u ≤ 1112
upgrade_most u k = omega (arith, k.chaincode.1, definition_most u.definition k.definition)

member_key_most : (k : MemberKey) → member_key_size k ≤ 33
member_key_most Kept = omega arith
member_key_most (Public bytes) = omega arith

member_most : (m : Member) → IsMember m → member_size m ≤ 66
member_most m k = omega (arith, k.name.1, member_key_most m.key)

membership_most : (s : Membership) → IsMembership s → membership_size s ≤ 2088
membership_most s k = omega (arith, sum_most IsMember member_size 66 member_most s.members k.each_member, k.members.most, k.policy.1)

proposal_most : (p : Proposal) → IsProposal p → proposal_size p ≤ 4147
proposal_most (proposal.Call c) k = call_most c k
proposal_most (proposal.Upgrade u) k = omega (arith, upgrade_most u k)
proposal_most (proposal.Amend a) k = omega (arith, membership_most a.membership k.membership)

version_most : (v : Option Version) → optional_version_size v ≤ 9
version_most None = omega arith
version_most (Some v) = omega arith

read_most : (r : ReadItem) → IsReadItem r → read_size r ≤ 74
read_most r k = omega (arith, k.key.1, version_most r.version)

entry_most : (e : RangeEntry) → IsEntry e → entry_size e ≤ 73
entry_most e k = omega (arith, k.key.1)

range_most : (r : Range) → IsRangeItem r → range_size r ≤ 4804
range_most r k = omega (arith, k.start, k.end, sum_most IsEntry entry_size 73 entry_most r.entries k.entries, k.range.count, k.range.greatest)

value_most : (v : Option (List ℕ)) → IfSome v IsValue → optional_value_size v ≤ 4099
value_most None k = omega arith
value_most (Some v) k = omega (arith, k)

write_most : (w : WriteItem) → IsWriteItem w → write_size w ≤ 4164
write_most w k = omega (arith, k.key.1, value_most w.value k.value)

pub payload_most : (p : Payload) → IsPayload p → payload_size p ≤ 370629
payload_most p k =
    omega (
      arith,
      proposal_most p.proposal k.proposal,
      k.result,
      sum_most IsReadItem read_size 74 read_most p.reads k.each_read,
      k.reads.count,
      sum_most IsRangeItem range_size 4804 range_most p.ranges k.each_range,
      k.ranges,
      sum_most IsWriteItem write_size 4164 write_most p.writes k.each_write,
      k.writes.count,
    )
