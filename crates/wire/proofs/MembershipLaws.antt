-- Memberships are read from their spelling alone.
use Rattle.std.proofs.Common.{◌≡◌, ℕ, ◌≤◌, ◌<◌, ◌^◌, ◌++◌, ◌∷◌, [], true, List, length, map, Option, Some, None, refl}
use Rattle.std.specs.Prelude.{IfSome}
use Rattle.std.specs.List.{flat_map, list_all, AllByRecursion}
use Rattle.std.specs.Int.{w32, to_be_bytes}
use Rattle.grammar.specs.Reading.{byte_at, made_at, counted_at}
use Rattle.fab_types.specs.Limits.{IsOrgName, IsPolicyText, is_org_name_byte}
use Rattle.fab_types.specs.Order.{are_ascending}
use Rattle.fab_types.specs.Memberships.{IsMembers}
use Rattle.fab_types.specs.declared.membership.MemberKey.{MemberKey}
use Rattle.fab_types.specs.declared.membership.MemberKey.TheVariants.{Kept, Public}
use Rattle.fab_types.specs.declared.membership.Member.{Member}
use Rattle.fab_types.specs.declared.membership.Membership.{Membership}
use Rattle.fab_types.specs.Spelling.{short_bytes, long_bytes, optional_bytes, few_bytes, member_key_bytes, member_bytes, membership_bytes}
use Rattle.fab_types.specs.Within.{IsMemberKey, IsMember, IsMembership}
use Rattle.wire.specs.Reading.{pair_at, front_and_rest, number_at, between_at, short_at, optional_at, org_name_at, policy_text_at}
use Rattle.wire.specs.Reading.{key_of, member_key_at, member_at, members_at, membership_at}
use Rattle.wire.proofs.Codec.{Codec, respelled, checked, pair, made, behind, optional, counted}
use Rattle.wire.proofs.Measured.{fixed, number32, between, short}
use Rattle.wire.proofs.DefinitionLaws.{four, policy_text}

pub org_name : Codec IsOrgName short_bytes org_name_at
unfolding org_name_at
org_name =
    let Short = λ (t : List ℕ). (1 ≤ length t) × (length t ≤ 32) in
    respelled (λ t. Short t × (list_all is_org_name_byte t ≡ true)) IsOrgName short_bytes short_bytes org_name_at (λ t k. (k.0.0, k.0.1, k.1))
    (λ t k. ((k.0, k.1), k.2)) (λ t. refl)
    (checked (list_all is_org_name_byte) Short short_bytes (short_at 1 32) (short 1 32))

-- ---- members

abbrev Key : List ℕ → Type 0
Key t = length t ≡ 32

abbrev of_key : MemberKey → Option (List ℕ)
of_key Kept = None
of_key (Public bytes) = Some bytes

of_key_of : (o : Option (List ℕ)) → of_key (key_of o) ≡ o
of_key_of None = refl
of_key_of (Some bytes) = refl

key_of_key : (k : MemberKey) → key_of (of_key k) ≡ k
key_of_key Kept = refl
key_of_key (Public bytes) = refl

key_is : (k : MemberKey) → IfSome (of_key k) Key → IsMemberKey k
key_is Kept h = tt
key_is (Public bytes) h = h

is_key : (k : MemberKey) → IsMemberKey k → IfSome (of_key k) Key
is_key Kept h = tt
is_key (Public bytes) h = h

key_spelled : (k : MemberKey) → optional_bytes (λ t. t) (of_key k) ≡ member_key_bytes k
key_spelled Kept = refl
key_spelled (Public bytes) = refl

member_key : Codec IsMemberKey member_key_bytes member_key_at
unfolding member_key_at
member_key =
    respelled (λ k. IfSome (of_key k) Key) IsMemberKey (λ k. optional_bytes (λ t. t) (of_key k)) member_key_bytes member_key_at key_is is_key key_spelled
    (made key_of of_key (λ o. IfSome o Key) (optional_bytes (λ t. t)) (optional_at (front_and_rest 32)) of_key_of key_of_key
    (optional Key (λ t. t) (front_and_rest 32) (fixed 32)))

abbrev member_parts : Member → List ℕ × MemberKey
member_parts m = (m.name, m.key)

member : Codec IsMember member_bytes member_at
unfolding member_at
member =
    let Known = λ (p : List ℕ × MemberKey). IsOrgName p.0 × IsMemberKey p.1 in
    let spelling = λ (p : List ℕ × MemberKey). short_bytes p.0 ++ member_key_bytes p.1 in
    respelled (λ m. Known (member_parts m)) IsMember (λ m. spelling (member_parts m)) member_bytes member_at
    (λ m k. record { name = k.0; key = k.1 }) (λ m k. (k.name, k.key)) (λ m. refl)
    (made (λ p. let made : Member = record { name = p.0; key = p.1 } in made) member_parts Known spelling (pair_at org_name_at (λ _. member_key_at))
    (λ p. refl) (λ m. refl)
    (pair IsOrgName short_bytes org_name_at (λ _. IsMemberKey) member_key_bytes (λ _. member_key_at) org_name (λ _. member_key)))

abbrev Members : List Member → Type 0
Members ms = IsMembers ms × AllByRecursion IsMember ms

members : Codec Members (few_bytes member_bytes) members_at
unfolding members_at
members =
    let test = λ (ms : List Member). are_ascending (map (λ m. m.name) ms) in
    let Count = λ (n : ℕ). (1 ≤ n) × (n ≤ 16) in
    let Known = λ (ms : List Member). Count (length ms) × (length ms ≤ 16) × AllByRecursion IsMember ms in
    let spelling = λ (ms : List Member). (length ms ∷ []) ++ flat_map member_bytes ms in
    respelled (λ ms. Known ms × (test ms ≡ true)) Members spelling (few_bytes member_bytes) members_at
    (λ ms k. (record { least = k.0.0.0; most = k.0.0.1; order = k.1 }, k.0.2))
    (λ ms k. (((k.0.least, k.0.most), k.0.most, k.1), k.0.order)) (λ ms. refl)
    (checked test Known spelling (counted_at (between_at 1 16 byte_at) 16 member_at)
    (counted IsMember member_bytes member_at member Count (λ n. n ∷ []) (between_at 1 16 byte_at) (between 1 16) 16))

-- ---- memberships

abbrev Serial : ℕ → Type 0
Serial n = n < 2 ^ 32

abbrev membership_parts : Membership → ℕ × (List Member × List ℕ)
membership_parts s = (s.serial, (s.members, s.policy))

pub membership : Codec IsMembership membership_bytes membership_at
unfolding membership_at
membership =
    let members_and_policy = λ (p : List Member × List ℕ). Members p.0 × IsPolicyText p.1 in
    let members_and_policy_bytes = λ (p : List Member × List ℕ). few_bytes member_bytes p.0 ++ long_bytes p.1 in
    let Known = λ (p : ℕ × (List Member × List ℕ)). Serial p.0 × members_and_policy p.1 in
    let spelling = λ (p : ℕ × (List Member × List ℕ)). to_be_bytes w32 p.0 ++ members_and_policy_bytes p.1 in
    let read = pair_at (number_at w32) (λ _. pair_at members_at (λ _. policy_text_at)) in
    let make = λ (p : ℕ × (List Member × List ℕ)). let made : Membership = record { serial = p.0; members = p.1.0; policy = p.1.1 } in made in
    respelled (λ s. Known (membership_parts s)) IsMembership (λ s. 1 ∷ spelling (membership_parts s)) membership_bytes membership_at
    (λ s k. record { serial = k.0; members = k.1.0.0; each_member = k.1.0.1; policy = k.1.1 })
    (λ s k. (k.serial, ((k.members, k.each_member), k.policy)))
    (λ s. four (1 ∷ []) (to_be_bytes w32 s.serial) (few_bytes member_bytes s.members) (long_bytes s.policy))
    (behind 1 (λ s. Known (membership_parts s)) (λ s. spelling (membership_parts s)) (made_at make read)
    (made make membership_parts Known spelling read (λ p. refl) (λ s. refl)
    (pair Serial (to_be_bytes w32) (number_at w32) (λ _. members_and_policy) members_and_policy_bytes (λ _. pair_at members_at (λ _. policy_text_at)) number32
    (λ _. pair Members (few_bytes member_bytes) members_at (λ _. IsPolicyText) long_bytes (λ _. policy_text_at) members (λ _. policy_text)))))
