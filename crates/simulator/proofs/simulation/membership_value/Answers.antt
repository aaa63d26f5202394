use Rattle.std.proofs.Common.{ℕ, ◌+◌, ◌*◌, ◌≤◌, ◌++◌, List, [], ◌∷◌, length, ap, arith}
use Rattle.std.specs.List.{flat_map, AllByRecursion}
use Rattle.std.specs.Int.{w16, w32, to_be_bytes}
use Rattle.std.proofs.lemmas.List.{length-append}
use Rattle.fab_types.specs.declared.membership.MemberKey.{MemberKey}
use Rattle.fab_types.specs.declared.membership.MemberKey.TheVariants.{Kept, Public}
use Rattle.fab_types.specs.declared.membership.Member.{Member}
use Rattle.fab_types.specs.declared.membership.Membership.{Membership}
use Rattle.fab_types.specs.Spelling.{short_bytes, long_bytes, few_bytes, member_key_bytes, member_bytes, membership_bytes}
use Rattle.fab_types.specs.Within.{IsMemberKey, IsMember, IsMembership}
use Rattle.simulator.proofs.simulation.membership_value.Goals as goal

key_most : (k : MemberKey) → IsMemberKey k → length (member_key_bytes k) ≤ 33
key_most Kept h = omega arith
key_most (Public bytes) h = omega (arith, h)

-- a member has at most 66 bytes
member_most : (m : Member) → IsMember m → length (member_bytes m) ≤ 66
member_most m k =
    let name = k.name.1 in
    let key = key_most m.key k.key in
    omega (arith, length-append (short_bytes m.name) (member_key_bytes m.key), name, key)

two_most : (a b : List ℕ) (count : ℕ) → length a ≤ 66 → length b ≤ 66 * count → length (a ++ b) ≤ 66 * (count + 1)
two_most a b count h k = omega (arith, length-append a b, h, k)

members_most : (ms : List Member) → AllByRecursion IsMember ms → length (flat_map member_bytes ms) ≤ 66 * length ms
members_most [] k = omega arith
members_most (m ∷ ms) k =
    let all = two_most (member_bytes m) (flat_map member_bytes ms) (length ms) (member_most m k.0) (members_most ms k.1) in omega (arith, all)

-- 16 members and a text of 1,024 bytes
membership_most : (s : Membership) → IsMembership s → length (membership_bytes s) ≤ 2088
membership_most s k =
    let members = members_most s.members k.each_member in
    let count = k.members.most in
    let policy = k.policy.1 in
    omega (
      arith,
      length-append ((1 ∷ []) ++ to_be_bytes w32 s.serial ++ few_bytes member_bytes s.members) (long_bytes s.policy),
      length-append ((1 ∷ []) ++ to_be_bytes w32 s.serial) (few_bytes member_bytes s.members),
      length-append (to_be_bytes w16 (length s.policy)) s.policy,
      members,
      count,
      policy,
    )

pub unwrap-requires : goal.unwrap-requires
unwrap-requires c =
    let most = membership_most c.args.amend.now.membership c.in_ok-bytes.ensures.within in
    c.new.ensures.accepted.1 (omega (arith, ap length c.in_ok-bytes.ensures.spelled, most))
