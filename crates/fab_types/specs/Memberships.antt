-- Memberships: who the organisations are, and where that stands in the state.
use Rattle.std.specs.Prelude.{◌≡◌, ℕ, ◌≤◌, true, List, [], ◌∷◌, length, map}
use Rattle.fab_types.specs.Order.{are_ascending}
use Rattle.fab_types.specs.declared.membership.Member.{Member}

-- 1 to 16 members, each name once and in order
pub record IsMembers (ms : List Member) : Type 0 where
  pub least : 1 ≤ length ms
  pub most : length ms ≤ 16
  pub order : are_ascending (map (λ m. m.name) ms) ≡ true

-- the key of the membership: the byte 0 alone, which is the key of no chaincode's definition
abbrev pub membership_key : List ℕ
membership_key = 0 ∷ []
