-- What proposals have in common, and which key of the state each is about.
use Rattle.std.specs.Prelude.{ℕ, List, ◌∷◌}
use Rattle.fab_types.specs.Memberships.{membership_key}
use Rattle.fab_types.specs.declared.proposal.Proposal.{Proposal}
use Rattle.fab_types.specs.declared.proposal.Proposal.TheVariants as proposal

-- what tells two proposals of the same apart
abbrev pub nonce_of : Proposal → List ℕ
nonce_of (proposal.Call c) = c.nonce
nonce_of (proposal.Upgrade u) = u.nonce
nonce_of (proposal.Amend a) = a.nonce

-- the key of a chaincode's definition: the byte 0 and its name
abbrev pub definition_key : List ℕ → List ℕ
definition_key name = 0 ∷ name

-- the key that a proposal's own payload has to read: that of the chaincode's definition, or that of the membership
abbrev pub own_key : Proposal → List ℕ
own_key (proposal.Call c) = definition_key c.chaincode
own_key (proposal.Upgrade u) = definition_key u.chaincode
own_key (proposal.Amend a) = membership_key
