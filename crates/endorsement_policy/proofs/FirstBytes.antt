-- No payload begins with the byte ff, which stands before all else that an organisation signs.
use Rattle.std.proofs.Common.{◌≡◌, ℕ, List, [], ◌∷◌, ◌++◌, length, ap, arith}
use Rattle.fab_types.specs.declared.proposal.Proposal.{Proposal}
use Rattle.fab_types.specs.declared.proposal.Proposal.TheVariants as proposal
use Rattle.fab_types.specs.Spelling.{proposal_bytes}
use Rattle.fab_types.specs.Within.{IsProposal}

abbrev first_byte : List ℕ → ℕ
first_byte [] = 0
first_byte (byte ∷ bytes) = byte

-- the length of a chaincode's name, 0 or 128
pub other_first : (q : Proposal) (bytes result reads ranges writes : List ℕ) → IsProposal q →
    255 ∷ bytes ≡ proposal_bytes q ++ result ++ reads ++ ranges ++ writes → ⊥
other_first (proposal.Call c) bytes result reads ranges writes is same =
    let first : 255 ≡ length c.chaincode = ap first_byte same in
    let short = is.chaincode.1 in
    omega (arith, first, short)
other_first (proposal.Upgrade u) bytes result reads ranges writes is same = (let first : 255 ≡ 0 = ap first_byte same in omega (arith, first))
other_first (proposal.Amend a) bytes result reads ranges writes is same = (let first : 255 ≡ 128 = ap first_byte same in omega (arith, first))
