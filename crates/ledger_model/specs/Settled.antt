-- What rules 2 give: of the VALID transactions of a block none read what one before it wrote.
use Rattle.std.specs.Prelude.{◌≡◌, List, [], ◌∷◌, ◌++◌, Bool, false}
use Rattle.std.specs.List.{AllByRecursion, list_any}
use Rattle.fab_types.specs.Payloads.{Payload}
use Rattle.fab_types.specs.Touched.{has_read}
use Rattle.ledger_model.specs.Chain.{Chain, Placed, Valid, history}
use Rattle.ledger_model.specs.Judged.{IsCurrent, block_of}

-- it read a key that the other one wrote
abbrev pub reads_write_of : Payload → Payload → Bool
reads_write_of p other = list_any (λ w. has_read p w.key) other.writes

-- what it read, ranges too, is as it was before the block, and of its block so far no VALID transaction wrote a key that it read
pub record IsSettled (before so_far : List Placed) (p : Payload) : Type 0 where
  pub current : IsCurrent before p
  pub unwritten : AllByRecursion (λ t. t.flag ≡ Valid → reads_write_of p t.envelope.payload ≡ false) so_far

-- so it is with each VALID transaction of a block, of which some came so far
abbrev pub AllSettled : (before so_far : List Placed) → List Placed → Type 0
AllSettled before so_far [] = Unit {0}
AllSettled before so_far (t ∷ ts) =
    (t.flag ≡ Valid → IsSettled before so_far t.envelope.payload) × AllSettled before (so_far ++ t ∷ []) ts

-- and in each block of those behind `before`
abbrev pub AreSettled : Chain → Chain → Type 0
AreSettled before [] = Unit {0}
AreSettled before (c ∷ cs) = AllSettled (history before) [] (block_of before c) × AreSettled (before ++ c ∷ []) cs
