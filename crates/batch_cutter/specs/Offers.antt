-- What an offer and a timeout give.
use Rattle.std.specs.Prelude.{◌≡◌, ℕ, ◌<◌, ◌≤◌, Option, Some, None, List, [], ◌∷◌, ◌++◌, map}
use Rattle.std.specs.Global.{Vec}
use Rattle.batch_cutter.specs.Division.{Limits, State, message, timeout, IsPending, IsDivision}
use Rattle.batch_cutter.specs.declared.cut.Cut.{Cut}
use Rattle.batch_cutter.specs.declared.cut.Cut.TheVariants.{Nothing, One, Two}
use Rattle.batch_cutter.specs.declared.cut.Cause.{Cause}
use Rattle.batch_cutter.specs.declared.cut.Cause.TheVariants.{TooLarge, Memory}

-- the batches that an offer cut, in their order
abbrev pub batches : {M : Type 0} → Cut M → List (List M)
batches Nothing = []
batches (One batch) = batch.items ∷ []
batches (Two first second) = first.items ∷ second.items ∷ []

-- why a message of this size was refused
abbrev pub IsCause : Cause → Limits → ℕ → Type 0
IsCause TooLarge limits size = limits.absolute < size
IsCause Memory limits size = size ≤ limits.absolute

abbrev pub cause_number : Cause → ℕ
cause_number TooLarge = 421
cause_number Memory = 9

-- an offer divides the messages that waited and one more
pub record Offers {M : Type 0} (weight : M → ℕ) (old : State M) (given : M) (cut : Cut M) (new : State M) : Type 0 where
  pub waited : IsPending weight old.limits old.pending
  pub divides : IsDivision weight old.limits (map message old.pending ++ message given ∷ []) (batches cut) new.pending
  pub limits : new.limits ≡ old.limits

-- a timeout divides the messages that waited and itself
pub record Times {M : Type 0} (weight : M → ℕ) (old : State M) (cut : List (List M)) (new : State M) : Type 0 where
  pub waited : IsPending weight old.limits old.pending
  pub divides : IsDivision weight old.limits (map message old.pending ++ timeout ∷ []) cut new.pending
  pub limits : new.limits ≡ old.limits

-- the batch of a timeout, if there is one
abbrev pub batch_of : {M : Type 0} → Option (Vec M) → List (List M)
batch_of None = []
batch_of (Some batch) = batch.items ∷ []

-- the cutter is as an offer left it, or a timeout
abbrev pub IsAfterOffer : {M : Type 0} → (M → ℕ) → Cut M → State M → Type 0
IsAfterOffer {M} weight cut new = (old : State M) × (given : M) × Offers weight old given cut new

abbrev pub IsAfterTimeout : {M : Type 0} → (M → ℕ) → List M → State M → Type 0
IsAfterTimeout {M} weight batch new = (old : State M) × Times weight old (batch ∷ []) new
