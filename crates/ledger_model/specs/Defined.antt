-- Executions that take the definition of their chaincode from the state, and read its key there.
use Rattle.std.specs.Prelude.{◌≡◌, ℕ, true, [], ◌∷◌, Option, Some, None}
use Rattle.std.specs.FinMap.{get}
pub use Rattle.fab_types.specs.Proposals.{definition_key}
use Rattle.ledger_model.specs.Chain.{Bytes, Version, Placed, is_valid}
use Rattle.ledger_model.specs.Views.{Plain}
use Rattle.ledger_model.specs.State.{write_to}
use Rattle.ledger_model.specs.Execution.{Ending, Outcome, Answers}

-- The definition that the bytes there are: what they spell, if they spell one that can be used. While
-- there are none, the genesis's holds, if it has one.
abbrev pub definition_by : {D : Type 0} → (genesis : Option D) → (spelled : Bytes → Option D) → Option Bytes → Option D
definition_by genesis spelled None = genesis
definition_by genesis spelled (Some bytes) = spelled bytes

-- the definition of a chaincode in a plain state
abbrev pub definition_in : {D : Type 0} → (genesis : Bytes → Option D) → (spelled : Bytes → Option D) → Plain → Bytes → Option D
definition_in genesis spelled m name = definition_by (genesis name) spelled (get m (definition_key name))

-- a read in front of the others: the key of a definition is before all keys that chaincode can name
abbrev pub with_read : Bytes → Option Bytes → Outcome → Outcome
with_read key value o = record {
  ending = o.ending;
  seen = record {
    reads = record { key = key; value = value } ∷ o.seen.reads;
    ranges = o.seen.ranges;
    result = o.seen.result;
    writes = o.seen.writes;
  };
}

-- a call: what its chaincode's value in the state makes of it, and the read of that value, whatever the ending is
abbrev pub called : (key : Bytes) → (run : Option Bytes → Plain → Outcome) → Plain → Outcome
called key run m = with_read key (get m key) (run (get m key) m)

-- an upgrade: its ending does not depend on the state; it reads the key and puts the value
abbrev pub upgraded : (key value : Bytes) → Ending → Plain → Outcome
upgraded key value ending m =
    with_read key (get m key)
    (record { ending = ending; seen = record { reads = []; ranges = []; result = []; writes = record { key = key; value = Some value } ∷ [] } })

-- the execution depends only on what it saw: that is so, and on each state where it is so it comes to the same
pub record IsAlone (run : Plain → Outcome) : Type 0 where
  pub truthful : (m : Plain) → Answers m (run m).seen
  pub only : (m n : Plain) → Answers n (run m).seen → run n ≡ run m

-- no write that deletes
abbrev pub Puts : Option (Option Bytes) → Type 0
Puts None = Unit {0}
Puts (Some None) = ⊥
Puts (Some (Some value)) = Unit {0}

-- the transaction stands in this block, and where it is VALID it does not delete the key
pub record AreOf (number : ℕ) (key : Bytes) (t : Placed) : Type 0 where
  pub block : t.version.block ≡ number
  pub puts : is_valid t.flag ≡ true → Puts (write_to t.envelope.payload.writes key)

-- absent, or of another block
abbrev pub IsOfOther : ℕ → Option Version → Type 0
IsOfOther block None = Unit {0}
IsOfOther block (Some v) = v.block ≡ block → ⊥
