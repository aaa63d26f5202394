-- What an execution is given.
use Rattle.ledger_model.specs.Chain.{Bytes}

-- the argument of its proposal, and what each key begins with that its chaincode may write
pub record Given : Type 0 where
  pub argument : Bytes
  pub namespace : Bytes
