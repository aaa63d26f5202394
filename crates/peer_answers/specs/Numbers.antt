-- Numbers of blocks, in digits.
use Rattle.std.specs.Prelude.{◌≡◌, ◌<◌, ◌^◌, ℕ}
use Rattle.std.specs.Fmt.{decimal}
use Rattle.ledger_model.specs.Chain.{Bytes}

-- digits spell a number above 0
pub record IsDecimal (digits : Bytes) (number : ℕ) : Type 0 where
  pub above : 0 < number
  pub small : number < 2 ^ 32
  pub spelled : digits ≡ decimal number
