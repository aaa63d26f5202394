-- A text on its way to a writer.
use Rattle.std.specs.Prelude.{◌≡◌, ◌++◌, Option}
use Rattle.std.specs.Io.KnownBytes.{Appends}
use Rattle.sha2.specs.Hashers.{Holds256}
use Rattle.ledger_model.specs.Chain.{Bytes}
use Rattle.checkpoint.specs.declared.hashing.Hashing.{Hashing}

-- The writer was given this text, and it is hashed, but for the piece that waits.
pub record IsSoFar (old now : Option Bytes) (s : Hashing) (text : Bytes) : Type 0 where
  pub front : Bytes
  pub parts : text ≡ front ++ s.piece.items
  pub hashed : Holds256 s.hasher front
  pub written : Appends old now front
