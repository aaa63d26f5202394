-- A state of values alone, as the entries of a map that has versions.
use Rattle.std.specs.Prelude.{List}
use Rattle.ledger_model.specs.Chain.{Bytes, Version}
use Rattle.ledger_model.specs.Views.{Plain, values_of}
use Rattle.world_state.specs.Writing.{as_state}

-- the versions say nothing
abbrev pub plain_of : List (Bytes × (Bytes × Version)) → Plain
plain_of es = values_of (as_state es)
