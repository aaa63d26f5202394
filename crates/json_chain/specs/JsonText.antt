-- Data as one line of text.
use Rattle.std.specs.Prelude.{◌≡◌, Some}
use Rattle.serde_json.specs.Data.{Data}
use Rattle.serde_json.specs.Read.{read}
use Rattle.serde_json.specs.Written.{compact_text}
use Rattle.ledger_model.specs.Chain.{Bytes}

-- the text is the data on one line, without spaces, the fields of each object in their order, and is read back as them
pub record IsJsonText (d : Data) (text : Bytes) : Type 0 where
  pub exact : text ≡ compact_text d
  pub read : read text ≡ Some d
