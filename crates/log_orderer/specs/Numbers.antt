-- The numbers of skips.
use Rattle.std.specs.Prelude.{ℕ}
use Rattle.log_orderer.specs.declared.skip.Skip.{Skip}
use Rattle.log_orderer.specs.declared.skip.Skip.TheVariants.{NoHex, EndedEarly, EnvelopeLength, NotCanonical, Limit, BytesLeft, TooLarge, NoNumber}

abbrev pub skip_number : Skip → ℕ
skip_number NoHex = 300
skip_number EndedEarly = 301
skip_number EnvelopeLength = 302
skip_number NotCanonical = 303
skip_number Limit = 304
skip_number BytesLeft = 305
skip_number TooLarge = 421
skip_number NoNumber = 422
