-- What contracts see of a payload.
use Rattle.fab_types.specs.declared.payload.PayloadParts.{PayloadParts}

-- its parts; the bytes that it keeps follow from these
abbrev pub Payload : Type 0
Payload = PayloadParts
