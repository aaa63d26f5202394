-- The number of a refusal, and how it is written.
use Rattle.std.specs.Prelude.{◌++◌, ℕ, List, codes}
use Rattle.std.specs.Fmt.{decimal, signed_decimal}
use Rattle.std.specs.Int.{w32, cast_signed}
use Rattle.wasm_ast.specs.Traps.{trap_number}
use Rattle.simulator.specs.declared.refusal.SimRefusal.{SimRefusal}
use Rattle.simulator.specs.declared.refusal.SimRefusal.TheVariants.{UnknownChaincode, NotInstalled, BadPolicy, BadMembership, Trapped, Spent, Status, Stale, Memory}

abbrev pub refusal_number : SimRefusal → ℕ
refusal_number UnknownChaincode = 401
refusal_number (Trapped kind used) = 402
refusal_number Spent = 403
refusal_number (Status status) = 404
refusal_number Stale = 405
refusal_number NotInstalled = 406
refusal_number BadPolicy = 407
refusal_number BadMembership = 408
refusal_number Memory = 9

-- the text of a refusal. The word that a chaincode returned is written as a signed number
abbrev pub refusal_text : SimRefusal → List ℕ
refusal_text (Trapped kind used) = codes "refused 402 trap " ++ decimal (trap_number kind)
refusal_text (Status status) = codes "refused 404 status " ++ signed_decimal (cast_signed w32 status)
refusal_text refusal = codes "refused " ++ decimal (refusal_number refusal)
