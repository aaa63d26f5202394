-- Why a recheck refuses.
use Rattle.std.specs.Prelude.{◌≡◌, false}
use Rattle.fab_types.specs.Payloads.{Payload}
use Rattle.ledger_model.specs.Views.{Versioned}
use Rattle.mvcc_validate.specs.Current.{is_current}
use Rattle.simulator.specs.declared.refusal.SimRefusal.{SimRefusal}
use Rattle.simulator.specs.declared.refusal.SimRefusal.TheVariants.{UnknownChaincode, NotInstalled, BadPolicy, BadMembership, Trapped, Spent, Status, Stale, Memory}

-- something that was read is not as it is in this state, or there was no memory
abbrev pub IsRecheckRefused : Versioned → Payload → SimRefusal → Type 0
IsRecheckRefused now p Stale = is_current now p ≡ false
IsRecheckRefused now p Memory = Unit {0}
IsRecheckRefused now p UnknownChaincode = ⊥
IsRecheckRefused now p NotInstalled = ⊥
IsRecheckRefused now p BadPolicy = ⊥
IsRecheckRefused now p BadMembership = ⊥
IsRecheckRefused now p (Trapped kind used) = ⊥
IsRecheckRefused now p Spent = ⊥
IsRecheckRefused now p (Status n) = ⊥
