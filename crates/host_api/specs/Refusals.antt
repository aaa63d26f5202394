-- The numbers of the host's refusals.
use Rattle.std.specs.Prelude.{ℕ}
use Rattle.host_api.specs.declared.refusal.Refusal.{Refusal}
use Rattle.host_api.specs.declared.refusal.Refusal.TheVariants.{Absent, KeyLength, NoRoom, ValueLength, Limit}

abbrev pub refusal_number : Refusal → ℕ
refusal_number Absent = 1
refusal_number KeyLength = 2
refusal_number NoRoom = 3
refusal_number ValueLength = 4
refusal_number Limit = 5
