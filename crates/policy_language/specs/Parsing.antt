-- What the result of a reader says of the bytes.
use Rattle.std.specs.Prelude.{◌≡◌, ℕ, false, List, length, Option, Some, None, Result, Ok, Err}
use Rattle.policy_language.specs.Faults.{Fails}
use Rattle.policy_language.specs.Leniency.{Leniency}
use Rattle.policy_language.specs.Place.{Place, offset_of}
use Rattle.policy_language.specs.Wrong.{Next, Leads, Says}
use Rattle.policy_language.specs.declared.fault.PolicyFault.{PolicyFault}
use Rattle.policy_language.specs.declared.fault.PolicyFault.TheVariants.{Memory, Syntax, UnknownOrganisation, Threshold, TooDeep}

-- The result is what reading gives, and the bytes after it are left.
abbrev pub Parses : {X Y : Type 0} → (X → Y) → Result X PolicyFault → List ℕ → Option (Y × List ℕ) → Type 0
Parses view (Ok x) left read = read ≡ Some (view x, left)
Parses view (Err e) left read = Fails e (read ≡ None)

-- The same of what is passed over.
abbrev pub Passes : Result (Unit {0}) PolicyFault → List ℕ → Option (List ℕ) → Type 0
Passes (Ok x) left read = read ≡ Some left
Passes (Err e) left read = Fails e (read ≡ None)

-- The reading does not overlook what the fault names.
abbrev pub Keeps : PolicyFault → Leniency → Type 0
Keeps Memory m = Unit {0}
Keeps (Syntax offset) m = Unit {0}
Keeps UnknownOrganisation m = m.any_name ≡ false
Keeps Threshold m = m.any_threshold ≡ false
Keeps TooDeep m = m.more ≡ 0

-- The result is what each reading gives, and a fault comes only where each that does not overlook it gives nothing.
abbrev pub ParsesBy : {X Y : Type 0} → (X → Y) → Result X PolicyFault → List ℕ → (Leniency → Option (Y × List ℕ)) → Type 0
ParsesBy view (Ok x) left read = (m : Leniency) → read m ≡ Some (view x, left)
ParsesBy view (Err e) left read = Fails e ((m : Leniency) → Keeps e m → read m ≡ None)

-- The same of a value that takes all of the bytes.
abbrev pub MakesBy : {X : Type 0} → Result X PolicyFault → (Leniency → Option X) → Type 0
MakesBy (Ok x) read = (m : Leniency) → read m ≡ Some x
MakesBy (Err e) read = Fails e ((m : Leniency) → Keeps e m → read m ≡ None)

-- a fault is that of a place, where this holds
abbrev pub Misses : {X : Type 0} → Result X PolicyFault → Place → Type 0 → Type 0
Misses (Ok x) place P = Unit {0}
Misses (Err e) place P = (e ≡ Syntax (offset_of place)) × P

-- the place is in this text, and this may come next there
abbrev pub IsAt : List ℕ → Next → Place → Type 0
IsAt text next place = (place.total ≡ length text) × (pieces : List (List ℕ)) × Leads pieces text next place.rest

-- What may come next where a value is read, and what a fault says of the text.
abbrev pub Tells : {X : Type 0} → List ℕ → Result X PolicyFault → (X → Next) → Place → Type 0
Tells text (Ok x) next place = IsAt text (next x) place
Tells text (Err e) next place = Says e text
