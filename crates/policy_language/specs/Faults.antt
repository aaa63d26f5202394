-- The numbers of faults, and what a fault of a text says of it.
use Rattle.std.specs.Prelude.{◌≡◌, ◌++◌, ℕ, ◌<◌, List, Result, Ok, Err, codes}
use Rattle.std.specs.Fmt.{decimal}
use Rattle.policy_language.specs.GoodSets.{Names}
use Rattle.policy_language.specs.View.{alone}
use Rattle.policy_language.specs.Limits.{HasKnown, HasRules, depth}
use Rattle.policy_language.specs.declared.policy.Policy.{Policy}
use Rattle.policy_language.specs.declared.fault.PolicyFault.{PolicyFault}
use Rattle.policy_language.specs.declared.fault.PolicyFault.TheVariants.{Memory, Syntax, UnknownOrganisation, Threshold, TooDeep}

-- the number of a fault
abbrev pub number_of : PolicyFault → ℕ
number_of Memory = 9
number_of (Syntax offset) = 501
number_of UnknownOrganisation = 502
number_of Threshold = 503
number_of TooDeep = 504

-- how a fault is written
abbrev pub fault_text : PolicyFault → List ℕ
fault_text (Syntax offset) = codes "refused 501 at " ++ decimal offset
fault_text fault = codes "refused " ++ decimal (number_of fault)

-- What the fault says of each policy that the text spells. Where the text itself is at fault, there is none.
abbrev pub HasCause : Names → PolicyFault → Policy → Type 0
HasCause orgs Memory policy = Unit {0}
HasCause orgs (Syntax offset) policy = ⊥
HasCause orgs UnknownOrganisation policy = HasKnown orgs (alone policy) → ⊥
HasCause orgs Threshold policy = HasRules (alone policy) → ⊥
HasCause orgs TooDeep policy = 8 < depth (alone policy)

-- Any fault but want of memory comes only where P holds.
abbrev pub Fails : PolicyFault → Type 0 → Type 0
Fails Memory P = Unit {0}
Fails _ P = P

-- The value is this one, unless memory ran out.
abbrev pub Finds : {X : Type 0} → Result X PolicyFault → X → Type 0
Finds (Ok found) x = found ≡ x
Finds (Err e) x = Fails e ⊥
