-- What is told where a simulation gives no payload.
use Rattle.std.proofs.Common.{◌≡◌, Result, Err, refl}
use Rattle.simulator.specs.Answers.{Answers}
use Rattle.simulator.specs.declared.refusal.SimRefusal.{SimRefusal}
use Rattle.simulator.specs.declared.refusal.SimRefusal.TheVariants.{UnknownChaincode, NotInstalled, BadPolicy, BadMembership, Trapped, Spent, Status, Stale, Memory}

-- but for want of memory it is what was to be told
pub answered : {X : Type 0} (wanted : Result X SimRefusal) (r : SimRefusal) → ¬ (r ≡ Memory) → Answers wanted (Err r) → wanted ≡ Err r
answered wanted UnknownChaincode real h = h
answered wanted NotInstalled real h = h
answered wanted BadPolicy real h = h
answered wanted BadMembership real h = h
answered wanted (Trapped kind used) real h = h
answered wanted Spent real h = h
answered wanted (Status n) real h = h
answered wanted Stale real h = h
answered wanted Memory real h = absurd (real refl)
