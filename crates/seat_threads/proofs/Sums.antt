-- Rounds added up.
use Rattle.std.proofs.Common.{◌≡◌, ◌<◌, ◌≤◌, ◌+◌, ◌*◌, ◌^◌, ◌++◌, ℕ, suc, List, [], ◌∷◌, length, Ok, Err, refl, ap, arith}
use Rattle.std.specs.Prelude.{fold}
use Rattle.std.proofs.Math.Nat.{suc-mul, mul-le-mul_right}
use Rattle.simulator.specs.declared.refusal.SimRefusal.TheVariants.{UnknownChaincode, NotInstalled, BadPolicy, BadMembership, Trapped, Spent, Status, Stale, Memory}
use Rattle.peer_node.specs.declared.refusal.FinishRefusal.{FinishRefusal}
use Rattle.peer_node.specs.declared.refusal.FinishRefusal.TheVariants.{Simulation, NotEntered}
use Rattle.ledger_model.specs.Chain.{Chain}
use Rattle.seat_threads.specs.declared.counts.Counts.{Counts}
use Rattle.seat_threads.specs.Rounds.{Outcome, rounds_in, sum_of, no_rounds, with_refused, with_outcome, counts_of, envelopes_in}
use Rattle.seat_threads.specs.Work.{Task, AllCameTo, total_of}

pub bounded : (k n : ℕ) → k < 2 ^ 32 → n < 2 ^ 32 → k * n + n < 2 ^ 64
bounded k n h l =
    let more : suc k ≤ 4294967296 = omega (arith, h) in
    let m = mul-le-mul_right n more in
    let e = suc-mul k n in
    omega (arith, m, e, l)

pub summed : (a b : Counts) → rounds_in (sum_of a b) ≡ rounds_in a + rounds_in b
summed a b = omega arith

-- a round that was refused counts once, and as none that was endorsed
refused_once : (c : Counts) (r : FinishRefusal) → (rounds_in (with_refused r c) ≡ rounds_in c + 1) × ((with_refused r c).endorsed ≡ c.endorsed)
refused_once c NotEntered = (omega arith, refl)
refused_once c (Simulation UnknownChaincode) = (omega arith, refl)
refused_once c (Simulation NotInstalled) = (omega arith, refl)
refused_once c (Simulation BadPolicy) = (omega arith, refl)
refused_once c (Simulation BadMembership) = (omega arith, refl)
refused_once c (Simulation (Trapped kind used)) = (omega arith, refl)
refused_once c (Simulation Spent) = (omega arith, refl)
refused_once c (Simulation (Status n)) = (omega arith, refl)
refused_once c (Simulation Stale) = (omega arith, refl)
refused_once c (Simulation Memory) = (omega arith, refl)

-- counts, and then these outcomes
counted_from : (c : Counts) (outcomes : List Outcome) →
    (rounds_in (fold with_outcome c outcomes) ≡ rounds_in c + length outcomes)
    × ((fold with_outcome c outcomes).endorsed ≡ c.endorsed + length (envelopes_in outcomes))
counted_from c [] = (omega arith, omega arith)
counted_from c (Ok x ∷ outcomes) = let rest = counted_from (with_outcome c (Ok x)) outcomes in (omega (arith, rest.0), omega (arith, rest.1))
counted_from c (Err r ∷ outcomes) =
    let rest = counted_from (with_refused r c) outcomes in
    let once = refused_once c r in
    (omega (arith, rest.0, once.0), omega (arith, rest.1, once.1))

pub counted : (outcomes : List Outcome) → rounds_in (counts_of outcomes) ≡ length outcomes
counted outcomes = omega (arith, (counted_from no_rounds outcomes).0)

pub endorsed_in : (outcomes : List Outcome) → (counts_of outcomes).endorsed ≡ length (envelopes_in outcomes)
endorsed_in outcomes = omega (arith, (counted_from no_rounds outcomes).1)

pub envelopes-append : (xs ys : List Outcome) → envelopes_in (xs ++ ys) ≡ envelopes_in xs ++ envelopes_in ys
envelopes-append [] ys = refl
envelopes-append (Ok x ∷ xs) ys = ap (λ l. x ∷ l) (envelopes-append xs ys)
envelopes-append (Err r ∷ xs) ys = envelopes-append xs ys

-- each seat has worked all rounds
pub totalled : (task : Task) (whole : Chain) (seat : ℕ) (seats : List (List Outcome)) → AllCameTo task whole seat seats →
    rounds_in (total_of seats) ≡ length seats * task.rounds
totalled task whole seat [] all = omega arith
totalled task whole seat (outcomes ∷ others) all =
    let one = counted outcomes in
    let rest = totalled task whole (seat + 1) others all.1 in
    omega (arith, summed (counts_of outcomes) (total_of others), one, all.0.1.0, rest, suc-mul (length others) task.rounds)
