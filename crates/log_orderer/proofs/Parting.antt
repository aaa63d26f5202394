-- What one more envelope cuts off what waited: two batches at most, and a second is of that envelope alone.
use Rattle.std.proofs.Common.{inl, inr, ◌≡◌, ◌<◌, ◌≤◌, ◌+◌, ◌++◌, List, [], ◌∷◌, length, map, refl, subst, arith}
use Rattle.std.specs.List.{sum_by}
use Rattle.std.proofs.lemmas.Bool.{cases_lt}
use Rattle.std.proofs.lemmas.List.{length-append}
use Rattle.std.proofs.lemmas.List.Sums.{sum_by-append, sum_by-cons}
use Rattle.fab_types.specs.Size.{envelope_size}
use Rattle.fab_types.specs.declared.envelope.Envelope.{Envelope}
use Rattle.batch_cutter.specs.Division.{IsDivision, IsPending, Limits, message}
use Rattle.batch_cutter.proofs.Divisions.{IsDivision-one, cut_before, filled, kept, large_after, large_alone, not_empty}

abbrev pub AreFew : List (List Envelope) → Type 0
AreFew [] = Unit {0}
AreFew (first ∷ []) = Unit {0}
AreFew (first ∷ second ∷ []) = (e : Envelope) × (second ≡ e ∷ [])
AreFew (first ∷ second ∷ third ∷ others) = ⊥

-- the division is this one
few_of : (limits : Limits) (waited : List Envelope) (e : Envelope) (cut known : List (List Envelope)) (pending rest : List Envelope) → AreFew known →
    IsDivision envelope_size limits (map message waited ++ message e ∷ []) known rest →
    IsDivision envelope_size limits (map message waited ++ message e ∷ []) cut pending → AreFew cut
few_of limits waited e cut known pending rest few is division =
    subst AreFew (IsDivision-one envelope_size limits (map message waited ++ message e ∷ []) known cut rest pending is division).0 few

large_few : (limits : Limits) (waited : List Envelope) (e : Envelope) (cut : List (List Envelope)) (pending : List Envelope) →
    IsPending envelope_size limits waited → limits.preferred < envelope_size e →
    IsDivision envelope_size limits (map message waited ++ message e ∷ []) cut pending → AreFew cut
large_few limits [] e cut pending waits large division =
    let counted = waits.counted in
    few_of limits [] e cut ((e ∷ []) ∷ []) pending [] tt (large_alone envelope_size limits e (omega (arith, counted)) large) division
large_few limits (d ∷ waited) e cut pending waits large division =
    few_of limits (d ∷ waited) e cut ((d ∷ waited) ∷ (e ∷ []) ∷ []) pending [] (e, refl)
    (large_after envelope_size limits (d ∷ waited) e waits (omega arith) large) division

small_few : (limits : Limits) (waited : List Envelope) (e : Envelope) (cut : List (List Envelope)) (pending : List Envelope) →
    IsPending envelope_size limits waited → envelope_size e ≤ limits.preferred →
    IsDivision envelope_size limits (map message waited ++ message e ∷ []) cut pending → AreFew cut
small_few limits waited e cut pending waits small division =
    let counted = waits.counted in
    let size = sum_by envelope_size waited + envelope_size e in
    elim (cases_lt limits.preferred size) as (λ _. AreFew cut) [
      | inl stops ↦
          few_of limits waited e cut (waited ∷ []) pending (e ∷ []) tt
          (cut_before envelope_size limits waited e waits (not_empty envelope_size limits waited e small stops) small stops) division
      | inr fits ↦
          elim (cases_lt (length waited + 1) limits.count) as (λ _. AreFew cut) [
            | inl less ↦
                let waits_on : IsPending envelope_size limits (waited ++ e ∷ []) = record {
                  counted = omega (arith, less, length-append waited (e ∷ []));
                  together = omega (arith, fits, sum_by-append envelope_size waited (e ∷ []), sum_by-cons envelope_size e []);
                } in
                few_of limits waited e cut [] pending (waited ++ e ∷ []) tt (kept envelope_size limits waited e waits_on) division
            | inr full ↦
                few_of limits waited e cut ((waited ++ e ∷ []) ∷ []) pending [] tt
                (filled envelope_size limits waited e (omega (arith, counted, full)) fits) division
          ]
    ]

pub few_cut : (limits : Limits) (waited : List Envelope) (e : Envelope) (cut : List (List Envelope)) (pending : List Envelope) →
    IsPending envelope_size limits waited → IsDivision envelope_size limits (map message waited ++ message e ∷ []) cut pending → AreFew cut
few_cut limits waited e cut pending waits division =
    elim (cases_lt limits.preferred (envelope_size e)) as (λ _. AreFew cut) [
      | inl large ↦ large_few limits waited e cut pending waits large division
      | inr small ↦ small_few limits waited e cut pending waits small division
    ]
