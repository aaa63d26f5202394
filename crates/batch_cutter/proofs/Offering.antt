-- What one offer leaves, by the lists that the cutter has in hand.
use Rattle.std.proofs.Common.{◌≡◌, ℕ, ◌+◌, ◌<◌, ◌≤◌, List, [], ◌∷◌, ◌++◌, length, map, sym, ap, ◌∙◌, subst, arith, length-append}
use Rattle.std.specs.List.{sum_by}
use Rattle.batch_cutter.specs.Division.{Limits, Mark, message, timeout, IsDivision}
use Rattle.batch_cutter.proofs.Divisions.{not_empty, filled, cut_before, large_after, timeout_cuts}

-- a division of other lists that are equal
IsDivision-equal : {M : Type 0} (weight : M → ℕ) (limits : Limits) (marks : List (Mark M)) (batches others : List (List M)) (pending rest : List M) →
    others ≡ batches → rest ≡ pending → IsDivision weight limits marks batches pending → IsDivision weight limits marks others rest
IsDivision-equal {M} weight limits marks batches others pending rest e f d =
    subst (λ (a : List (List M)). IsDivision weight limits marks a rest) (sym e) (subst (λ (a : List M). IsDivision weight limits marks batches a) (sym f) d)

pub fills : {M : Type 0} (weight : M → ℕ) (limits : Limits) (pending pushed rest : List M) (m : M) → pushed ≡ pending ++ m ∷ [] → rest ≡ [] →
    length pending < limits.count → limits.count ≤ length pushed → sum_by weight pending + weight m ≤ limits.preferred →
    IsDivision weight limits (map message pending ++ message m ∷ []) (pushed ∷ []) rest
fills {M} weight limits pending pushed rest m e f below full fits =
    let len = ap length e ∙ length-append pending (m ∷ []) in
    IsDivision-equal weight limits (map message pending ++ message m ∷ []) ((pending ++ m ∷ []) ∷ []) (pushed ∷ []) [] rest (ap (λ (a : List M). a ∷ []) e) f
    (filled weight limits pending m (omega arith) fits)

pub cuts_before : {M : Type 0} (weight : M → ℕ) (limits : Limits) (pending cut rest : List M) (m : M) → cut ≡ pending → rest ≡ m ∷ [] →
    length pending < limits.count → sum_by weight pending ≤ limits.preferred → weight m ≤ limits.preferred →
    limits.preferred < sum_by weight pending + weight m → IsDivision weight limits (map message pending ++ message m ∷ []) (cut ∷ []) rest
cuts_before {M} weight limits pending cut rest m e f below together small stops =
    IsDivision-equal weight limits (map message pending ++ message m ∷ []) (pending ∷ []) (cut ∷ []) (m ∷ []) rest (ap (λ (a : List M). a ∷ []) e) f
    (cut_before weight limits pending m record { counted = below; together = together } (not_empty weight limits pending m small stops) small stops)

pub cuts_alone : {M : Type 0} (weight : M → ℕ) (limits : Limits) (pending cut alone rest : List M) (m : M) → cut ≡ pending → alone ≡ m ∷ [] → rest ≡ [] →
    0 < length pending → length pending < limits.count → sum_by weight pending ≤ limits.preferred → limits.preferred < weight m →
    IsDivision weight limits (map message pending ++ message m ∷ []) (cut ∷ alone ∷ []) rest
cuts_alone {M} weight limits pending cut alone rest m e f r filled below together large =
    let both : cut ∷ alone ∷ [] ≡ pending ∷ (m ∷ []) ∷ [] = cc in
    IsDivision-equal weight limits (map message pending ++ message m ∷ []) (pending ∷ (m ∷ []) ∷ []) (cut ∷ alone ∷ []) [] rest both r
    (large_after weight limits pending m record { counted = below; together = together } filled large)

pub times_out : {M : Type 0} (weight : M → ℕ) (limits : Limits) (pending cut rest : List M) → cut ≡ pending → rest ≡ [] → 0 < length pending →
    length pending < limits.count → sum_by weight pending ≤ limits.preferred → IsDivision weight limits (map message pending ++ timeout ∷ []) (cut ∷ []) rest
times_out {M} weight limits pending cut rest e f filled below together =
    IsDivision-equal weight limits (map message pending ++ timeout ∷ []) (pending ∷ []) (cut ∷ []) [] rest (ap (λ (a : List M). a ∷ []) e) f
    (timeout_cuts weight limits pending record { counted = below; together = together } filled)
