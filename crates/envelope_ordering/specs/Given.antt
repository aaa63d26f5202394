-- What an orderer made of the envelopes that it was given in turn, and of a timeout after them.
use Rattle.std.specs.Prelude.{◌≡◌, ℕ, ◌≤◌, ◌-◌, ◌^◌, min, ◌⊎◌, Bool, List, [], ◌∷◌, ◌++◌, length, map}
use Rattle.fab_types.specs.Size.{envelope_size}
use Rattle.fab_types.specs.declared.edition.Edition.{Edition}
use Rattle.fab_types.specs.declared.envelope.Envelope.{Envelope}
use Rattle.batch_cutter.specs.Division.{Limits, message, timeout}
use Rattle.orderer.specs.Ordering.{Ordering, IsOrdered, IsTooLarge, RunsOut}

-- behind these envelopes an orderer refuses one, as too large or since it needs a block past the last one that the rules allow
abbrev pub IsRejected : Edition → Limits → Bool → List Envelope → Envelope → Type 0
IsRejected edition limits reorder taken e =
    IsTooLarge limits (message e)
    ⊎ ((now : Ordering) × (now.edition ≡ edition) × (now.limits ≡ limits) × (now.reorder ≡ reorder) × IsOrdered (map message taken) now ×
    RunsOut now (message e))

-- behind what it has taken an orderer is given some envelopes in turn: it orders those of the next list, none of which is too large, and refuses
-- the others, those of the last one
pub data AcceptsEach (edition : Edition) (limits : Limits) (reorder : Bool) : (taken given ordered refused : List Envelope) → Type 0 where
  ends : {taken : List Envelope} → AcceptsEach edition limits reorder taken [] [] []
  takes : {e : Envelope} {taken given ordered refused : List Envelope} → envelope_size e ≤ limits.absolute
      → AcceptsEach edition limits reorder (taken ++ e ∷ []) given ordered refused
      → AcceptsEach edition limits reorder taken (e ∷ given) (e ∷ ordered) refused
  refuses : {e : Envelope} {taken given ordered refused : List Envelope} → IsRejected edition limits reorder taken e
      → AcceptsEach edition limits reorder taken given ordered refused → AcceptsEach edition limits reorder taken (e ∷ given) ordered (e ∷ refused)

-- so many, as far as 64 bits count
abbrev pub IsCount : ℕ → ℕ → Type 0
IsCount count n = count ≡ min n (2 ^ 64 - 1)

-- an orderer was given these envelopes in turn, and the refused ones were counted
abbrev pub WasGiven : List Envelope → Ordering → (missing : ℕ) → Type 0
WasGiven given now missing =
    (ordered refused : List Envelope) × AcceptsEach now.edition now.limits now.reorder [] given ordered refused × IsOrdered (map message ordered) now
    × IsCount missing (length refused)

-- these envelopes are ordered, and a timeout after them, which the orderer refuses only where what waits needs a block past the last one that the rules allow
abbrev pub AreCut : List Envelope → Ordering → Type 0
AreCut ordered now = IsOrdered (map message ordered ++ timeout ∷ []) now ⊎ (IsOrdered (map message ordered) now × RunsOut now timeout)

-- an orderer was given these envelopes in turn and then a timeout, and the refused ones were counted
abbrev pub WasCut : List Envelope → Ordering → (missing : ℕ) → Type 0
WasCut given now missing =
    (ordered refused : List Envelope) × AcceptsEach now.edition now.limits now.reorder [] given ordered refused × AreCut ordered now
    × IsCount missing (length refused)
