-- What an orderer was given, with one envelope more and with the timeout.
use Rattle.std.proofs.Common.{◌≡◌, ◌≢◌, ◌≤◌, ◌+◌, ◌-◌, ◌^◌, ◌++◌, ℕ, List, [], ◌∷◌, length-append, append-nil, map, inl, inr, refl, sym, ◌∙◌, ap, subst, arith}
use Rattle.std.specs.Prelude.{min}
use Rattle.std.proofs.lemmas.List.{map-append}
use mathlib.Core.List.{IsPrefix}
use Rattle.fab_types.specs.Size.{envelope_size}
use Rattle.fab_types.specs.declared.envelope.Envelope.{Envelope}
use Rattle.batch_cutter.specs.Division.{Mark, message, timeout}
use Rattle.orderer.specs.Ordering.{Ordering, IsOrdered, IsRefused, Takes}
use Rattle.orderer.specs.declared.report.BatchReport.{BatchReport}
use Rattle.orderer.specs.declared.report.OrderCause.{OrderCause}
use Rattle.orderer.specs.declared.report.OrderCause.TheVariants.{TooLarge, NoNumber, Memory}
use Rattle.orderer.proofs.Refusing.{takes_begins}
use Rattle.envelope_ordering.specs.Given.{IsRejected, WasGiven, WasCut}
use Rattle.envelope_ordering.proofs.Parting.{push_taken, push_refused, by_same}

pub one_taken : (given : List Envelope) (e : Envelope) (old new : Ordering) (missing after : ℕ)
    → ((marks : List (Mark Envelope)) → IsOrdered marks old → IsOrdered (marks ++ message e ∷ []) new) → new.edition ≡ old.edition
    → new.limits ≡ old.limits → new.reorder ≡ old.reorder → after ≡ missing → envelope_size e ≤ old.limits.absolute → WasGiven given old missing
    → WasGiven (given ++ e ∷ []) new after
one_taken given e old new missing after step edition limits reorder kept fits h = (
  h.0 ++ e ∷ [],
  h.1,
  by_same old.edition new.edition old.limits new.limits old.reorder new.reorder (given ++ e ∷ []) (h.0 ++ e ∷ []) h.1 edition limits reorder
      (push_taken e fits h.2),
  subst (λ (marks : List (Mark Envelope)). IsOrdered marks new) (sym (map-append message h.0 (e ∷ []))) (step (map message h.0) h.3),
  kept ∙ h.4,
)

rejected : (cause : OrderCause) (old : Ordering) (e : Envelope) (ordered : List Envelope) → IsRefused cause old (message e) → cause ≢ Memory →
    IsOrdered (map message ordered) old → IsRejected old.edition old.limits old.reorder ordered e
rejected TooLarge old e ordered why other is = inl why
rejected NoNumber old e ordered why other is = inr (old, refl, refl, refl, is, why)
rejected Memory old e ordered why other is = absurd (other refl)

pub one_refused : (given : List Envelope) (e : Envelope) (old new : Ordering) (missing after : ℕ) (cause : OrderCause) → new ≡ old →
    after ≡ min (missing + 1) (2 ^ 64 - 1) → IsRefused cause old (message e) → cause ≢ Memory → WasGiven given old missing →
    WasGiven (given ++ e ∷ []) new after
one_refused given e old new missing after cause same counted why other h =
    subst (λ (o : Ordering). WasGiven (given ++ e ∷ []) o after) (sym same) (
      h.0,
      h.1 ++ e ∷ [],
      push_refused old.edition old.limits old.reorder [] h.0 e refl (rejected cause old e h.0 why other h.3) h.2,
      h.3,
      omega (arith, counted, h.4, length-append h.1 (e ∷ [])),
    )

pub one_timeout : (given : List Envelope) (old new : Ordering) (missing after : ℕ)
    → ((marks : List (Mark Envelope)) → IsOrdered marks old → IsOrdered (marks ++ timeout ∷ []) new) → new.edition ≡ old.edition
    → new.limits ≡ old.limits → new.reorder ≡ old.reorder → after ≡ missing → WasGiven given old missing → WasCut given new after
one_timeout given old new missing after step edition limits reorder kept h = (
  h.0,
  h.1,
  by_same old.edition new.edition old.limits new.limits old.reorder new.reorder given h.0 h.1 edition limits reorder h.2,
  inl (step (map message h.0) h.3),
  kept ∙ h.4,
)

without_number : (cause : OrderCause) (given : List Envelope) (old : Ordering) (missing : ℕ) → IsRefused cause old timeout → cause ≢ Memory →
    WasGiven given old missing → WasCut given old missing
without_number TooLarge given old missing why other h = absurd why
without_number NoNumber given old missing why other h = (h.0, h.1, h.2, inr (h.3, why), h.4)
without_number Memory given old missing why other h = absurd (other refl)

pub no_timeout : (given : List Envelope) (old new : Ordering) (missing after : ℕ) (cause : OrderCause) → new ≡ old → after ≡ missing →
    IsRefused cause old timeout → cause ≢ Memory → WasGiven given old missing → WasCut given new after
no_timeout given old new missing after cause same kept why other h =
    subst (λ (o : Ordering). WasCut given o after) (sym same)
    (subst (λ (n : ℕ). WasCut given old n) (sym kept) (without_number cause given old missing why other h))

-- its chain only grows
pub longer : (old : Ordering) (mark : Mark Envelope) (reports : List BatchReport) (new : Ordering) → Takes old mark reports new →
    IsPrefix old.chain new.chain
longer old mark reports new takes = let begins = takes_begins old mark reports new takes in (begins.0, sym begins.1)

pub as_long : (old new : Ordering) → new ≡ old → IsPrefix old.chain new.chain
as_long old new same = ([], append-nil old.chain ∙ sym (ap (λ (o : Ordering). o.chain) same))
