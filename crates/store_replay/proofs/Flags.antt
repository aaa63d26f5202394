-- Flags that are compared.
use Rattle.std.proofs.Common.{◌≡◌, ◌≢◌, ◌∙◌, Bool, true, false, MatchBool, List, refl, ap}
use Rattle.std.specs.Bool.{Decides}
use Rattle.std.specs.Cmp.Lexicographic.{pointwise}
use Rattle.std.proofs.lemmas.Slice.Eq.{slice_eq-Decides}
use Rattle.fab_types.specs.contracts.flag.FlagPartialEq.TheImpl.{eq-value}
use Rattle.fab_types.specs.declared.flag.Flag.{Flag}
use Rattle.fab_types.specs.declared.flag.Flag.TheVariants as flag

-- `==` on flags decides whether they are the same
flag_decides : (a b : Flag) → Decides (eq-value.it a b) (a ≡ b)
flag_decides flag.Valid flag.Valid = (λ _. refl, λ _. refl)
flag_decides flag.Valid flag.EndorsementPolicyFailure = (λ e. cc, λ e. cc)
flag_decides flag.Valid flag.MvccReadConflict = (λ e. cc, λ e. cc)
flag_decides flag.Valid flag.PhantomReadConflict = (λ e. cc, λ e. cc)
flag_decides flag.Valid flag.DuplicateTxid = (λ e. cc, λ e. cc)
flag_decides flag.EndorsementPolicyFailure flag.Valid = (λ e. cc, λ e. cc)
flag_decides flag.EndorsementPolicyFailure flag.EndorsementPolicyFailure = (λ _. refl, λ _. refl)
flag_decides flag.EndorsementPolicyFailure flag.MvccReadConflict = (λ e. cc, λ e. cc)
flag_decides flag.EndorsementPolicyFailure flag.PhantomReadConflict = (λ e. cc, λ e. cc)
flag_decides flag.EndorsementPolicyFailure flag.DuplicateTxid = (λ e. cc, λ e. cc)
flag_decides flag.MvccReadConflict flag.Valid = (λ e. cc, λ e. cc)
flag_decides flag.MvccReadConflict flag.EndorsementPolicyFailure = (λ e. cc, λ e. cc)
flag_decides flag.MvccReadConflict flag.MvccReadConflict = (λ _. refl, λ _. refl)
flag_decides flag.MvccReadConflict flag.PhantomReadConflict = (λ e. cc, λ e. cc)
flag_decides flag.MvccReadConflict flag.DuplicateTxid = (λ e. cc, λ e. cc)
flag_decides flag.PhantomReadConflict flag.Valid = (λ e. cc, λ e. cc)
flag_decides flag.PhantomReadConflict flag.EndorsementPolicyFailure = (λ e. cc, λ e. cc)
flag_decides flag.PhantomReadConflict flag.MvccReadConflict = (λ e. cc, λ e. cc)
flag_decides flag.PhantomReadConflict flag.PhantomReadConflict = (λ _. refl, λ _. refl)
flag_decides flag.PhantomReadConflict flag.DuplicateTxid = (λ e. cc, λ e. cc)
flag_decides flag.DuplicateTxid flag.Valid = (λ e. cc, λ e. cc)
flag_decides flag.DuplicateTxid flag.EndorsementPolicyFailure = (λ e. cc, λ e. cc)
flag_decides flag.DuplicateTxid flag.MvccReadConflict = (λ e. cc, λ e. cc)
flag_decides flag.DuplicateTxid flag.PhantomReadConflict = (λ e. cc, λ e. cc)
flag_decides flag.DuplicateTxid flag.DuplicateTxid = (λ _. refl, λ _. refl)

by_cases : (fs gs : List Flag) (b : Bool) → Decides b (fs ≡ gs) → MatchBool b (fs ≡ gs) (fs ≢ gs)
by_cases fs gs true h = h.0 refl
by_cases fs gs false h = λ e. let wrong : false ≡ true = h.1 e in cc

-- flags, and those beside which they were laid
pub compared : (fs gs hs : List Flag) (b : Bool) → gs ≡ hs → b ≡ pointwise eq-value.it fs gs → MatchBool b (fs ≡ hs) (fs ≢ hs)
compared fs gs hs b same is = by_cases fs hs b (slice_eq-Decides flag_decides fs hs b (is ∙ ap (pointwise eq-value.it fs) same))
