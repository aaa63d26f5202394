-- The refusals 401 and 406 to 408 are told exactly where what is proposed is not defined, not at hand, has a bad policy or may not come next.
use Rattle.std.proofs.Common.{◌≡◌, ℕ, Bool, true, false, cond, [], ◌∷◌, Option, Some, None, Result, Ok, Err, refl, ap, ◌∙◌, subst}
use Rattle.std.specs.Prelude.{◌==◌}
use Rattle.std.specs.FinMap.{get}
use Rattle.fab_types.specs.Payloads.{Payload}
use Rattle.fab_types.specs.Memberships.{membership_key}
use Rattle.fab_types.specs.declared.proposal.Amend.{Amend}
use Rattle.fab_types.specs.declared.proposal.Call.{Call}
use Rattle.fab_types.specs.declared.proposal.Upgrade.{Upgrade}
use Rattle.fab_types.specs.declared.proposal.Proposal.{Proposal}
use Rattle.fab_types.specs.declared.proposal.Proposal.TheVariants as proposal
use Rattle.ledger_model.specs.Views.{Plain, Versioned, values_of}
use Rattle.ledger_model.specs.Execution as ledger
use Rattle.ledger_model.specs.Defined.{definition_key}
use Rattle.wasm_meaning.specs.Values.{Answer, Next, Branch, Returns, Trapped, Spent, Stuck}
use Rattle.wasm_meaning.specs.Fine.{IsEnding}
use Rattle.wasm_meaning.specs.Laws.NeverStuck.{invocation_ends}
use Rattle.endorsement_policy.specs.Membership.{is_next}
use Rattle.endorsement_policy.specs.declared.installed.Usable.{Usable}
use Rattle.endorsement_policy.specs.declared.fault.DefinitionFault.{DefinitionFault}
use Rattle.endorsement_policy.specs.declared.fault.DefinitionFault.TheVariants as fault
use Rattle.host_api.specs.Recorded.{Recorded, nothing_recorded}
use Rattle.host_api.specs.HostStep.{host_step}
use Rattle.host_api.specs.Executing.{outcome_of, execution}
use Rattle.host_api.specs.Parts.{parts_of}
use Rattle.host_api.specs.declared.recorder.Parts.{Parts}
use Rattle.chaincode_book.specs.Books.{Book, AreValid}
use Rattle.simulator.specs.Execution.{Defined, HasBadPolicy, IsNotAtHand, IsNotNext, IsUnknown, amend_ending, execute, executable_definition, executable_in, exec_of, given_by, upgrade_ending}
use Rattle.simulator.specs.Answers.{SimRefusal, Answers, IsToldWhere, done_or_refusal}
use Rattle.simulator.specs.declared.refusal.SimRefusal.TheVariants as refusal
use Rattle.simulator.proofs.Alone.{IsFit, executable_fit}
use Rattle.simulator.proofs.Endings.{map_ok, answers_made}

-- an ending that an execution of a valid module can have
abbrev CanRun : ledger.Ending → Type 0
CanRun ledger.Unknown = ⊥
CanRun ledger.NotInstalled = ⊥
CanRun ledger.BadPolicy = ⊥
CanRun ledger.BadMembership = ⊥
CanRun _ = Unit {0}

status_runs : (status : ℕ) (b : Bool) → CanRun (cond b ledger.Done (ledger.Status status))
status_runs status true = tt
status_runs status false = tt

outcome_runs : (fuel : ℕ) (m : Plain) (a : Answer Recorded) → IsEnding a → CanRun (outcome_of fuel m a).ending
outcome_runs fuel m (Next left (v ∷ []) l w) is = status_runs v.word (v.word == 0)
outcome_runs fuel m (Trapped why left w) is = tt
outcome_runs fuel m (Spent w) is = tt
outcome_runs fuel m (Next left [] l w) is = absurd is
outcome_runs fuel m (Next left (v ∷ u ∷ s) l w) is = absurd is
outcome_runs fuel m (Branch k left s l w) is = absurd is
outcome_runs fuel m (Returns left s l w) is = absurd is
outcome_runs fuel m Stuck is = absurd is

-- what an answer says of a proposal
abbrev Says : {X : Type 0} → Book → Plain → Proposal → Result X SimRefusal → Type 0
Says book m p (Err refusal.UnknownChaincode) = IsUnknown book m p
Says book m p (Err refusal.NotInstalled) = IsNotAtHand book m p
Says book m p (Err refusal.BadPolicy) = HasBadPolicy book p
Says book m p (Err refusal.BadMembership) = IsNotNext book m p
Says book m p _ = Unit {0}

-- what an execution that was done or refused says, where x is what it gives
module _ {X : Type 0} (x : X) (book : Book) (m : Plain) where
  run_says : (p : Proposal) (e : ledger.Ending) → CanRun e → Says book m p (done_or_refusal e x)
  run_says p ledger.Unknown h = absurd h
  run_says p ledger.NotInstalled h = absurd h
  run_says p ledger.BadPolicy h = absurd h
  run_says p ledger.BadMembership h = absurd h
  run_says p (ledger.Trapped kind used) h = tt
  run_says p ledger.Spent h = tt
  run_says p (ledger.Status n) h = tt
  run_says p ledger.Done h = tt

  upgrade_says : (u : Upgrade) (r : Result Usable DefinitionFault) → executable_definition book u.definition ≡ r →
      Says book m (proposal.Upgrade u) (done_or_refusal (upgrade_ending r) x)
  upgrade_says u (Ok usable) e = tt
  upgrade_says u (Err fault.NotInstalled) e = e
  upgrade_says u (Err fault.BadPolicy) e = e

  amend_says : (a : Amend) (b : Bool) → is_next book.installed.orgs (get m membership_key) a.membership ≡ b →
      Says book m (proposal.Amend a) (done_or_refusal (amend_ending b) x)
  amend_says a true e = tt
  amend_says a false e = e

  found_says : (c : Call) (found : Option Defined) → executable_in book m c.chaincode ≡ found → IsFit found →
      Says book m (proposal.Call c) (done_or_refusal (execute found (given_by book.edition c) m).ending x)
  found_says c None e fit = e
  found_says c (Some None) e fit = e
  found_says c (Some (Some f)) e fit =
      let ends = invocation_ends f.module (host_step m (given_by book.edition c)) nothing_recorded f.fuel fit in
      run_says (proposal.Call c) _ (outcome_runs f.fuel m (execution f.module f.fuel (given_by book.edition c) m) ends)

  exec_says : AreValid book → (p : Proposal) → Says book m p (done_or_refusal (exec_of book p m).ending x)
  unfolding exec_of
  exec_says valid (proposal.Call c) =
      found_says c (executable_in book m c.chaincode) refl (executable_fit book valid c.chaincode (get m (definition_key c.chaincode)))
  exec_says valid (proposal.Upgrade u) = upgrade_says u (executable_definition book u.definition) refl
  exec_says valid (proposal.Amend a) = amend_says a (is_next book.installed.orgs (get m membership_key) a.membership) refl

-- and what is so of a proposal makes its ending
unknown_ends : (book : Book) (m : Plain) (p : Proposal) → IsUnknown book m p → (exec_of book p m).ending ≡ ledger.Unknown
unfolding exec_of
unknown_ends book m (proposal.Call c) h = ap (λ found. (execute found (given_by book.edition c) m).ending) h
unknown_ends book m (proposal.Upgrade u) h = absurd h
unknown_ends book m (proposal.Amend a) h = absurd h

not_at_hand_ends : (book : Book) (m : Plain) (p : Proposal) → IsNotAtHand book m p → (exec_of book p m).ending ≡ ledger.NotInstalled
unfolding exec_of
not_at_hand_ends book m (proposal.Call c) h = ap (λ found. (execute found (given_by book.edition c) m).ending) h
not_at_hand_ends book m (proposal.Upgrade u) h = ap upgrade_ending h
not_at_hand_ends book m (proposal.Amend a) h = absurd h

bad_policy_ends : (book : Book) (m : Plain) (p : Proposal) → HasBadPolicy book p → (exec_of book p m).ending ≡ ledger.BadPolicy
unfolding exec_of
bad_policy_ends book m (proposal.Call c) h = absurd h
bad_policy_ends book m (proposal.Upgrade u) h = ap upgrade_ending h
bad_policy_ends book m (proposal.Amend a) h = absurd h

not_next_ends : (book : Book) (m : Plain) (p : Proposal) → IsNotNext book m p → (exec_of book p m).ending ≡ ledger.BadMembership
unfolding exec_of
not_next_ends book m (proposal.Call c) h = absurd h
not_next_ends book m (proposal.Upgrade u) h = absurd h
not_next_ends book m (proposal.Amend a) h = ap amend_ending h

module _ {X : Type 0} (book : Book) (valid : AreValid book) (m : Plain) (p : Proposal) (x : X) (result : Result X SimRefusal) where
  abbrev wanted : Result X SimRefusal
  wanted = done_or_refusal (exec_of book p m).ending x

  -- a refusal that is no want of memory, and that an ending is
  told_where : (r : SimRefusal) (e : ledger.Ending) → done_or_refusal e x ≡ Err r → (Answers wanted (Err r) → wanted ≡ Err r) →
      (Says {X = X} book m p (Err r) → (exec_of book p m).ending ≡ e) → Answers wanted result → IsToldWhere r (Says {X = X} book m p (Err r)) result
  told_where r e is known ends h = record {
    only = λ same. subst (Says book m p) (known (subst (Answers wanted) same h)) (exec_says x book m valid p);
    told = λ so. subst (λ w. Answers w result) (ap (λ ending. done_or_refusal ending x) (ends so) ∙ is) h;
  }

  pub unknown_told : Answers wanted result → IsToldWhere refusal.UnknownChaincode (IsUnknown book m p) result
  unknown_told = told_where refusal.UnknownChaincode ledger.Unknown refl (λ a. a) (unknown_ends book m p)

  pub not_installed_told : Answers wanted result → IsToldWhere refusal.NotInstalled (IsNotAtHand book m p) result
  not_installed_told = told_where refusal.NotInstalled ledger.NotInstalled refl (λ a. a) (not_at_hand_ends book m p)

  pub bad_policy_told : Answers wanted result → IsToldWhere refusal.BadPolicy (HasBadPolicy book p) result
  bad_policy_told = told_where refusal.BadPolicy ledger.BadPolicy refl (λ a. a) (bad_policy_ends book m p)

  pub bad_membership_told : Answers wanted result → IsToldWhere refusal.BadMembership (IsNotNext book m p) result
  bad_membership_told = told_where refusal.BadMembership ledger.BadMembership refl (λ a. a) (not_next_ends book m p)

-- the same of what is made of the parts that were executed on a state
module _ (make : Parts → Payload) (book : Book) (valid : AreValid book) (m : Versioned) (p : Proposal) (executed : Result Parts SimRefusal) where
  abbrev comes_to : ledger.Outcome
  comes_to = exec_of book p (values_of m)

  module _ (h : Answers (done_or_refusal comes_to.ending (parts_of m comes_to.seen)) executed) (result : Result Payload SimRefusal)
      (is : map_ok make executed ≡ result) where
    pub then_answers : Answers (done_or_refusal comes_to.ending (make (parts_of m comes_to.seen))) result
    then_answers =
        subst (Answers (done_or_refusal comes_to.ending (make (parts_of m comes_to.seen)))) is
        (answers_made make comes_to.ending (parts_of m comes_to.seen) executed h)

    pub then_unknown : IsToldWhere refusal.UnknownChaincode (IsUnknown book (values_of m) p) result
    then_unknown = unknown_told book valid (values_of m) p (make (parts_of m comes_to.seen)) result then_answers

    pub then_not_installed : IsToldWhere refusal.NotInstalled (IsNotAtHand book (values_of m) p) result
    then_not_installed = not_installed_told book valid (values_of m) p (make (parts_of m comes_to.seen)) result then_answers

    pub then_bad_policy : IsToldWhere refusal.BadPolicy (HasBadPolicy book p) result
    then_bad_policy = bad_policy_told book valid (values_of m) p (make (parts_of m comes_to.seen)) result then_answers

    pub then_bad_membership : IsToldWhere refusal.BadMembership (IsNotNext book (values_of m) p) result
    then_bad_membership = bad_membership_told book valid (values_of m) p (make (parts_of m comes_to.seen)) result then_answers
