-- Who has fewer modules at hand comes to what who has more comes to, or ends as where a module is not at hand.
use Rattle.std.proofs.Common.{◌≡◌, ◌⊎◌, inl, inr, ℕ, Bool, true, false, cond, ◌++◌, map, Option, Some, None, Result, Err, refl, sym, ap, ◌∙◌, option_map, slice_get, is_some, subst}
use Rattle.std.specs.Prelude.{◌||◌, not}
use Rattle.std.specs.Option.{option_and_then}
use Rattle.std.specs.FinMap.{get}
use Rattle.fab_types.specs.Memberships.{membership_key}
use Rattle.fab_types.specs.Spelling.{definition_bytes, membership_bytes}
use Rattle.fab_types.specs.declared.definition.Definition.{Definition}
use Rattle.fab_types.specs.declared.edition.Edition.{Edition}
use Rattle.fab_types.specs.declared.proposal.Proposal.{Proposal}
use Rattle.fab_types.specs.declared.proposal.Proposal.TheVariants as proposal
use Rattle.ledger_model.specs.Chain.{Bytes}
use Rattle.ledger_model.specs.Views.{Plain}
use Rattle.ledger_model.specs.Execution as ledger
use Rattle.ledger_model.specs.Defined.{definition_key, upgraded, with_read}
use Rattle.wasm_ast.specs.declared.module.Module.{Module}
use Rattle.endorsement_policy.specs.Installed.{Installed, id_of, usable_by, usable_in}
use Rattle.endorsement_policy.specs.declared.fault.DefinitionFault.{DefinitionFault}
use Rattle.endorsement_policy.specs.declared.fault.DefinitionFault.TheVariants as fault
use Rattle.endorsement_policy.specs.declared.installed.ModuleId.{ModuleId}
use Rattle.endorsement_policy.specs.declared.installed.ModulePlace.{ModulePlace}
use Rattle.endorsement_policy.specs.declared.installed.ModulePlace.TheVariants as at
use Rattle.endorsement_policy.specs.declared.installed.Usable.{Usable}
use Rattle.chaincode_book.specs.declared.book.Chaincode.{Chaincode}
use Rattle.chaincode_book.specs.Books.{Book, modules_of, chaincode_at, module_at_hand}
use Rattle.endorsement_policy.specs.Membership.{is_next}
use Rattle.simulator.specs.Execution.{Defined, IsPartOf, amend_ending, exec_of, execute, executable_at, executable_by, executable_definition, given_by, is_at_hand, spelled_executable, upgrade_ending, usable_executable, with_fuel}

-- the same, or as where something is missing
abbrev IsAlike : {X : Type 0} → (missing part whole : X) → Type 0
IsAlike missing part whole = (part ≡ whole) ⊎ (part ≡ missing)

alike_made : {X Y : Type 0} (f : X → Y) (missing part whole : X) → IsAlike missing part whole → IsAlike (f missing) (f part) (f whole)
alike_made f missing part whole (inl same) = inl (ap f same)
alike_made f missing part whole (inr none) = inr (ap f none)

module _ (part whole : Book) (is : IsPartOf part whole) where
  at_hand_alike : (id : ModuleId) → IsAlike None (module_at_hand part id) (module_at_hand whole id)
  at_hand_alike id =
      elim (module_at_hand part id) as (λ o. module_at_hand part id ≡ o → IsAlike None (module_at_hand part id) (module_at_hand whole id)) [
        | None ↦ λ e. inr e
        | Some m ↦ λ e. inl (e ∙ sym (is.at_hand id m e))
      ] refl

  modules_alike : modules_of part ≡ modules_of whole
  modules_alike i = map (λ (c : Chaincode). c.module) (is.chaincodes i) ++ is.modules i

  -- ---- what a call executes

  place_alike : (place : ModulePlace) (fuel : ℕ) → IsAlike (Some None) (executable_at part place fuel) (executable_at whole place fuel)
  place_alike (at.Installed place) fuel = inl (ap (λ ms. option_map (λ (m : Module). Some (with_fuel fuel m)) (slice_get ms place)) modules_alike)
  place_alike (at.Named id) fuel =
      let run : Option Module → Option Defined = λ o. Some (option_map (with_fuel fuel) o) in
      alike_made run None (module_at_hand part id) (module_at_hand whole id) (at_hand_alike id)

  usable_alike : (o : Option Usable) →
      IsAlike (Some None) (option_and_then (usable_executable part) o) (option_and_then (usable_executable whole) o)
  usable_alike None = inl refl
  usable_alike (Some u) = place_alike u.place u.fuel

  executable_alike : (name : Bytes) (value : Option Bytes) → IsAlike (Some None) (executable_by part name value) (executable_by whole name value)
  executable_alike name None = inl (ap (λ cs. option_map (λ (c : Chaincode). Some (with_fuel c.fuel c.module)) (chaincode_at cs name)) is.chaincodes)
  executable_alike name (Some bytes) =
      subst (λ (i : Installed). IsAlike (Some None) (spelled_executable part bytes) (option_and_then (usable_executable whole) (usable_in i bytes)))
      is.installed (usable_alike (usable_in part.installed bytes))

  -- ---- what a definition comes to

  hand_alike : (d : Definition) → IsAlike false (is_at_hand part d) (is_at_hand whole d)
  hand_alike d =
      elim d.is_open as (λ b. IsAlike false (not b || is_some (module_at_hand part (id_of d))) (not b || is_some (module_at_hand whole (id_of d)))) [
        | false ↦ inl refl
        | true ↦ alike_made is_some None (module_at_hand part (id_of d)) (module_at_hand whole (id_of d)) (at_hand_alike (id_of d))
      ]

  definition_alike : (d : Definition) → IsAlike (Err fault.NotInstalled) (executable_definition part d) (executable_definition whole d)
  definition_alike d =
      let come : Installed → Bool → Result Usable DefinitionFault = λ i b. cond b (usable_by i d) (Err fault.NotInstalled) in
      subst (λ (i : Installed). IsAlike (Err fault.NotInstalled) (come part.installed (is_at_hand part d)) (come i (is_at_hand whole d))) is.installed
      (alike_made (come part.installed) false (is_at_hand part d) (is_at_hand whole d) (hand_alike d))

  -- ---- what a proposal comes to

  ends_alike : (missing one other : ledger.Outcome) → missing.ending ≡ ledger.NotInstalled → IsAlike missing one other →
      (one ≡ other) ⊎ (one.ending ≡ ledger.NotInstalled)
  ends_alike missing one other is (inl same) = inl same
  ends_alike missing one other is (inr none) = inr (ap (λ (o : ledger.Outcome). o.ending) none ∙ is)

  pub exec_alike : (p : Proposal) (m : Plain) → (exec_of part p m ≡ exec_of whole p m) ⊎ ((exec_of part p m).ending ≡ ledger.NotInstalled)
  unfolding exec_of
  exec_alike (proposal.Call c) m =
      let value = get m (definition_key c.chaincode) in
      let run : Edition → Option Defined → ledger.Outcome =
      λ edition found. with_read (definition_key c.chaincode) value (execute found (given_by edition c) m) in
      let there = executable_by whole c.chaincode value in
      ends_alike (run part.edition (Some None)) _ _ refl
      (subst (λ (edition : Edition). IsAlike (run part.edition (Some None)) (run part.edition (executable_by part c.chaincode value)) (run edition there))
      is.edition (alike_made (run part.edition) (Some None) _ _ (executable_alike c.chaincode value)))
  exec_alike (proposal.Upgrade u) m =
      let run : Result Usable DefinitionFault → ledger.Outcome =
      λ r. upgraded (definition_key u.chaincode) (definition_bytes u.definition) (upgrade_ending r) m in
      ends_alike (run (Err fault.NotInstalled)) _ _ refl (alike_made run (Err fault.NotInstalled) _ _ (definition_alike u.definition))
  exec_alike (proposal.Amend a) m =
      let run : Installed → ledger.Outcome =
      λ i. upgraded membership_key (membership_bytes a.membership) (amend_ending (is_next i.orgs (get m membership_key) a.membership)) m in
      inl (ap run is.installed)
