-- What a definition that can be used comes to.
use Rattle.std.proofs.Common.{◌≡◌, ℕ, Bool, true, false, cond, eqb, List, Option, Some, None, Result, Ok, Err, option_map, slice_get, get_or, ◌&&◌, refl, ap, subst}
use Rattle.std.proofs.Common.{◌∙◌}
use Rattle.std.specs.Prelude.{◌||◌, bytes_eq, is_some, not}
use Rattle.std.specs.Result.{result_ok}
use Rattle.std.proofs.lemmas.Bool.{and_parts}
use Rattle.std.proofs.lemmas.List.Quantifiers.{position-Some}
use Rattle.std.proofs.lemmas.Option.{same_Some, slice_get-get_or}
use Rattle.std.proofs.lemmas.Slice.Eq.{bytes_eq-Decides}
use Rattle.wasm_profile.specs.Numbers.{number_of}
use Rattle.wasm_profile.specs.declared.profile.Profile.{Profile}
use Rattle.wasm_profile.specs.declared.profile.Profile.TheVariants.{Core1, SignExtension}
use Rattle.fab_types.specs.Limits.{IsPolicyText}
use Rattle.fab_types.specs.declared.definition.Definition.{Definition}
use Rattle.grammar.specs.Reading.{whole_at}
use Rattle.grammar.specs.Laws.Steps.{bind_some}
use Rattle.wire.specs.Reading.{definition_at}
use Rattle.fab_types.specs.Spelling.{definition_bytes}
use Rattle.fab_types.specs.Within.{IsDefinition}
use Rattle.wire.proofs.Codec.{whole_known, whole_read}
use Rattle.wire.proofs.DefinitionLaws.{definition}
use Rattle.policy_language.specs.GoodSets.{Names, needs_someone}
use Rattle.endorsement_policy.specs.Endorsed.{defined_policy}
use Rattle.endorsement_policy.specs.Installed.{Installed, IsPlaced, id_of, names_for, names_known, org_names, place_for, place_of, used_at}
use Rattle.endorsement_policy.specs.Installed.{usable_by, usable_in}
use Rattle.policy_language.specs.Limits.{IsText}
use Rattle.policy_language.specs.Reading.{policy_in_text}
use Rattle.endorsement_policy.specs.declared.installed.ModuleId.{ModuleId}
use Rattle.endorsement_policy.specs.declared.installed.ModulePlace.{ModulePlace}
use Rattle.endorsement_policy.specs.declared.installed.ModulePlace.TheVariants as at
use Rattle.endorsement_policy.specs.declared.installed.Usable.{Usable}
use Rattle.policy_language.specs.declared.policy.Policy.{Policy}
use Rattle.policy_language.specs.Names.{names_in_text}
use Rattle.policy_language.proofs.Named.{own_names}
use Rattle.policy_language.proofs.Whole.{same, strictly, text_needs, whole_found}

-- what a usable definition was made of
pub record Used (place : Option ModulePlace) (fuel : ℕ) (policy : Option Policy) (u : Usable) : Type 0 where
  pub place_is : place ≡ Some u.place
  pub fuel_is : u.fuel ≡ fuel
  pub policy_is : policy ≡ Some u.policy

pub used : (place : Option ModulePlace) (fuel : ℕ) (policy : Option Policy) (u : Usable) → used_at place fuel policy ≡ Ok u → Used place fuel policy u
used None fuel policy u e = absurd cc
used (Some place) fuel None u e = absurd cc
used (Some place) fuel (Some policy) u e =
    let made : Usable = record { place = place; fuel = fuel; policy = policy } in
    let same : made ≡ u = cc in
    subst (Used (Some place) fuel (Some policy)) same (record { place_is = refl; fuel_is = refl; policy_is = refl })

pub is_ok_of : {X E : Type 0} (r : Result X E) (x : X) → result_ok r ≡ Some x → r ≡ Ok x
is_ok_of (Ok y) x e = ap Ok (same_Some y x e)
is_ok_of (Err f) x e = absurd cc

-- no two profiles have one number
same_profile : (p q : Profile) → eqb (number_of p) (number_of q) ≡ true → p ≡ q
same_profile Core1 Core1 e = refl
same_profile Core1 SignExtension e = absurd cc
same_profile SignExtension Core1 e = absurd cc
same_profile SignExtension SignExtension e = refl

-- what was found first stands there
found_at : (modules : List ModuleId) (id : ModuleId) (place : ℕ) → place_of modules id.digest id.profile ≡ Some place → slice_get modules place ≡ Some id
found_at modules id place e =
    let h = position-Some (λ m. bytes_eq m.digest id.digest && eqb (number_of m.profile) (number_of id.profile)) modules place id e in
    let m = get_or modules place id in
    let both = and_parts (bytes_eq m.digest id.digest) (eqb (number_of m.profile) (number_of id.profile)) h.1 in
    let digest = (bytes_eq-Decides m.digest id.digest).0 both.0 in
    let profile = same_profile m.profile id.profile both.1 in
    let same : m ≡ id = λ i. record { digest = digest i; profile = profile i } in
    slice_get-get_or modules place id h.0 ∙ ap Some same

-- the module that a definition means stands there
placed_at : (i : Installed) (d : Definition) (place : ModulePlace) → place_for i d ≡ Some place → IsPlaced i d place
placed_at i d place e = by_kind d.is_open refl e
  where
    by_place : (o : Option ℕ) → place_of i.modules d.digest d.profile ≡ o → d.is_open ≡ false → option_map at.Installed o ≡ Some place → IsPlaced i d place
    by_place None is closed f = absurd cc
    by_place (Some n) is closed f = subst (IsPlaced i d) (same_Some (at.Installed n) place f) (closed, found_at i.modules (id_of d) n is)

    by_kind : (b : Bool) → d.is_open ≡ b →
        cond b (Some (at.Named (id_of d))) (option_map at.Installed (place_of i.modules d.digest d.profile)) ≡ Some place → IsPlaced i d place
    by_kind true is f = subst (IsPlaced i d) (same_Some (at.Named (id_of d)) place f) (is, refl)
    by_kind false is f = by_place (place_of i.modules d.digest d.profile) refl is f

module _ (i : Installed) (bytes : List ℕ) (u : Usable) where
  -- the definition that the bytes spell
  pub read : usable_in i bytes ≡ Some u → (d : Definition) × (whole_at definition_at bytes ≡ Some d) × (usable_by i d ≡ Ok u)
  read e =
      let s = bind_some (whole_at definition_at bytes) (λ d. result_ok (usable_by i d)) u e in
      (s.0, s.1, is_ok_of (usable_by i s.0) u s.2)

  pub known : usable_in i bytes ≡ Some u → (d : Definition) × IsDefinition d × (definition_bytes d ≡ bytes) × (usable_by i d ≡ Ok u)
  known e =
      let s = read e in
      let k = whole_known IsDefinition definition_bytes definition_at definition bytes s.0 s.1 in
      (s.0, k.0, k.1, s.2)

  pub again : (d : Definition) → IsDefinition d → definition_bytes d ≡ bytes → usable_by i d ≡ Ok u → usable_in i bytes ≡ Some u
  again d k e is =
      let some : whole_at definition_at bytes ≡ Some d = whole_read IsDefinition definition_bytes definition_at definition bytes d k e in
      rw (some, is) refl

pub defined_needs : (i : Installed) (bytes : List ℕ) (p : Policy) → defined_policy i bytes ≡ Some p → needs_someone p ≡ true
defined_needs i bytes p e = by_usable (usable_in i bytes) refl e
  where
    by_usable : (o : Option Usable) → usable_in i bytes ≡ o → option_map (λ u. u.policy) o ≡ Some p → needs_someone p ≡ true
    by_usable None is f = absurd cc
    by_usable (Some u) is f =
        let s = read i bytes u is in
        let h = used (place_for i s.0) s.0.fuel (policy_in_text (names_for i s.0) s.0.policy) u s.2 in
        text_needs (names_for i s.0) s.0.policy p (h.policy_is ∙ f)

module _ (i : Installed) (d : Definition) (u : Usable) (is : usable_by i d ≡ Ok u) where
  parts : Used (place_for i d) d.fuel (policy_in_text (names_for i d) d.policy) u
  parts = used (place_for i d) d.fuel (policy_in_text (names_for i d) d.policy) u is

  pub spelled : IsPolicyText d.policy → IsText (names_for i d) u.policy d.policy
  spelled limits = whole_found (names_for i d) d.policy u.policy limits.1 parts.policy_is

  -- where it is open and its names are known, it is a policy of those organisations
  pub of_known : (orgs : Names) → IsPolicyText d.policy → d.is_open ≡ true → names_known orgs d ≡ true → IsText orgs u.policy d.policy
  of_known orgs limits = by_kind d.is_open (spelled limits)
    where
      by_found : (o : Option Policy) → policy_in_text orgs d.policy ≡ o → IsText (names_in_text d.policy) u.policy d.policy → is_some o ≡ true →
          IsText orgs u.policy d.policy
      by_found None is h known = absurd cc
      by_found (Some p) is h known =
          let k = whole_found orgs d.policy p limits.1 is in
          let same_policy = same (names_in_text d.policy) d.policy p u.policy (own_names orgs p d.policy k) h in
          subst (λ (q : Policy). IsText orgs q d.policy) same_policy k

      by_kind : (b : Bool) → IsText (cond b (names_in_text d.policy) (org_names i.orgs)) u.policy d.policy → b ≡ true →
          (not b || is_some (policy_in_text orgs d.policy)) ≡ true → IsText orgs u.policy d.policy
      by_kind true h is known = by_found (policy_in_text orgs d.policy) refl h known
      by_kind false h is known = absurd cc

  pub placed : IsPlaced i d u.place × (u.fuel ≡ d.fuel)
  placed = (placed_at i d u.place parts.place_is, parts.fuel_is)

pub made : (i : Installed) (d : Definition) (place : ModulePlace) (p : Policy) → place_for i d ≡ Some place → IsText (names_for i d) p d.policy →
    usable_by i d ≡ Ok (record { place = place; fuel = d.fuel; policy = p })
made i d place p e h = rw (e, strictly (names_for i d) d.policy p h) refl
