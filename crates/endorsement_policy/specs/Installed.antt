-- Which definitions of chaincodes can be used, and as what.
use Rattle.std.specs.Prelude.{◌≡◌, ℕ, List, Option, Some, None, Result, Ok, Err, bytes_eq, ◌==◌, ◌&&◌, ◌||◌, Bool, true, false, not, is_some, if◌then◌else◌}
use Rattle.std.specs.Prelude.{map, option_map, slice_get}
use Rattle.std.specs.List.{position}
use Rattle.std.specs.Result.{result_ok}
use Rattle.wasm_profile.specs.Numbers.{number_of}
use Rattle.wasm_profile.specs.declared.profile.Profile.{Profile}
use Rattle.grammar.specs.Reading.{◌>>=◌, whole_at}
use Rattle.fab_types.specs.declared.definition.Definition.{Definition}
use Rattle.wire.specs.Reading.{definition_at}
use Rattle.policy_language.specs.GoodSets.{Names}
use Rattle.policy_language.specs.Names.{names_in_text}
use Rattle.policy_language.specs.Reading.{policy_in_text}
use Rattle.policy_language.specs.declared.policy.Policy.{Policy}
use Rattle.org_keys.specs.declared.organisation.Organisation.{Organisation}
use Rattle.endorsement_policy.specs.declared.fault.DefinitionFault.{DefinitionFault}
use Rattle.endorsement_policy.specs.declared.fault.DefinitionFault.TheVariants.{NotInstalled, BadPolicy}
use Rattle.endorsement_policy.specs.declared.installed.ModuleId.{ModuleId}
use Rattle.endorsement_policy.specs.declared.installed.ModulePlace.{ModulePlace}
use Rattle.endorsement_policy.specs.declared.installed.ModulePlace.TheVariants as at
use Rattle.endorsement_policy.specs.declared.installed.Usable.{Usable}

-- what every peer has installed: the ids of the modules, and the organisations of the genesis, whose names a policy may have and whose keys
-- their members may keep
pub record Installed : Type 0 where
  pub modules : List ModuleId
  pub orgs : List Organisation

abbrev pub org_names : List Organisation → Names
org_names orgs = map (λ o. o.name) orgs

-- digest and profile are the same
abbrev pub is_id : ModuleId → ModuleId → Bool
is_id id m = bytes_eq m.digest id.digest && number_of m.profile == number_of id.profile

-- where a module of this digest and this profile stands; of two modules with both the first counts
abbrev pub place_of : List ModuleId → List ℕ → Profile → Option ℕ
place_of modules digest profile = position (is_id (record { digest = digest; profile = profile })) modules

-- what its module is known by
abbrev pub id_of : Definition → ModuleId
id_of d = record { digest = d.digest; profile = d.profile }

-- which module a definition means: an open one whichever is at hand under its id, a closed one the first that is installed
abbrev pub place_for : Installed → Definition → Option ModulePlace
place_for i d = if d.is_open then Some (at.Named (id_of d)) else option_map at.Installed (place_of i.modules d.digest d.profile)

-- the organisations whose names its policy may have: any, if it is open
abbrev pub names_for : Installed → Definition → Names
names_for i d = if d.is_open then names_in_text d.policy else org_names i.orgs

-- what a place, a fuel and a policy come to
abbrev pub used_at : Option ModulePlace → ℕ → Option Policy → Result Usable DefinitionFault
used_at None fuel policy = Err NotInstalled
used_at (Some place) fuel None = Err BadPolicy
used_at (Some place) fuel (Some policy) = Ok (record { place = place; fuel = fuel; policy = policy })

-- what a definition comes to: the module of a closed one is to be installed, and its text is to be a policy
abbrev pub usable_by : Installed → Definition → Result Usable DefinitionFault
usable_by i d = used_at (place_for i d) d.fuel (policy_in_text (names_for i d) d.policy)

-- the policy of an open definition is one of these organisations
abbrev pub names_known : Names → Definition → Bool
names_known orgs d = not d.is_open || is_some (policy_in_text orgs d.policy)

-- what the bytes of a definition come to, where they spell one that can be used
abbrev pub usable_in : Installed → List ℕ → Option Usable
usable_in i bytes = whole_at definition_at bytes >>= λ d. result_ok (usable_by i d)

-- the module that a definition means stands there
abbrev pub IsPlaced : Installed → Definition → ModulePlace → Type 0
IsPlaced i d (at.Installed place) = (d.is_open ≡ false) × (slice_get i.modules place ≡ Some (id_of d))
IsPlaced i d (at.Named id) = (d.is_open ≡ true) × (id ≡ id_of d)
