-- What executing a proposal on a plain state comes to, by a book.
use Rattle.std.specs.Prelude.{◌≡◌, ◌||◌, ℕ, Bool, true, false, [], ◌∷◌, Option, Some, None, Result, Ok, Err, option_map, slice_get, is_some, not, if◌then◌else◌}
use Rattle.std.specs.Option.{option_and_then}
use Rattle.std.specs.FinMap.{get}
use Rattle.fab_types.specs.Namespaces.{namespace}
use Rattle.fab_types.specs.declared.edition.Edition.{Edition}
use Rattle.fab_types.specs.declared.proposal.Call.{Call}
use Rattle.fab_types.specs.declared.proposal.Proposal.{Proposal}
use Rattle.fab_types.specs.declared.proposal.Proposal.TheVariants as proposal
use Rattle.fab_types.specs.Memberships.{membership_key}
use Rattle.fab_types.specs.Spelling.{definition_bytes, membership_bytes}
use Rattle.fab_types.specs.declared.definition.Definition.{Definition}
use Rattle.ledger_model.specs.Chain.{Bytes}
use Rattle.ledger_model.specs.Views.{Plain}
use Rattle.ledger_model.specs.Execution as ledger
use Rattle.ledger_model.specs.Execution.{Outcome, Exec}
use Rattle.ledger_model.specs.Defined.{definition_key, definition_by, definition_in, called, upgraded}
use Rattle.wasm_ast.specs.declared.module.Module.{Module}
use Rattle.endorsement_policy.specs.Installed.{id_of, usable_by, usable_in}
use Rattle.endorsement_policy.specs.Membership.{is_next}
use Rattle.endorsement_policy.specs.declared.installed.ModuleId.{ModuleId}
use Rattle.endorsement_policy.specs.declared.installed.ModulePlace.{ModulePlace}
use Rattle.endorsement_policy.specs.declared.installed.ModulePlace.TheVariants as at
use Rattle.endorsement_policy.specs.declared.installed.Usable.{Usable}
use Rattle.endorsement_policy.specs.declared.fault.DefinitionFault.{DefinitionFault}
use Rattle.endorsement_policy.specs.declared.fault.DefinitionFault.TheVariants as fault
use Rattle.host_api.specs.Given.{Given}
use Rattle.host_api.specs.Recorded.{nothing_recorded, seen_on}
use Rattle.host_api.specs.Executing.{outcome}
use Rattle.chaincode_book.specs.Books.{Book, modules_of, chaincode_at, module_at_hand}
use Rattle.simulator.specs.declared.executable.Executable as borrowed
use Rattle.simulator.specs.declared.executable.Found.{Found}
use Rattle.simulator.specs.declared.executable.Found.TheVariants as found

-- what a call executes, and what it may spend
pub record Executable : Type 0 where
  pub «module» : Module
  pub fuel : ℕ

-- what a definition that can be used comes to in a book: what a call executes, or None where the module is not at hand
abbrev pub Defined : Type 0
Defined = Option Executable

abbrev pub with_fuel : ℕ → Module → Executable
with_fuel fuel m = record { «module» = m; fuel = fuel }

-- as it is borrowed from a book
abbrev pub shown : borrowed.Executable → Executable
shown e = with_fuel e.fuel e.module.now

-- what was found in a book
abbrev pub found_as : Found → Defined
found_as found.NotAtHand = None
found_as (found.AtHand e) = Some (shown e)

-- as the genesis defines the chaincode
abbrev pub genesis_executable : Book → Bytes → Option Defined
genesis_executable book name = option_map (λ c. Some (with_fuel c.fuel c.module)) (chaincode_at book.chaincodes name)

-- an installed module is at hand; any other is looked for
abbrev pub executable_at : Book → ModulePlace → (fuel : ℕ) → Option Defined
executable_at book (at.Installed place) fuel = option_map (λ m. Some (with_fuel fuel m)) (slice_get (modules_of book) place)
executable_at book (at.Named id) fuel = Some (option_map (with_fuel fuel) (module_at_hand book id))

-- by a definition that can be used
abbrev pub usable_executable : Book → Usable → Option Defined
usable_executable book u = executable_at book u.place u.fuel

-- by the bytes of a definition
abbrev pub spelled_executable : Book → Bytes → Option Defined
spelled_executable book bytes = option_and_then (usable_executable book) (usable_in book.installed bytes)

-- where the key of the definition has this value
abbrev pub executable_by : Book → (name : Bytes) → (value : Option Bytes) → Option Defined
executable_by book name value = definition_by (genesis_executable book name) (spelled_executable book) value

-- what a call of the chaincode executes on a state
abbrev pub executable_in : Book → Plain → (name : Bytes) → Option Defined
executable_in book m name = definition_in (genesis_executable book) (spelled_executable book) m name

-- nothing is executed
abbrev pub not_executed : ledger.Ending → Plain → Outcome
not_executed ending m = record { ending = ending; seen = seen_on m nothing_recorded }

-- what the execution of a call is given
abbrev pub given_by : Edition → Call → Given
given_by edition c = record { argument = c.argument; namespace = namespace edition c.chaincode }

-- `invoke` of the module with the fuel, and with what is given
abbrev pub execute : Option Defined → Given → Plain → Outcome
execute None given m = not_executed ledger.Unknown m
execute (Some None) given m = not_executed ledger.NotInstalled m
execute (Some (Some e)) given m = outcome e.module e.fuel given m

-- the module of an open definition is at hand; that of a closed one is to be installed, which `usable_by` asks for
abbrev pub is_at_hand : Book → Definition → Bool
is_at_hand book d = not d.is_open || is_some (module_at_hand book (id_of d))

-- what a definition comes to where it is to be executed too
abbrev pub executable_definition : Book → Definition → Result Usable DefinitionFault
executable_definition book d = if is_at_hand book d then usable_by book.installed d else Err fault.NotInstalled

-- how an upgrade ends, by what its definition comes to
abbrev pub upgrade_ending : Result Usable DefinitionFault → ledger.Ending
upgrade_ending (Ok u) = ledger.Done
upgrade_ending (Err fault.NotInstalled) = ledger.NotInstalled
upgrade_ending (Err fault.BadPolicy) = ledger.BadPolicy

-- how an amendment ends, by whether its membership may come next
abbrev pub amend_ending : Bool → ledger.Ending
amend_ending true = ledger.Done
amend_ending false = ledger.BadMembership

-- nothing is read, and a value is put at a key
abbrev pub put_of : (key value : Bytes) → ledger.Ending → Outcome
put_of key value ending =
    record { ending = ending; seen = record { reads = []; ranges = []; result = []; writes = record { key = key; value = Some value } ∷ [] } }

-- A call reads the key of its chaincode's definition and executes by what it has; an upgrade reads the key and puts its definition there; an
-- amendment reads the key of the membership and puts its own there, if that may come next.
unfoldable pub exec_of : Book → Exec
exec_of book (proposal.Call c) = called (definition_key c.chaincode) (λ value. execute (executable_by book c.chaincode value) (given_by book.edition c))
exec_of book (proposal.Upgrade u) =
    upgraded (definition_key u.chaincode) (definition_bytes u.definition) (upgrade_ending (executable_definition book u.definition))
exec_of book (proposal.Amend a) =
    called membership_key (λ value m.
    put_of membership_key (membership_bytes a.membership) (amend_ending (is_next book.installed.orgs value a.membership)))

-- a call of a chaincode that has no definition that can be used
abbrev pub IsUnknown : Book → Plain → Proposal → Type 0
IsUnknown book m (proposal.Call c) = executable_in book m c.chaincode ≡ None
IsUnknown book m (proposal.Upgrade u) = ⊥
IsUnknown book m (proposal.Amend a) = ⊥

-- a call under an open definition, or an upgrade, whose module is not at hand
abbrev pub IsNotAtHand : Book → Plain → Proposal → Type 0
IsNotAtHand book m (proposal.Call c) = executable_in book m c.chaincode ≡ Some None
IsNotAtHand book m (proposal.Upgrade u) = executable_definition book u.definition ≡ Err fault.NotInstalled
IsNotAtHand book m (proposal.Amend a) = ⊥

-- an upgrade to a definition whose text is no policy
abbrev pub HasBadPolicy : Book → Proposal → Type 0
HasBadPolicy book (proposal.Call c) = ⊥
HasBadPolicy book (proposal.Upgrade u) = executable_definition book u.definition ≡ Err fault.BadPolicy
HasBadPolicy book (proposal.Amend a) = ⊥

-- an amendment to a membership that may not come next
abbrev pub IsNotNext : Book → Plain → Proposal → Type 0
IsNotNext book m (proposal.Call c) = ⊥
IsNotNext book m (proposal.Upgrade u) = ⊥
IsNotNext book m (proposal.Amend a) = is_next book.installed.orgs (get m membership_key) a.membership ≡ false

-- the same genesis, and what is at hand in the one is the same in the other
pub record IsPartOf (part whole : Book) : Type 0 where
  pub edition : part.edition ≡ whole.edition
  pub chaincodes : part.chaincodes ≡ whole.chaincodes
  pub modules : part.modules ≡ whole.modules
  pub installed : part.installed ≡ whole.installed
  pub at_hand : (id : ModuleId) (m : Module) → module_at_hand part id ≡ Some m → module_at_hand whole id ≡ Some m
