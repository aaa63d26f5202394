-- An execution by a book of valid modules depends only on what it read.
use Rattle.std.proofs.Common.{ℕ, zero, suc, Bool, true, false, cond, List, [], ◌∷◌, ◌++◌, map, Option, Some, None, refl, option_map, slice_get}
use Rattle.std.specs.Prelude.{IfSome}
use Rattle.std.specs.Option.{option_and_then, option_or}
use Rattle.std.specs.List.{find, AllByRecursion}
use Rattle.fab_types.specs.declared.proposal.Proposal.{Proposal}
use Rattle.fab_types.specs.declared.proposal.Proposal.TheVariants as proposal
use Rattle.fab_types.specs.Memberships.{membership_key}
use Rattle.fab_types.specs.Spelling.{definition_bytes, membership_bytes}
use Rattle.ledger_model.specs.Chain.{Bytes}
use Rattle.ledger_model.specs.Views.{Plain}
use Rattle.ledger_model.specs.Execution as ledger
use Rattle.ledger_model.specs.Defined.{IsAlone, called, upgraded, definition_key}
use Rattle.wasm_ast.specs.declared.module.Module.{Module}
use Rattle.wasm_typing.specs.ModuleRules.{IsValid}
use Rattle.endorsement_policy.specs.Installed.{place_of, usable_in}
use Rattle.endorsement_policy.specs.Membership.{is_next}
use Rattle.endorsement_policy.specs.declared.installed.ModuleId.{ModuleId}
use Rattle.endorsement_policy.specs.declared.installed.ModulePlace.{ModulePlace}
use Rattle.endorsement_policy.specs.declared.installed.ModulePlace.TheVariants as at
use Rattle.endorsement_policy.specs.declared.installed.Usable.{Usable}
use Rattle.host_api.specs.Executing as host
use Rattle.host_api.specs.Given.{Given}
use Rattle.chaincode_book.specs.declared.book.Chaincode.{Chaincode}
use Rattle.chaincode_book.specs.declared.book.Held.{Held}
use Rattle.chaincode_book.specs.Books.{Book, AreValid, modules_of, chaincode_at, installed_module, module_at_hand}
use Rattle.simulator.specs.Execution.{Defined, Executable, amend_ending, put_of, execute, executable_at, executable_by, executable_definition, genesis_executable, not_executed, upgrade_ending, usable_executable, with_fuel, exec_of, given_by}

all_found : {X : Type 0} (P : X → Type 0) (test : X → Bool) (xs : List X) → AllByRecursion P xs → IfSome (find test xs) P
all_found P test [] h = tt
all_found {X} P test (x ∷ xs) h =
    elim (test x) as (λ b. IfSome (cond b (Some x) (find test xs)) P) [ true ↦ h.0 | false ↦ all_found P test xs h.1 ]

all_at : {X : Type 0} (P : X → Type 0) (xs : List X) (n : ℕ) → AllByRecursion P xs → IfSome (slice_get xs n) P
all_at P [] n h = tt
all_at P (x ∷ xs) zero h = h.0
all_at P (x ∷ xs) (suc n) h = all_at P xs n h.1

all_mapped : {X Y : Type 0} (P : Y → Type 0) (f : X → Y) (xs : List X) (ys : List Y) → AllByRecursion (λ x. P (f x)) xs → AllByRecursion P ys →
    AllByRecursion P (map f xs ++ ys)
all_mapped P f [] ys h k = k
all_mapped P f (x ∷ xs) ys h k = (h.0, all_mapped P f xs ys h.1 k)

if_mapped : {X Y : Type 0} (P : Y → Type 0) (f : X → Y) (o : Option X) → IfSome o (λ x. P (f x)) → IfSome (option_map f o) P
if_mapped P f None h = tt
if_mapped P f (Some x) h = h

if_then : {X Y : Type 0} (P : Y → Type 0) (f : X → Option Y) (o : Option X) → ((x : X) → IfSome (f x) P) → IfSome (option_and_then f o) P
if_then P f None h = tt
if_then P f (Some x) h = h x

if_or : {X : Type 0} (P : X → Type 0) (o p : Option X) → IfSome o P → IfSome p P → IfSome (option_or o p) P
if_or P None p h k = k
if_or P (Some x) p h k = h

-- what a call executes is valid, where it is at hand
abbrev pub IsFitIn : Defined → Type 0
IsFitIn defined = IfSome defined (λ e. IsValid e.module)

abbrev pub IsFit : Option Defined → Type 0
IsFit found = IfSome found IsFitIn

module _ (book : Book) (valid : AreValid book) where
  genesis_fit : (name : Bytes) → IsFit (genesis_executable book name)
  genesis_fit name =
      if_mapped IsFitIn (λ (c : Chaincode). Some (with_fuel c.fuel c.module)) (chaincode_at book.chaincodes name)
      (all_found (λ (c : Chaincode). IsValid c.module) _ book.chaincodes valid.chaincodes)

  installed_valid : (place : ℕ) → IfSome (slice_get (modules_of book) place) IsValid
  installed_valid place =
      all_at IsValid (modules_of book) place
      (all_mapped IsValid (λ (c : Chaincode). c.module) book.chaincodes book.modules valid.chaincodes valid.modules)

  at_hand_valid : (id : ModuleId) → IfSome (module_at_hand book id) IsValid
  at_hand_valid id =
      if_or IsValid (installed_module book id) _
      (if_then IsValid (slice_get (modules_of book)) (place_of book.installed.modules id.digest id.profile) installed_valid)
      (if_mapped IsValid (λ (h : Held). h.module) _ (all_found (λ (h : Held). IsValid h.module) _ book.held valid.held))

  place_fit : (place : ModulePlace) (fuel : ℕ) → IsFit (executable_at book place fuel)
  place_fit (at.Installed place) fuel =
      if_mapped IsFitIn (λ (m : Module). Some (with_fuel fuel m)) (slice_get (modules_of book) place) (installed_valid place)
  place_fit (at.Named id) fuel = if_mapped (λ (e : Executable). IsValid e.module) (with_fuel fuel) (module_at_hand book id) (at_hand_valid id)

  pub executable_fit : (name : Bytes) (value : Option Bytes) → IsFit (executable_by book name value)
  executable_fit name None = genesis_fit name
  executable_fit name (Some bytes) =
      if_then IsFitIn (usable_executable book) (usable_in book.installed bytes) (λ (u : Usable). place_fit u.place u.fuel)

not_executed_alone : (ending : ledger.Ending) → IsAlone (not_executed ending)
not_executed_alone ending = record { truthful = λ m. record { reads = tt; ranges = tt }; only = λ m n h. refl }

put_alone : (key value : Bytes) (ending : ledger.Ending) → IsAlone (λ m. put_of key value ending)
put_alone key value ending = record { truthful = λ m. record { reads = tt; ranges = tt }; only = λ m n h. refl }

-- what is known of each valid module
module _ (alone : (wasm : Module) (fuel : ℕ) (given : Given) → IsValid wasm → host.ReadsAlone wasm fuel given) where
  executed_alone : (found : Option Defined) → IsFit found → (given : Given) → IsAlone (execute found given)
  executed_alone None fit given = not_executed_alone ledger.Unknown
  executed_alone (Some None) fit given = not_executed_alone ledger.NotInstalled
  executed_alone (Some (Some e)) fit given =
      let is = alone e.module e.fuel given fit in record { truthful = λ m. is.truthful m; only = λ m n h. is.only m n h }

  -- and of executions that read a definition
  module _
      (calls : (key : Bytes) (run : Option Bytes → Plain → ledger.Outcome) → ((value : Option Bytes) → IsAlone (run value)) → IsAlone (called key run))
      (upgrades : (key value : Bytes) (ending : ledger.Ending) → IsAlone (upgraded key value ending)) (book : Book) (valid : AreValid book) where
    pub each_alone : (p : Proposal) → IsAlone (exec_of book p)
    unfolding exec_of
    each_alone (proposal.Call c) =
        let given = given_by book.edition c in
        calls (definition_key c.chaincode) (λ value. execute (executable_by book c.chaincode value) given)
        (λ value. executed_alone (executable_by book c.chaincode value) (executable_fit book valid c.chaincode value) given)
    each_alone (proposal.Upgrade u) =
        upgrades (definition_key u.chaincode) (definition_bytes u.definition) (upgrade_ending (executable_definition book u.definition))
    each_alone (proposal.Amend a) =
        let bytes = membership_bytes a.membership in
        let ends : Option Bytes → ledger.Ending = λ value. amend_ending (is_next book.installed.orgs value a.membership) in
        calls membership_key (λ value m. put_of membership_key bytes (ends value)) (λ value. put_alone membership_key bytes (ends value))
