-- The chaincodes that can be called, and the modules that are installed.
use Rattle.std.specs.Prelude.{◌≡◌, ◌≤◌, ◌+◌, ◌&&◌, ℕ, nat_le, nat_eq, Bool, true, not, List, [], ◌∷◌, ◌++◌, map, length, Option, option_map, slice_get}
use Rattle.std.specs.List.{find, list_all, list_any, AllByRecursion}
use Rattle.std.specs.Cmp.Lexicographic.{pointwise}
use Rattle.std.specs.Option.{option_and_then, option_or}
use Rattle.fab_types.specs.declared.edition.Edition.{Edition}
use Rattle.wasm_ast.specs.declared.module.Module.{Module}
use Rattle.wasm_typing.specs.ModuleRules.{IsValid}
use Rattle.endorsement_policy.specs.Installed.{Installed, is_id, place_of}
use Rattle.endorsement_policy.specs.declared.installed.ModuleId.{ModuleId}
use Rattle.chaincode_book.specs.declared.book.Chaincode.{Chaincode}
use Rattle.chaincode_book.specs.declared.book.Held.{Held}

-- the edition by which chaincode is executed, the chaincodes of the genesis, more modules, and what a definition can be used with: the ids of the
-- chaincodes' modules, then those of the modules; and what else a process has at hand
pub record Book : Type 0 where
  pub edition : Edition
  pub chaincodes : List Chaincode
  pub modules : List Module
  pub installed : Installed
  pub held : List Held

-- the installed modules, in the order of their ids
abbrev pub modules_of : Book → List Module
modules_of book = map (λ c. c.module) book.chaincodes ++ book.modules

abbrev pub is_named : List ℕ → Chaincode → Bool
is_named name c = pointwise nat_eq c.name name

-- a call may spend 1 to 10,000,000
abbrev pub has_fuel : Chaincode → Bool
has_fuel c = nat_le 1 c.fuel && nat_le c.fuel 10000000

-- no two have the same name
abbrev pub have_own_names : List Chaincode → Bool
have_own_names [] = true
have_own_names (c ∷ cs) = not (list_any (is_named c.name) cs) && have_own_names cs

-- at most 16 chaincodes, each with a name of its own, at most 16 modules more, an id for each module, and at most 64 at hand beside these
pub record IsBook (book : Book) : Type 0 where
  pub count : length book.chaincodes ≤ 16
  pub fuels : list_all has_fuel book.chaincodes ≡ true
  pub names : have_own_names book.chaincodes ≡ true
  pub module_count : length book.modules ≤ 16
  pub module_ids : length book.installed.modules ≡ length book.chaincodes + length book.modules
  pub held_count : length book.held ≤ 64

-- each module is valid, which its type says
pub record AreValid (book : Book) : Type 0 where
  pub chaincodes : AllByRecursion (λ (c : Chaincode). IsValid c.module) book.chaincodes
  pub modules : AllByRecursion IsValid book.modules
  pub held : AllByRecursion (λ (h : Held). IsValid h.module) book.held

-- the chaincode of a name
abbrev pub chaincode_at : List Chaincode → List ℕ → Option Chaincode
chaincode_at chaincodes name = find (is_named name) chaincodes

-- the first installed module of an id
abbrev pub installed_module : Book → ModuleId → Option Module
installed_module book id = option_and_then (slice_get (modules_of book)) (place_of book.installed.modules id.digest id.profile)

-- the first of an id among those that are at hand beside the installed ones
abbrev pub held_of : List Held → ModuleId → Option Held
held_of held id = find (λ h. is_id id h.id) held

-- the first module at hand of an id, those that are installed before the others
abbrev pub module_at_hand : Book → ModuleId → Option Module
module_at_hand book id = option_or (installed_module book id) (option_map (λ h. h.module) (held_of book.held id))
