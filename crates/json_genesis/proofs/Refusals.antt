-- A chaincode or a module of which a part is refused is none.
use Rattle.std.proofs.Common.{◌≡◌, ℕ, List, Result, Ok, refl, sym, ap, subst, ◌∙◌, arith}
use Rattle.hex.specs.declared.error.FromHexError.{FromHexError}
use Rattle.serde_json.specs.Data.{Data, string}
use Rattle.wasm_profile.specs.Numbers.{number_of}
use Rattle.wasm_profile.specs.declared.profile.Profile.{Profile}
use Rattle.wasm_profile.specs.declared.profile.Profile.TheVariants.{Core1, SignExtension}
use Rattle.wasm_ast.specs.declared.module.Module.{Module}
use Rattle.wasm_decode.specs.ModuleSpelling.{IsModule}
use Rattle.wasm_decode.proofs.ModuleTheorem.{at_most_one}
use Rattle.wasm_typing.specs.ModuleRules.{IsValid}
use Rattle.wasm_file.specs.Modules.{NoModule}
use Rattle.wasm_file.specs.declared.module.ModuleRefusal.{ModuleRefusal}
use Rattle.wasm_file.specs.declared.module.ModuleRefusal.TheVariants.{Memory, Malformed, Invalid}
use Rattle.json_genesis.specs.declared.refusal.GenesisRefusal.{GenesisRefusal}
use Rattle.json_genesis.specs.Lists.{IsNumber, IsWithin}
use Rattle.policy_language.specs.Limits.{IsText}
use Rattle.json_genesis.specs.Refused.{NoneIs}
use Rattle.json_genesis.specs.Spelling.{HasParts, IsDefinition, IsHex, IsHexModule, IsInstalled, IsModuleOf, IsProfile, chaincode_object, module_object}
use Rattle.json_fields.proofs.Rests.{members_in, rest, rest_of_three, first, text_in}

pub same_ok : (r : Result (List ℕ) FromHexError) (a b : List ℕ) → r ≡ Ok a → r ≡ Ok b → a ≡ b
same_ok r a b e f = let h = sym e ∙ f in cc

-- ---- profiles

number_within : (p : Profile) → IsWithin 1 2 (number_of p)
number_within Core1 = (omega arith, omega arith)
number_within SignExtension = (omega arith, omega arith)

-- a number out of 1 and 2 is of no profile
pub NoneIs-profile : (d : Data) (r : GenesisRefusal) → NoneIs (IsNumber 1 2 d) r → NoneIs (IsProfile d) r
NoneIs-profile d r none = (none.0, λ real p is. none.1 real (number_of p) (is, number_within p))

pub one_profile : (d : Data) (p q : Profile) → IsProfile d p → IsProfile d q → p ≡ q
one_profile d Core1 Core1 h k = refl
one_profile d Core1 SignExtension h k = let e = sym h ∙ k in cc
one_profile d SignExtension Core1 h k = let e = sym h ∙ k in cc
one_profile d SignExtension SignExtension h k = refl

-- ---- parts of a chaincode

pub NoneIs-fuel : (orgs : List (List ℕ)) (d fuel : Data) (hex name policy : List ℕ) (profile : Data) (r : GenesisRefusal)
    → d ≡ chaincode_object fuel hex name policy profile → NoneIs (IsNumber 1 10000000 fuel) r → NoneIs (IsDefinition orgs d) r
NoneIs-fuel orgs d fuel hex name policy profile r is none = (
  none.0,
  λ real c spelled.
      let same = ap (λ d. first (members_in d)) (sym spelled.4 ∙ is) in
      none.1 real c.chaincode.fuel (subst (λ x. IsNumber 1 10000000 x c.chaincode.fuel) same spelled.5),
)

pub NoneIs-parts : (orgs : List (List ℕ)) (d fuel : Data) (hex name policy : List ℕ) (profile : Data) (r : GenesisRefusal)
    → d ≡ chaincode_object fuel hex name policy profile → NoneIs (HasParts orgs hex profile policy) r → NoneIs (IsDefinition orgs d) r
NoneIs-parts orgs d fuel hex name policy profile r is none = (
  none.0,
  λ real c spelled.
      let e = sym spelled.4 ∙ is in
      let text = ap (λ d. text_in (first (rest (members_in d)))) e in
      let number = ap (λ d. first (rest (rest_of_three (members_in d)))) e in
      let over = ap (λ d. text_in (first (rest_of_three (members_in d)))) e in
      none.1 real c (
        subst (λ n. IsProfile n c.id.profile) number spelled.6,
        subst (λ x. IsHexModule x c.chaincode.«module» c.id) text spelled.7,
        subst (λ x. IsText orgs c.policy.policy x) over spelled.9,
      ),
)

-- ---- modules

-- bytes that are refused spell no valid module
pub NoneIs-valid : (profile : Profile) (bytes : List ℕ) (r : ModuleRefusal) → NoModule profile bytes r → ¬ (r ≡ Memory) → (m : Module)
    → ¬ (IsModule profile m bytes × IsValid m)
NoneIs-valid profile bytes Memory none real m is = real refl
NoneIs-valid profile bytes (Malformed kind offset) none real m is = none.0 m is.0
NoneIs-valid profile bytes (Invalid fault) none real m is = none.3 (subst IsValid (at_most_one profile bytes m none.0 is.0 none.1) is.1)

-- where an object's hex is of no module by its profile, the object is none
pub NoneIs-installed : (d : Data) (hex : List ℕ) (profile : Data) (r : GenesisRefusal)
    → d ≡ module_object hex profile → NoneIs (IsModuleOf hex profile) r → NoneIs (IsInstalled d) r
NoneIs-installed d hex profile r is none = (
  none.0,
  λ real m spelled.
      let e = sym spelled.2 ∙ is in
      let text = ap (λ d. text_in (first (members_in d))) e in
      let number = ap (λ d. first (rest (members_in d))) e in
      none.1 real m (subst (λ n. IsProfile n m.id.profile) number spelled.3.0, subst (λ x. IsHexModule x m.«module» m.id) text spelled.3.1),
)

-- where the bytes of a hex text spell no valid module of a profile, the text has none
pub NoneIs-hex : (hex bytes : List ℕ) (d : Data) (profile : Profile) (r : GenesisRefusal) → IsHex hex bytes → IsProfile d profile
    → NoneIs (λ (m : Module). IsModule profile m bytes × IsValid m) r → NoneIs (IsModuleOf hex d) r
NoneIs-hex hex bytes d profile r is of none = (
  none.0,
  λ real m spelled.
      let h = spelled.1 in
      let here = subst (λ bs. IsModule m.id.profile m.«module» bs) (same_ok _ h.0 bytes h.1 is) h.2 in
      none.1 real m.«module» (subst (λ p. IsModule p m.«module» bytes) (one_profile d _ _ spelled.0 of) here, h.3),
)

-- where the text in a field is of no such kind, nor is the field
pub NoneIs-text : {A : Type 0} (P : List ℕ → A → Type 0) (d : Data) (text : List ℕ) (r : GenesisRefusal)
    → d ≡ string text → NoneIs (P text) r → NoneIs (λ x. (t : List ℕ) × (d ≡ string t) × P t x) r
NoneIs-text P d text r is none =
    (none.0, λ real x spelled. none.1 real x (subst (λ t. P t x) (ap text_in (sym spelled.1 ∙ is)) spelled.2))
