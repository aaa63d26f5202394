-- The file as a whole: what its parts spell is determined, so a part that is refused leaves no genesis.
use Rattle.std.proofs.Common.{◌≡◌, ℕ, zero, List, true, false, sym, ap, subst, ◌∙◌}
use Rattle.policy_language.proofs.Whole.{same}
use Rattle.fab_types.specs.declared.edition.Edition.{Edition}
use Rattle.policy_language.specs.GoodSets.{Names}
use Rattle.policy_language.specs.Limits.{IsText}
use Rattle.endorsement_policy.specs.declared.installed.ModuleId.{ModuleId}
use Rattle.policy_language.specs.declared.policy.Policy.{Policy}
use Rattle.endorsement_policy.specs.declared.rules.ChaincodePolicy.{ChaincodePolicy}
use Rattle.org_keys.specs.declared.organisation.Organisation.{Organisation}
use Rattle.wasm_decode.proofs.ModuleTheorem.{at_most_one}
use Rattle.wasm_ast.specs.declared.module.Module.{Module}
use Rattle.wasm_decode.specs.ModuleSpelling.{IsModule}
use Rattle.sha2.specs.Sha256.{sha256}
use Rattle.chaincode_book.specs.Books.{Book, IsBook}
use Rattle.chaincode_book.specs.declared.book.Chaincode.{Chaincode}
use Rattle.chaincode_book.specs.declared.book.Held.{Held}
use Rattle.serde_json.specs.Data.{Data, Num, unsigned, number}
use Rattle.ledger_setting.specs.declared.genesis.Genesis.{Genesis}
use Rattle.json_genesis.specs.declared.definition.Definition.{Definition}
use Rattle.json_genesis.specs.declared.refusal.GenesisRefusal.{GenesisRefusal}
use Rattle.json_genesis.specs.Lists.{IsListOf}
use Rattle.json_genesis.specs.Refused.{NoneIs}
use Rattle.json_genesis.specs.Spelling.{AreOrganisations, IsBookOf, IsDefinition, IsEdition, IsGenesis, IsHexModule, IsInstalled, IsOrganisation, IsPolicy}
use Rattle.json_genesis.specs.Spelling.{IsProfile}
use Rattle.json_genesis.specs.Spelling.{Parts}
use Rattle.json_genesis.specs.Spelling.{are_different, book_of}
use Rattle.json_genesis.specs.Spelling.{names_of, policies_of}
use Rattle.json_genesis.proofs.Editions.{one_edition}
use Rattle.json_genesis.proofs.Items.{IsListOf-same}
use Rattle.json_genesis.proofs.NamedKeys.{one_organisation}
use Rattle.json_genesis.proofs.Refusals.{one_profile, same_ok}
use Rattle.json_fields.proofs.Rests.{members_in, rest, rest_of_three, first, text_in}

-- ---- what data spell is one value

pub one_list : (edition : Edition) (ledger : List ℕ) (d : Data) (xs ys : List Organisation) → IsListOf (IsOrganisation edition ledger) 1 16 d xs →
    IsListOf (IsOrganisation edition ledger) 1 16 d ys → xs ≡ ys
one_list edition ledger d xs ys h k = IsListOf-same (IsOrganisation edition ledger) (one_organisation edition ledger) 1 16 d xs ys h k

abbrev whole : Num → ℕ
whole (unsigned n) = n
whole n = zero

abbrev number_in : Data → ℕ
number_in (number n) = whole n
number_in d = zero

pub same_number : (a b : Data) (m n : ℕ) → a ≡ b → a ≡ number (unsigned m) → b ≡ number (unsigned n) → m ≡ n
same_number a b m n e h k = ap number_in (sym h ∙ e ∙ k)

same_id : (a b : ModuleId) → a.digest ≡ b.digest → a.profile ≡ b.profile → a ≡ b
same_id a b d p = ap (λ x. record a { digest = x }) d ∙ ap (λ x. record b { profile = x }) p

one_hex_module : (hex : List ℕ) (a b : Module) (x y : ModuleId) → x.profile ≡ y.profile → IsHexModule hex a x → IsHexModule hex b y → (a ≡ b) × (x ≡ y)
one_hex_module hex a b x y p h k =
    let bytes = same_ok _ h.0 k.0 h.1 k.1 in
    let spelled = subst (λ q. IsModule q a k.0) p (subst (λ bs. IsModule x.profile a bs) bytes h.2) in
    (at_most_one y.profile k.0 a b spelled k.2, same_id x y (h.4 ∙ ap sha256 bytes ∙ sym k.4) p)

pub one_installed : (d : Data) (x y : Held) → IsInstalled d x → IsInstalled d y → x ≡ y
one_installed d x y h k =
    let e = sym h.2 ∙ k.2 in
    let text = ap (λ d. text_in (first (members_in d))) e in
    let number = ap (λ d. first (rest (members_in d))) e in
    let profile = one_profile k.1 _ _ (subst (λ n. IsProfile n x.id.profile) number h.3.0) k.3.0 in
    let one = one_hex_module k.0 _ _ _ _ profile (subst (λ t. IsHexModule t x.«module» x.id) text h.3.1) k.3.1 in
    ap (λ m. record x { «module» = m }) one.0 ∙ ap (λ i. record y { id = i }) one.1

pub one_policy : (orgs : Names) (d : Data) (x y : Policy) → IsPolicy orgs d x → IsPolicy orgs d y → x ≡ y
one_policy orgs d x y h k = same orgs k.0 _ _ (subst (λ t. IsText orgs x t) (ap text_in (sym h.1 ∙ k.1)) h.2) k.2

same_chaincode : (a b : Chaincode) → a.name ≡ b.name → a.«module» ≡ b.«module» → a.fuel ≡ b.fuel → a ≡ b
same_chaincode a b n m f =
    ap (λ x. record a { name = x }) n ∙ ap (λ x. record a { name = b.name; «module» = x }) m ∙ ap (λ x. record b { fuel = x }) f

same_policy : (a b : ChaincodePolicy) → a.chaincode ≡ b.chaincode → a.policy ≡ b.policy → a ≡ b
same_policy a b c p = ap (λ x. record a { chaincode = x }) c ∙ ap (λ x. record b { policy = x }) p

same_definition : (a b : Definition) → a.chaincode ≡ b.chaincode → a.id ≡ b.id → a.policy ≡ b.policy → a ≡ b
same_definition a b c i p =
    ap (λ x. record a { chaincode = x }) c ∙ ap (λ x. record a { chaincode = b.chaincode; id = x }) i ∙ ap (λ x. record b { policy = x }) p

pub one_definition : (orgs : Names) (d : Data) (x y : Definition) → IsDefinition orgs d x → IsDefinition orgs d y → x ≡ y
one_definition orgs d x y h k =
    let e = sym h.4 ∙ k.4 in
    let hex = ap (λ d. text_in (first (rest (members_in d)))) e in
    let name = ap (λ d. text_in (first (rest (rest (members_in d))))) e in
    let text = ap (λ d. text_in (first (rest_of_three (members_in d)))) e in
    let number = ap (λ d. first (rest (rest_of_three (members_in d)))) e in
    let profile = one_profile k.3 _ _ (subst (λ n. IsProfile n x.id.profile) number h.6) k.6 in
    let one = one_hex_module k.1 _ _ _ _ profile (subst (λ t. IsHexModule t x.chaincode.«module» x.id) hex h.7) k.7 in
    let fuel = same_number h.0 k.0 _ _ (ap (λ d. first (members_in d)) e) h.5.0 k.5.0 in
    let policy = same orgs k.2 _ _ (subst (λ t. IsText orgs x.policy.policy t) text h.9) k.9 in
    same_definition x y (same_chaincode _ _ name one.0 fuel) one.1 (same_policy _ _ (h.10 ∙ name ∙ sym k.10) policy)

same_book : (edition : Edition) (orgs : List Organisation) (held : List Held) (d e : Data) (cs cs' : List Definition) (ms ms' : List Held)
    → IsListOf (IsDefinition (names_of orgs)) 1 16 d cs → IsListOf (IsDefinition (names_of orgs)) 1 16 d cs' → IsListOf IsInstalled 0 16 e ms
    → IsListOf IsInstalled 0 16 e ms'
    → book_of edition orgs held cs ms ≡ book_of edition orgs held cs' ms'
same_book edition orgs held d e cs cs' ms ms' c c' m m' =
    ap (λ x. book_of edition orgs held x ms) (IsListOf-same (IsDefinition (names_of orgs)) (one_definition (names_of orgs)) 1 16 d cs cs' c c') ∙
    ap (λ x. book_of edition orgs held cs' x) (IsListOf-same IsInstalled one_installed 0 16 e ms ms' m m')

pub one_book : (edition : Edition) (orgs : List Organisation) (held : List Held) (d e : Data) (a b : Book) (ps qs : List ChaincodePolicy)
    → IsBookOf edition orgs held d e a ps → IsBookOf edition orgs held d e b qs → (a ≡ b) × (ps ≡ qs)
one_book edition orgs held d e a b ps qs h k = (
  h.5 ∙ same_book edition orgs held d e _ _ _ _ h.2 k.2 h.3 k.3 ∙ sym k.5,
  h.6 ∙ ap policies_of (IsListOf-same (IsDefinition (names_of orgs)) (one_definition (names_of orgs)) 1 16 d _ _ h.2 k.2) ∙ sym k.6,
)

-- ---- a part that is refused

-- chaincodes and modules that make no book
pub NoneIs-book : (edition : Edition) (orgs : List Organisation) (held : List Held) (d e : Data) (cs : List Definition) (ms : List Held)
    → IsListOf (IsDefinition (names_of orgs)) 1 16 d cs
    → IsListOf IsInstalled 0 16 e ms → ¬ IsBook (book_of edition orgs held cs ms)
    → (b : Book × List ChaincodePolicy) → ¬ IsBookOf edition orgs held d e b.0 b.1
NoneIs-book edition orgs held d e cs ms c m not b spelled =
    not (subst IsBook (spelled.5 ∙ same_book edition orgs held d e _ cs _ ms spelled.2 c spelled.3 m) spelled.4)

-- two organisations of one name, or of one public key
pub NoneIs-different : (of : List Organisation → List (List ℕ)) (edition : Edition) (ledger : List ℕ) (d : Data) (os : List Organisation)
    → IsListOf (IsOrganisation edition ledger) 1 16 d os → are_different (of os) ≡ false → (xs : List Organisation)
    → IsListOf (IsOrganisation edition ledger) 1 16 d xs → ¬ (are_different (of xs) ≡ true)
NoneIs-different of edition ledger d os h not xs listed spelled =
    let same = one_list edition ledger d xs os listed h in
    let other : are_different (of os) ≡ true = subst (λ ys. are_different (of ys) ≡ true) same spelled in
    cc

-- the organisations of a genesis, by the edition that its fields name
pub organisations_by : (ledger : List ℕ) (held : List Held) (p : Parts) (edition : Edition) (g : Genesis) → IsEdition p.rules edition →
    IsGenesis ledger held p g → AreOrganisations edition ledger p.orgs g.rules.value.orgs
organisations_by ledger held p edition g named spelled =
    subst (λ e. AreOrganisations e ledger p.orgs g.rules.value.orgs) (one_edition p.rules _ _ spelled.edition named) spelled.organisations

-- a part that rests on the organisations
pub NoneIs-of : {A : Type 0} (Is : List Organisation → A → Type 0) (part : Genesis → A) (ledger : List ℕ) (held : List Held) (p : Parts)
    (edition : Edition) (os : List Organisation) (r : GenesisRefusal) → ((g : Genesis) → IsGenesis ledger held p g → Is g.rules.value.orgs (part g))
    → IsEdition p.rules edition → AreOrganisations edition ledger p.orgs os → NoneIs (Is os) r → NoneIs (IsGenesis ledger held p) r
NoneIs-of Is part ledger held p edition os r has named h none = (
  none.0,
  λ real g spelled.
      let listed = organisations_by ledger held p edition g named spelled in
      none.1 real (part g) (subst (λ xs. Is xs (part g)) (sym (one_list edition ledger p.orgs os _ h.0 listed.0)) (has g spelled)),
)

-- a part that rests on the names of the organisations
pub NoneIs-part : {A : Type 0} (Is : Names → A → Type 0) (part : Genesis → A) (ledger : List ℕ) (held : List Held) (p : Parts) (edition : Edition)
    (os : List Organisation) (orgs : Names) (r : GenesisRefusal) → ((g : Genesis) → IsGenesis ledger held p g → Is (names_of g.rules.value.orgs) (part g))
    → IsEdition p.rules edition → AreOrganisations edition ledger p.orgs os → orgs ≡ names_of os → NoneIs (Is orgs) r
    → NoneIs (IsGenesis ledger held p) r
NoneIs-part Is part ledger held p edition os orgs r has named h is none =
    NoneIs-of (λ xs. Is (names_of xs)) part ledger held p edition os r has named h (subst (λ ns. NoneIs (Is ns) r) is none)
