-- What data spell is one organisation, whose key is one of the ledger; where they are an object of neither kind, none.
use Rattle.std.proofs.Common.{◌≡◌, ℕ, true, List, [], ◌∷◌, refl, sym, ap, ap₂, subst, ◌∙◌}
use Rattle.std.proofs.lemmas.Slice.Eq.{bytes_eq-Decides}
use Rattle.fab_types.specs.declared.edition.Edition.{Edition}
use Rattle.fab_types.specs.declared.edition.Edition.TheVariants.{First, Second}
use Rattle.org_keys.specs.Ledgers.{are_keys_of, is_key_of}
use Rattle.org_keys.specs.declared.organisation.OrgKey.{OrgKey}
use Rattle.org_keys.specs.declared.organisation.OrgKey.TheVariants as key
use Rattle.org_keys.specs.declared.organisation.Organisation.{Organisation}
use Rattle.serde_json.specs.Data.{Data, Items, no_items, item}
use Rattle.json_fields.specs.Lists.{AreItems}
use Rattle.json_fields.specs.NamedKeys.{public_object}
use Rattle.json_genesis.specs.Spelling.{IsHex, IsNamedKey, IsNamedPoint, IsOrganisation, shared_object}
use Rattle.json_genesis.proofs.Refusals.{same_ok}
use Rattle.json_fields.proofs.Rests.{members_in, rest, first, text_in}

-- ---- the two kinds

kinds_apart : (a b c d : List ℕ) → shared_object a b ≡ public_object c d → ⊥
kinds_apart a b c d e = cc

abbrev first_text : Data → List ℕ
first_text d = text_in (first (members_in d))

abbrev second_text : Data → List ℕ
second_text d = text_in (first (rest (members_in d)))

one_point : (d : Data) (m n a b : List ℕ) → IsNamedPoint d m a → IsNamedPoint d n b → (m ≡ n) × (a ≡ b)
one_point d m n a b h k =
    let e = sym h.1 ∙ k.1 in
    let hex = ap second_text e in
    (ap first_text e, same_ok _ a b (subst (λ t. IsHex t a) hex h.2) k.2)

editions_apart : (e : Edition) → e ≡ First → e ≡ Second → ⊥
editions_apart e first second = (let wrong : First ≡ Second = sym first ∙ second in cc)

module _ (edition : Edition) (ledger : List ℕ) where
  one_key : (d : Data) (m n : List ℕ) (a b : OrgKey) → IsNamedKey edition ledger d m a → IsNamedKey edition ledger d n b → (m ≡ n) × (a ≡ b)
  one_key d m n (key.Shared a) (key.Shared b) h k =
      let e = sym h.1 ∙ k.1 in
      let hex = ap first_text e in
      (ap second_text e, ap (λ x. key.Shared x) (same_ok _ a b (subst (λ t. IsHex t a) hex h.2) k.2))
  one_key d m n (key.Shared a) (key.Public b) h k = absurd (kinds_apart _ _ _ _ (sym h.1 ∙ k.1.1))
  one_key d m n (key.Shared a) (key.Bound b l) h k = absurd (kinds_apart _ _ _ _ (sym h.1 ∙ k.2.1))
  one_key d m n (key.Public a) (key.Shared b) h k = absurd (kinds_apart _ _ _ _ (sym k.1 ∙ h.1.1))
  one_key d m n (key.Public a) (key.Public b) h k =
      let one = one_point d m n a b h.1 k.1 in (one.0, ap (λ x. key.Public x) one.1)
  one_key d m n (key.Public a) (key.Bound b l) h k = absurd (editions_apart edition h.0 k.0)
  one_key d m n (key.Bound a j) (key.Shared b) h k = absurd (kinds_apart _ _ _ _ (sym k.1 ∙ h.2.1))
  one_key d m n (key.Bound a j) (key.Public b) h k = absurd (editions_apart edition k.0 h.0)
  one_key d m n (key.Bound a j) (key.Bound b l) h k =
      let one = one_point d m n a b h.2 k.2 in (one.0, ap₂ (λ x y. key.Bound x y) one.1 (h.1 ∙ sym k.1))

  same_members : (a b : Organisation) → a.name ≡ b.name → a.key ≡ b.key → a ≡ b
  same_members a b n k = ap (λ x. record a { name = x }) n ∙ ap (λ x. record b { key = x }) k

  pub one_organisation : (d : Data) (x y : Organisation) → IsOrganisation edition ledger d x → IsOrganisation edition ledger d y → x ≡ y
  one_organisation d x y h k = let one = one_key d x.name y.name x.key y.key h.0 k.0 in same_members x y one.0 one.1

  no_key : (d : Data) → ((k n : List ℕ) → d ≡ shared_object k n → ⊥) → ((n k : List ℕ) → d ≡ public_object n k → ⊥)
      → (name : List ℕ) (k : OrgKey) → IsNamedKey edition ledger d name k → ⊥
  no_key d shared public name (key.Shared k) h = shared h.0 name h.1
  no_key d shared public name (key.Public k) h = public name h.1.0 h.1.1
  no_key d shared public name (key.Bound k l) h = public name h.2.0 h.2.1

  -- data that are an object of neither kind
  pub no_organisation : (d : Data) → ((k n : List ℕ) → d ≡ shared_object k n → ⊥) → ((n k : List ℕ) → d ≡ public_object n k → ⊥)
      → (o : Organisation) → ¬ IsOrganisation edition ledger d o
  no_organisation d shared public o h = no_key d shared public o.name o.key h.0

-- ---- each is a key of the ledger

key_of : (edition : Edition) (ledger : List ℕ) (d : Data) (name : List ℕ) (k : OrgKey) → IsNamedKey edition ledger d name k →
    is_key_of edition ledger k ≡ true
key_of First ledger d name (key.Shared k) h = refl
key_of First ledger d name (key.Public k) h = refl
key_of First ledger d name (key.Bound k l) h = absurd (editions_apart First refl h.0)
key_of Second ledger d name (key.Shared k) h = refl
key_of Second ledger d name (key.Public k) h = absurd (editions_apart Second h.0 refl)
key_of Second ledger d name (key.Bound k l) h = (bytes_eq-Decides l ledger).1 h.1

pub keys_of : (edition : Edition) (ledger : List ℕ) (ds : Items) (os : List Organisation) → AreItems (IsOrganisation edition ledger) ds os →
    are_keys_of edition ledger os ≡ true
keys_of edition ledger no_items [] h = refl
keys_of edition ledger no_items (o ∷ os) h = absurd h
keys_of edition ledger (item d ds) [] h = absurd h
keys_of edition ledger (item d ds) (o ∷ os) h = rw (key_of edition ledger d o.name o.key h.0.0, keys_of edition ledger ds os h.1) refl
