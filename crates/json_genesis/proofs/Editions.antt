-- The edition of the rules that a field names, which may be left out.
use Rattle.std.proofs.Common.{◌≡◌, ◌≢◌, ℕ, List, [], Option, Some, None, codes, bytes_eq, true≢false, refl, sym, ap, ◌∙◌, arith}
use Rattle.serde_json.specs.Data.{Data, Members, no_members, member}
use Rattle.fab_types.specs.Editions.{edition_number}
use Rattle.fab_types.specs.declared.edition.Edition.{Edition}
use Rattle.fab_types.specs.declared.edition.Edition.TheVariants.{First, Second}
use Rattle.json_genesis.specs.declared.refusal.GenesisRefusal.{GenesisRefusal}
use Rattle.json_genesis.specs.Lists.{IsNumber, IsWithin}
use Rattle.json_genesis.specs.Refused.{NoneIs}
use Rattle.json_genesis.specs.Spelling.{IsEdition, with_rules}
use Rattle.json_fields.proofs.Rests.{rest}

number_within : (e : Edition) → IsWithin 1 2 (edition_number e)
number_within First = (omega arith, omega arith)
number_within Second = (omega arith, omega arith)

-- a number out of 1 and 2 is of no edition
pub NoneIs-edition : (d : Data) (r : GenesisRefusal) → NoneIs (IsNumber 1 2 d) r → NoneIs (IsEdition (Some d)) r
NoneIs-edition d r none = (none.0, λ real e is. none.1 real (edition_number e) (is, number_within e))

pub one_edition : (d : Option Data) (a b : Edition) → IsEdition d a → IsEdition d b → a ≡ b
one_edition None a b h k = h ∙ sym k
one_edition (Some d) First First h k = refl
one_edition (Some d) First Second h k = let e = sym h ∙ k in cc
one_edition (Some d) Second First h k = let e = sym h ∙ k in cc
one_edition (Some d) Second Second h k = refl

-- ---- the field that may be left out

abbrev name_in : Members → List ℕ
name_in no_members = []
name_in (member k d ms) = k

-- members that begin with "seats" do not begin with "rules"
names_apart : (d e : Data) (ms ns : Members) → member (codes "seats") d ms ≡ member (codes "rules") e ns → ⊥
names_apart d e ms ns h = true≢false (ap (λ xs. bytes_eq (codes "seats") (name_in xs)) h)

-- what follows "seats" does not hang on whether "rules" is there
pub behind_seats : (a b : Option Data) (d e : Data) (ms ns : Members)
    → with_rules a (member (codes "seats") d ms) ≡ with_rules b (member (codes "seats") e ns) → ms ≡ ns
behind_seats None None d e ms ns h = ap rest h
behind_seats None (Some b) d e ms ns h = absurd (names_apart _ _ _ _ h)
behind_seats (Some a) None d e ms ns h = absurd (names_apart _ _ _ _ (sym h))
behind_seats (Some a) (Some b) d e ms ns h = ap (λ xs. rest (rest xs)) h
