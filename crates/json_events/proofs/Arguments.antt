-- What data spell is one argument, and a begin of a call is of no other form.
use Rattle.std.proofs.Common.{◌≡◌, ℕ, List, codes, refl, sym, subst, ◌∙◌, inl, inr}
use Rattle.serde_json.specs.Data.{Data, Members, array, member, object, string}
use Rattle.fab_types.specs.Limits.{IsValue}
use Rattle.json_events.specs.Spelling.{IsArgument, IsArgumentOrDash, IsHex, StandsFor, argument_name, begin_object, call_members, seat_members}
use Rattle.json_events.proofs.Memberships.{same_ok}
use Rattle.json_events.proofs.Texts.{one_joined}

pub one_standing : (d : Data) (a b : List ℕ) → StandsFor d a → StandsFor d b → a ≡ b
one_standing (string hex) a b h k = same_ok _ a b h k
one_standing (array texts) a b h k = one_joined texts a b h k
one_standing d a b h k = absurd h

-- bytes that are more than a value may have
pub no_argument : (d : Data) (bytes : List ℕ) → StandsFor d bytes → ¬ IsValue bytes → (a : List ℕ) → ¬ IsArgument d a
no_argument d bytes is not a h = not (subst IsValue (one_standing d a bytes h.0 is) h.1)

-- `-` is no hex
no_hex : (bytes : List ℕ) → ¬ IsHex (codes "-") bytes
no_hex bytes h = cc

pub no_dash : (d : Data) (bytes : List ℕ) → d ≡ string (codes "-") → ¬ StandsFor d bytes
no_dash d bytes e h = no_hex bytes (subst (λ x. StandsFor x bytes) e h)

pub one_argument : (d : Data) (a b : List ℕ) → IsArgumentOrDash d a → IsArgumentOrDash d b → a ≡ b
one_argument d a b (inl h) (inl k) = h.1 ∙ sym k.1
one_argument d a b (inl h) (inr k) = absurd (no_dash d b h.0 k.0)
one_argument d a b (inr h) (inl k) = absurd (no_dash d a k.0 h.0)
one_argument d a b (inr h) (inr k) = one_standing d a b h.0 k.0

-- ---- a begin of a call, with its members in the order of their names

abbrev pub begun_members : ℕ → ℕ → Data → List ℕ → List ℕ → Members
begun_members peer seat arg chaincode nonce =
    member (argument_name arg) arg (member (codes "chaincode") (string chaincode) (member (codes "do") (string (codes "begin"))
    (member (codes "nonce") (string nonce) (seat_members peer seat))))

pub in_order : (peer seat : ℕ) (arg : Data) (chaincode nonce : List ℕ)
    → begin_object peer seat (call_members arg chaincode nonce) ≡ object (begun_members peer seat arg chaincode nonce)
in_order peer seat (array texts) chaincode nonce = refl
in_order peer seat arg chaincode nonce = refl
