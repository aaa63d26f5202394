-- What data spell is one membership, and a list of which an item is no member is none.
use Rattle.std.proofs.Common.{◌≡◌, ◌<◌, ℕ, List, length, get_or, Result, Ok, refl, sym, ap, subst, ◌∙◌}
use Rattle.std.proofs.lemmas.List.{map-id}
use Rattle.hex.specs.Hex.{decode_sized}
use Rattle.serde_json.specs.Data.{Data, Items}
use Rattle.serde_json.specs.View.{view, items_view}
use Rattle.serde_json.specs.declared.value.Value.{Value}
use Rattle.fab_types.specs.Memberships.{IsMembers}
use Rattle.fab_types.specs.declared.membership.Member.{Member}
use Rattle.fab_types.specs.declared.membership.MemberKey.{MemberKey}
use Rattle.fab_types.specs.declared.membership.MemberKey.TheVariants.{Kept, Public}
use Rattle.fab_types.specs.declared.membership.Membership.{Membership}
use Rattle.json_fields.specs.Lists.{AreItems}
use Rattle.json_fields.proofs.ReadItems.{AreItems-at, AreItems-same}
use Rattle.json_fields.proofs.Rests.{members_in, rest, first, text_in}
use Rattle.json_events.specs.Refused.{NoneIs}
use Rattle.json_fields.specs.NamedKeys.{public_object}
use Rattle.json_events.specs.Spelling.{AreMembers, IsMember, IsMembership, IsNamedKey, kept_object}
use Rattle.json_events.specs.declared.action.BadLine.{BadLine}

pub same_ok : {A E : Type 0} (r : Result A E) (a b : A) → r ≡ Ok a → r ≡ Ok b → a ≡ b
same_ok {A} {E} r a b e f = let h = sym e ∙ f in cc

-- ---- a member

kinds_apart : (a b c : List ℕ) → kept_object a ≡ public_object b c → ⊥
kinds_apart a b c e = cc

abbrev first_text : Data → List ℕ
first_text d = text_in (first (members_in d))

abbrev second_text : Data → List ℕ
second_text d = text_in (first (rest (members_in d)))

one_key : (d : Data) (m n : List ℕ) (a b : MemberKey) → IsNamedKey d m a → IsNamedKey d n b → (m ≡ n) × (a ≡ b)
one_key d m n Kept Kept h k = (ap first_text (sym h ∙ k), refl)
one_key d m n Kept (Public b) h k = absurd (kinds_apart _ _ _ (sym h ∙ k.1))
one_key d m n (Public a) Kept h k = absurd (kinds_apart _ _ _ (sym k ∙ h.1))
one_key d m n (Public a) (Public b) h k =
    let e = sym h.1 ∙ k.1 in
    let hex = ap second_text e in
    (ap first_text e, ap (λ x. Public x) (same_ok _ a b (subst (λ t. decode_sized t 32 ≡ Ok a) hex h.2) k.2))

same_member : (a b : Member) → a.name ≡ b.name → a.key ≡ b.key → a ≡ b
same_member a b n k = ap (λ x. record a { name = x }) n ∙ ap (λ x. record b { key = x }) k

one_member : (d : Data) (a b : Member) → IsMember d a → IsMember d b → a ≡ b
one_member d a b h k = let one = one_key d a.name b.name a.key b.key h.0 k.0 in same_member a b one.0 one.1

-- ---- members

pub one_members : (ds : Items) (xs ys : List Member) → AreItems IsMember ds xs → AreItems IsMember ds ys → xs ≡ ys
one_members ds xs ys h k = sym (map-id xs) ∙ AreItems-same IsMember (λ (m : Member). m) one_member ds xs ys h k ∙ map-id ys

-- items that are other members than may be
pub no_members : (ds : Items) (xs : List Member) → AreItems IsMember ds xs → ¬ IsMembers xs → (ms : List Member) → ¬ AreMembers ds ms
no_members ds xs are not ms h = not (subst IsMembers (one_members ds ms xs h.0 are) h.1)

-- where the value at a place is no member, nor are the items members
pub no_item : (vs : List Value) (i : ℕ) (v : Value) (r : BadLine) → i < length vs → v ≡ get_or vs i v → NoneIs (IsMember (view v)) r
    → NoneIs (AreItems IsMember (items_view vs)) r
no_item vs i v r less is none = λ real xs spelled.
    let found = AreItems-at IsMember vs xs i v spelled less in
    none real found.0 (subst (λ w. IsMember (view w) found.0) (sym is) found.1)

-- ---- a membership

same_membership : (a b : Membership) → a.serial ≡ b.serial → a.members ≡ b.members → a.policy ≡ b.policy → a ≡ b
same_membership a b s m p =
    ap (λ x. record a { serial = x }) s ∙ ap (λ x. record a { serial = b.serial; members = x }) m ∙ ap (λ x. record b { policy = x }) p

pub one_membership : (members : Items) (policy : List ℕ) (serial : ℕ) (a b : Membership)
    → IsMembership members policy serial a → IsMembership members policy serial b → a ≡ b
one_membership members policy serial a b h k = same_membership a b (h.0 ∙ sym k.0) (one_members members _ _ h.2.0 k.2.0) (h.3 ∙ sym k.3)
