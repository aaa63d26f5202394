-- What a text spells is one genesis.
use Rattle.std.proofs.Common.{◌≡◌, ℕ, zero, suc, List, Option, Some, None, refl, sym, ap, subst, ◌∙◌}
use Rattle.endorsement_policy.specs.Endorsed.{Listed}
use Rattle.policy_language.specs.GoodSets.{Names}
use Rattle.serde_json.specs.Data.{Data, Members, boolean, no_members, member}
use Rattle.sha2.specs.Sha256.{sha256}
use Rattle.chaincode_book.specs.declared.book.Held.{Held}
use Rattle.ledger_setting.specs.declared.genesis.Genesis.{Genesis}
use Rattle.json_genesis.specs.Lists.{IsListOf}
use Rattle.json_genesis.specs.Opening.{HoldsSame}
use Rattle.json_genesis.specs.Spelling.{IsBookOf, IsGenesis, IsPeer, IsPolicy, Parts, SpellsHolding, names_of, object_of}
use Rattle.json_genesis.proofs.Editions.{one_edition}
use Rattle.json_genesis.proofs.Items.{IsListOf-same}
use Rattle.json_genesis.proofs.OfTexts.{one_data}
use Rattle.json_genesis.proofs.Whole.{one_book, one_list, one_policy, organisations_by, same_number}
use Rattle.json_fields.proofs.Rests.{members_in, rest, rest_of_three, first, text_in}

one_peer : (orgs : Names) (d : Data) (x y : List ℕ) → IsPeer orgs d x → IsPeer orgs d y → x ≡ y
one_peer orgs d x y h k = ap text_in (sym h.0 ∙ k.0)

same_rules : (a b : Listed) → a.edition ≡ b.edition → a.ledger ≡ b.ledger → a.orgs ≡ b.orgs → a.policies ≡ b.policies → a.upgrade ≡ b.upgrade
    → a.installed ≡ b.installed → a ≡ b
same_rules a b e l o p u i =
    ap (λ x. record a { edition = x }) e ∙ ap (λ x. record a { edition = b.edition; ledger = x }) l ∙
    ap (λ x. record a { edition = b.edition; ledger = b.ledger; orgs = x }) o ∙
    ap (λ x. record b { policies = x; upgrade = a.upgrade; installed = a.installed }) p ∙
    ap (λ x. record b { upgrade = x; installed = a.installed }) u ∙ ap (λ x. record b { installed = x }) i

same_fields : (ledger : List ℕ) (held : List Held) (p : Parts) (a b : Genesis) → IsGenesis ledger held p a → IsGenesis ledger held p b → HoldsSame a b
same_fields ledger held p a b h k =
    let listed = organisations_by ledger held p b.rules.value.edition a k.edition h in
    let orgs = one_list b.rules.value.edition ledger p.orgs _ _ listed.0 k.organisations.0 in
    let names = sym (ap names_of orgs) in
    let those = names_of a.rules.value.orgs in
    let peers = subst (λ ns. IsListOf (IsPeer ns) 1 8 p.peers b.peers.items) names k.peers in
    let upgrade = subst (λ ns. IsPolicy ns p.upgrade b.rules.value.upgrade) names k.upgrade in
    let edition = one_edition p.rules _ _ h.edition k.edition in
    let book = subst (λ os. IsBookOf a.rules.value.edition os held p.chaincodes p.modules b.book.value b.rules.value.policies) (sym orgs)
    (subst (λ e. IsBookOf e b.rules.value.orgs held p.chaincodes p.modules b.book.value b.rules.value.policies) (sym edition) k.book) in
    let one = one_book a.rules.value.edition a.rules.value.orgs held p.chaincodes p.modules _ _ _ _ h.book book in
    let installed = h.installed ∙ ap (λ x. x.installed) one.0 ∙ sym k.installed in
    let truth : boolean a.reorder ≡ boolean b.reorder = sym h.reorder ∙ k.reorder in
    record {
      book = one.0;
      rules =
          same_rules a.rules.value b.rules.value edition (h.digest ∙ sym k.digest) orgs one.1 (one_policy those p.upgrade _ _ h.upgrade upgrade) installed;
      signers = h.signers ∙ sym k.signers;
      peers = IsListOf-same (IsPeer those) (one_peer those) 1 8 p.peers a.peers.items b.peers.items h.peers peers;
      seats = same_number p.seats p.seats _ _ refl h.seats.0 k.seats.0;
      queue = same_number p.queue p.queue _ _ refl h.queue.0 k.queue.0;
      count = same_number p.count p.count _ _ refl h.count.0 k.count.0;
      preferred = same_number p.preferred p.preferred _ _ refl h.preferred.0 k.preferred.0;
      absolute = same_number p.absolute p.absolute _ _ refl h.absolute.0 k.absolute.0;
      reorder = cc;
    }

-- what the fields of an object hold, where "rules" and what stands behind it hold this
abbrev parts_in : Option Data → Members → Data → Parts
parts_in rules e d =
    let a = members_in d in
    let b = rest_of_three a in
    let c = rest_of_three b in
    record {
      absolute = first a;
      chaincodes = first (rest a);
      count = first (rest (rest a));
      modules = first b;
      orgs = first (rest b);
      peers = first (rest (rest b));
      preferred = first c;
      queue = first (rest c);
      reorder = first (rest (rest c));
      rules = rules;
      seats = first e;
      upgrade = first (rest e);
    }

-- what stands behind "reorder"
abbrev last_members : Data → Members
last_members d = rest_of_three (rest_of_three (rest_of_three (members_in d)))

abbrev plain_parts : Data → Parts
plain_parts d = parts_in None (last_members d) d

abbrev ruled_parts : Data → Parts
ruled_parts d = parts_in (Some (first (last_members d))) (rest (last_members d)) d

abbrev count : Members → ℕ
count no_members = zero
count (member k d ms) = suc (count ms)

abbrev with_part : Option Data → Parts → Parts
with_part rules p = record p { rules = rules }

-- an object with the field "rules" is none without it
forms_apart : (d : Data) (p q : Parts) → object_of (with_part None p) ≡ object_of (with_part (Some d) q) → ⊥
forms_apart d p q e = let counts = ap (λ o. count (members_in o)) e in cc

same_parts : (a b : Option Data) (p q : Parts) → object_of (with_part a p) ≡ object_of (with_part b q) → with_part a p ≡ with_part b q
same_parts None None p q e = ap plain_parts e
same_parts None (Some b) p q e = absurd (forms_apart b p q e)
same_parts (Some a) None p q e = absurd (forms_apart a q p (sym e))
same_parts (Some a) (Some b) p q e = ap ruled_parts e

one_object : (p q : Parts) → object_of p ≡ object_of q → p ≡ q
one_object p q e = same_parts p.rules q.rules p q e

pub one : (text : List ℕ) (held : List Held) (a b : Genesis) → SpellsHolding text held a → SpellsHolding text held b → HoldsSame a b
one text held a b h k =
    let same_data = one_data text h.0 k.0 h.1 k.1 in
    let parts = one_object h.2.0 k.2.0 (sym h.2.1 ∙ same_data ∙ k.2.1) in
    same_fields (sha256 text) held h.2.0 a b h.2.2 (subst (λ p. IsGenesis (sha256 text) held p b) (sym parts) k.2.2)
