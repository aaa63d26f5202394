-- What a text says of a block that was seen is one.
use Rattle.std.proofs.Common.{◌≡◌, ◌↔◌, inl, inr, ℕ, List, [], Bool, true, false, Option, Some, None, IfSome, IsSome, refl, sym, ap, subst, ◌∙◌}
use Rattle.std.specs.Prelude.{◌||◌, if◌then◌else◌}
use Rattle.std.specs.Bool.{IsTrue}
use Rattle.std.specs.Option.{SomeIff}
use Rattle.fab_types.specs.Limits.{IsOrgName}
use Rattle.ledger_model.specs.Chain.{Bytes, Chain}
use Rattle.fab_types.specs.declared.block.Block.{Block}
use Rattle.endorsement_policy.specs.Endorsed.{Listed}
use Rattle.peer_answers.specs.Parts.{behind_first, first_word}
use Rattle.peer_answers.specs.Seen.{AreWords, IsSeen, IsUnsigned, Sighting, SpellsSeen, SpellsSigned, TellsFork, TellsSigned, bytes_in, forked_text, sighting, signature_in}
use Rattle.peer_answers.specs.declared.seen.SignedSeen.{SignedSeen}

one_if : {T : Type 0} (a b : Option T) (P : Type 0) (v : T) → SomeIff a P v → SomeIff b P v → a ≡ b
one_if None None P v x y = refl
one_if (Some a) None P v x y = absurd (y x.0)
one_if None (Some b) P v x y = absurd (x y.0)
one_if {T} (Some a) (Some b) P v x y = ap (λ (t : T). Some t) (x.1 ∙ sym y.1)

pub one_bool : (a b : Bool) (P : Type 0) → (IsTrue a ↔ P) → (IsTrue b ↔ P) → a ≡ b
one_bool true true P x y = refl
one_bool false false P x y = refl
one_bool true false P x y = sym (y.1 (x.0 refl))
one_bool false true P x y = x.1 (y.0 refl)

one_words : (words : Bytes) (a b : Option Sighting) → AreWords words a → AreWords words b → a ≡ b
one_words words a b x y =
    let hashed = behind_first (behind_first words) in
    let number : x.0 ≡ y.0 = one_if x.0 y.0 _ _ x.1 y.1 in
    x.2 ∙ ap (λ (n : Option ℕ). sighting (first_word words) n (bytes_in 32 (first_word hashed)) (signature_in hashed)) number ∙ sym y.2

one_spelled : (text : Bytes) (a b : Option Sighting) → SpellsSeen text a → SpellsSeen text b → a ≡ b
one_spelled text a b (inl x) (inl y) = x.1 ∙ sym y.1
one_spelled text a b (inl x) (inr y) = absurd (x.0 y.0)
one_spelled text a b (inr x) (inl y) = absurd (y.0 x.0)
one_spelled text a b (inr x) (inr y) = one_words (behind_first text) a b x.1 y.1

abbrev IsSigned : Option Sighting → Type 0
IsSigned None = ⊥
IsSigned (Some s) = IsSome s.signature → IsOrgName s.org

none_signed : (text : Bytes) (s t : Sighting) → SpellsSeen text (Some s) → IsSome s.signature → ¬ IsOrgName s.org → SpellsSeen text (Some t) →
    (IsSome t.signature → IsOrgName t.org) → ⊥
none_signed text s t x some none y named =
    none (subst IsSigned (one_spelled text (Some t) (Some s) y x) named some)

pub one_seen : (text : Bytes) (a b : Option Sighting) → IsSeen text a → IsSeen text b → a ≡ b
one_seen text None None x y = refl
one_seen text (Some a) (Some b) x y = one_spelled text (Some a) (Some b) x.0 y.0
one_seen text None (Some b) (inl x) y = one_spelled text None (Some b) x y.0
one_seen text None (Some b) (inr x) y = absurd (none_signed text x.0 b x.1 x.2 x.3 y.0 y.1)
one_seen text (Some a) None x (inl y) = one_spelled text (Some a) None x.0 y
one_seen text (Some a) None x (inr y) = absurd (none_signed text y.0 a y.1 y.2 y.3 x.0 x.1)

pub one_unsigned : (listed : Listed) (chain : List Block) (s : Sighting) (text other : Bytes) → IsUnsigned listed chain s text →
    IsUnsigned listed chain s other → text ≡ other
one_unsigned listed chain s text other x y =
    let public : x.0 ≡ y.0 = one_bool x.0 y.0 _ x.2 y.2 in
    let known : x.1 ≡ y.1 = one_bool x.1 y.1 _ x.3 y.3 in
    x.4 ∙ ap (λ (b : Bool). if b || x.1 then [] else forked_text s.org s.number) public
    ∙ ap (λ (b : Bool). if y.0 || b then [] else forked_text s.org s.number) known ∙ sym y.4

-- ---- with a signature

abbrev said_of : SignedSeen → Sighting
said_of t = record { org = t.org; number = t.number; hash = t.hash; signature = Some t.signature }

same_signed : (a b : SignedSeen) → said_of a ≡ said_of b → a ≡ b
same_signed a b same =
    let org : a.org ≡ b.org = ap (λ (s : Sighting). s.org) same in
    let number : a.number ≡ b.number = ap (λ (s : Sighting). s.number) same in
    let hash : a.hash ≡ b.hash = ap (λ (s : Sighting). s.hash) same in
    let signatures : Some a.signature ≡ Some b.signature = ap (λ (s : Sighting). s.signature) same in
    let signature : a.signature ≡ b.signature = cc signatures in
    λ i. record { org = org i; number = number i; hash = hash i; signature = signature i }

none_named : (o : Option Sighting) (t : SignedSeen) → o ≡ Some (said_of t) → IsOrgName t.org →
    IfSome o (λ x. IfSome x.signature (λ _. ¬ IsOrgName x.org)) → ⊥
none_named o t same named none = subst (λ (p : Option Sighting). IfSome p (λ x. IfSome x.signature (λ _. ¬ IsOrgName x.org))) same none named

one_signed : (text : Bytes) (a b : Option SignedSeen) → SpellsSigned text a → SpellsSigned text b → a ≡ b
one_signed text None None x y = refl
one_signed text (Some a) (Some b) x y =
    let spelled : Some (said_of a) ≡ Some (said_of b) = one_spelled text (Some (said_of a)) (Some (said_of b)) x.1 y.1 in
    let same : said_of a ≡ said_of b = cc spelled in
    ap (λ (t : SignedSeen). Some t) (same_signed a b same)
one_signed text None (Some b) x y = absurd (none_named x.0 b (one_spelled text x.0 (Some (said_of b)) x.1 y.1) y.0 x.2)
one_signed text (Some a) None x y = absurd (none_named y.0 a (one_spelled text y.0 (Some (said_of a)) y.1 x.1) x.0 y.2)

one_told : (listed : Listed) (digest : Bytes) (chain : Chain) (s : Option SignedSeen) (text other : Bytes) → TellsSigned listed digest chain s text →
    TellsSigned listed digest chain s other → text ≡ other
one_told listed digest chain None text other x y = x ∙ sym y
one_told listed digest chain (Some s) text other x y = x ∙ sym y

pub one_fork : (listed : Listed) (digest : Bytes) (chain : Chain) (said text other : Bytes) → TellsFork listed digest chain said text →
    TellsFork listed digest chain said other → text ≡ other
one_fork listed digest chain said text other x y =
    one_told listed digest chain y.0 text other
    (subst (λ (s : Option SignedSeen). TellsSigned listed digest chain s text) (one_signed said x.0 y.0 x.1 y.1) x.2) y.2
