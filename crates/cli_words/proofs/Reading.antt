-- Readings that give a value, or find none.
use Rattle.std.proofs.Common.{◌≡◌, ◌∙◌, ℕ, List, Bool, true, false, Option, Some, None, Result, Ok, Err, IfErr, IfSome, IsSome, ap, codes, refl, subst, sym}
use Rattle.std.specs.Prelude.{◌↔◌, unwrap_or}
use Rattle.std.specs.Borrow.{Bor}
use Rattle.std.specs.Option.{ok_or, option_map_or}
use Rattle.std.specs.Str.{bytes_eq}
use Rattle.std.specs.Str.Parse.{ParsesBool}
use Rattle.std.proofs.lemmas.Slice.Eq.{bytes_eq-Decides}
use Rattle.std.proofs.lemmas.Bool.{true≢false}
use Rattle.std.proofs.lemmas.Option.{none-some, same_Some}
use Rattle.clap.specs.Walk.{Row, Text, first_of}
use Rattle.clap.specs.Matches.{ReadsOne}
use Rattle.cli_words.specs.Words.{Has, MayHave, OrElse, Reads, text_of}
use Rattle.cli_words.specs.declared.task.WordsFault.{WordsFault}
use Rattle.cli_words.specs.declared.task.WordsFault.TheVariants as words

-- where a part has no value, the whole has none
pub refused : {A B : Type 0} (P : A → Type 0) (Q : B → Type 0) (e : WordsFault) → Reads P (Err e) → ((b : B) → Q b → (a : A) × P a) → Reads Q (Err e)
refused P Q words.Memory reads part = tt
refused P Q words.Usage reads part = λ b q. let p = part b q in reads p.0 p.1

-- no value is so
pub none_is : {A : Type 0} (P : A → Type 0) (e : WordsFault) → (e ≡ words.Usage → (a : A) → P a → ⊥) → Reads P (Err e)
none_is P words.Memory none = tt
none_is P words.Usage none = none refl

-- the same by what else is so of it
pub reads_by : {A : Type 0} (P Q : A → Type 0) (r : Result A WordsFault) → ((a : A) → P a → Q a) → ((a : A) → Q a → P a) → Reads P r → Reads Q r
reads_by P Q (Ok a) to back reads = to a reads
reads_by P Q (Err words.Memory) to back reads = tt
reads_by P Q (Err words.Usage) to back reads = λ a q. reads a (back a q)

-- the text of a word that is there, or it is not
pub reads_text : (rows : List Row) (name : Text) (o : Option (Bor Text)) → MayHave rows name o →
    Reads (λ text. Has rows name text.now) (ok_or o words.Usage)
reads_text rows name (Some text) has = has
reads_text rows name None has = λ text is. none-some text.now (sym has ∙ is)

pub missing_text : (rows : List Row) (name : Text) (o : Option (Bor Text)) → MayHave rows name o →
    IfErr (ok_or o words.Usage) (λ _. first_of name rows ≡ None)
missing_text rows name (Some text) has = tt
missing_text rows name None has = has

-- two texts under one name are one text
pub one_text : (rows : List Row) (name a b : Text) → Has rows name a → Has rows name b → a ≡ b
one_text rows name a b has other = same_Some a b (sym has ∙ other)

-- whether a flag is given, as it is read
not_true : (b : Bool) → (b ≡ true → ⊥) → false ≡ b
not_true true h = absurd (h refl)
not_true false h = refl

pub flag_of : (E : Type 0) (o : Option Text) (r : Option Bool) → (o ≡ None → r ≡ None) → ((t : Text) → o ≡ Some t → ReadsOne (ParsesBool {E = E}) t r) →
    unwrap_or r false ≡ option_map_or (λ t. bytes_eq t (codes "true")) o false
flag_of E None r none value = ap (λ (q : Option Bool). unwrap_or q false) (none refl)
flag_of E (Some t) (Some true) none value = sym ((bytes_eq-Decides t (codes "true")).1 (value t refl))
flag_of E (Some t) (Some false) none value = sym (ap (λ (u : Text). bytes_eq u (codes "true")) (value t refl))
flag_of E (Some t) None none value =
    not_true (bytes_eq t (codes "true")) (λ is. (value t refl).1.0 ((bytes_eq-Decides t (codes "true")).0 is))

-- the value of a text that is there
pub or_there : {A : Type 0} (Spells : Text → A → Type 0) (other : A) (rows : List Row) (name : Text) (o : Option (Bor Text)) (text : Bor Text)
    (r : Result A WordsFault) → MayHave rows name o → o ≡ Some text → Reads (Spells text.now) r → Reads (OrElse Spells other (first_of name rows)) r
or_there {A} Spells other rows name o text r has is reads =
    subst (λ (t : Option Text). Reads (OrElse Spells other t) r) (sym (has ∙ ap text_of is)) reads

-- and the other value where it is not
pub or_other : {A : Type 0} (Spells : Text → A → Type 0) (other : A) (rows : List Row) (name : Text) (o : Option (Bor Text)) →
    MayHave rows name o → o ≡ None → OrElse Spells other (first_of name rows) other
or_other {A} Spells other rows name o has is =
    subst (λ (t : Option Text). OrElse Spells other t other) (sym (has ∙ ap text_of is)) refl

-- a value that is made of bytes where they are within its limits
pub reads_within : (o : Option (List ℕ)) (bytes : List ℕ) (Within : List ℕ → Type 0) (Q : List ℕ → Type 0) → (IsSome o ↔ Within bytes) →
    IfSome o (λ v. v ≡ bytes) → (Within bytes → Q bytes) → ((v : List ℕ) → Q v → (v ≡ bytes) × Within v) → Reads Q (ok_or o words.Usage)
reads_within (Some v) bytes Within Q accepted value to back = subst Q (sym value) (to (accepted.0 refl))
reads_within None bytes Within Q accepted value to back = λ v q. let b = back v q in true≢false (sym (accepted.1 (subst Within b.0 b.1)))
