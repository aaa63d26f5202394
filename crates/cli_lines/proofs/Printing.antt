-- Texts that are printed one after another, and beginnings of them.
use Rattle.std.proofs.Common.{◌≡◌, ℕ, ◌+◌, ◌<◌, ◌≤◌, List, [], ◌∷◌, ◌++◌, length, get_or, take, drop, refl, sym, ap, ◌∙◌, subst, zero, suc, arith}
use Rattle.std.proofs.Common.{append_assoc, inl, Result, Ok, Err, OnOk, OnErr}
use Rattle.std.proofs.lemmas.List.{append-nil, take_all, take-append-drop}
use Rattle.std.proofs.lemmas.List.Concat.{flat_map-append}
use Rattle.std.specs.List.{flat_map}
use Rattle.std.proofs.KnownBytes.{Appends-nil, Appends-trans}
use Rattle.cli_lines.specs.Told.{Told, Prints, PrintsNothing, PrintsPart}
use Rattle.cli_lines.proofs.Silence.{no_less, and_more}

pub prints_none : (t : Told) → Prints t t []
prints_none t = record { more = no_less t; whole = refl; bytes = Appends-nil t.bytes }

pub prints_then : (t u v : Told) (a b : List ℕ) → Prints t u a → Prints u v b → Prints t v (a ++ b)
prints_then t u v a b first next =
    record {
      more = and_more t u v first.more next.more;
      whole = next.whole ∙ first.whole;
      bytes = Appends-trans t.bytes u.bytes v.bytes a b first.bytes next.bytes;
    }

pub prints_same : (t u : Told) (a b : List ℕ) → a ≡ b → Prints t u a → Prints t u b
prints_same t u a b same = subst (λ (text : List ℕ). Prints t u text) same

-- one item more
one_more : {A : Type 0} (i : ℕ) (xs : List A) (x : A) → i < length xs → x ≡ get_or xs i x → take (i + 1) xs ≡ take i xs ++ x ∷ []
one_more i [] x within is = absurd (omega arith)
one_more {A} zero (y ∷ xs) x within is = ap (λ (a : A). a ∷ []) (sym is)
one_more {A} (suc i) (y ∷ xs) x within is =
    let next : suc i + 1 ≡ suc (i + 1) = omega arith in
    rw next (ap (λ (ys : List A). y ∷ ys) (one_more i xs x (omega arith) is))

-- the text of the first so many items, and of the one at this place
pub items_next : {A : Type 0} (f : A → List ℕ) (xs : List A) (i : ℕ) (d : A) → i < length xs →
    flat_map f (take i xs) ++ f (get_or xs i d) ≡ flat_map f (take (i + 1) xs)
items_next f [] i d within = absurd (omega arith)
items_next f (y ∷ ys) zero d within = sym (append-nil (f y))
items_next {A} f (y ∷ ys) (suc i) d within =
    let next : suc i + 1 ≡ suc (i + 1) = omega arith in
    rw next (append_assoc (f y) (flat_map f (take i ys)) (f (get_or ys i d)) ∙ ap (λ (s : List ℕ). f y ++ s) (items_next f ys i d (omega arith)))

-- the text of the first so many items, behind a text, and of the next one
text_next : {A : Type 0} (f : A → List ℕ) (front : List ℕ) (xs : List A) (i : ℕ) (x : A) → i < length xs → x ≡ get_or xs i x →
    (front ++ flat_map f (take i xs)) ++ f x ≡ front ++ flat_map f (take (i + 1) xs)
text_next {A} f front xs i x within is =
    let longer : flat_map f (take i xs) ++ f x ≡ flat_map f (take (i + 1) xs) =
    sym (ap (λ (ys : List A). flat_map f ys) (one_more i xs x within is) ∙ flat_map-append f (take i xs) (x ∷ [])
    ∙ ap (λ (s : List ℕ). flat_map f (take i xs) ++ s) (append-nil (f x))) in
    append_assoc front (flat_map f (take i xs)) (f x) ∙ ap (λ (s : List ℕ). front ++ s) longer

-- the first so many items of a list are printed, behind a text, and then the next one
pub prints_next : {A : Type 0} (f : A → List ℕ) (front : List ℕ) (xs : List A) (i : ℕ) (x : A) (t u v : Told) → i < length xs → x ≡ get_or xs i x →
    Prints t u (front ++ flat_map f (take i xs)) → Prints u v (f x) → Prints t v (front ++ flat_map f (take (i + 1) xs))
prints_next {A} f front xs i x t u v within is before here =
    prints_same t v ((front ++ flat_map f (take i xs)) ++ f x) (front ++ flat_map f (take (i + 1) xs)) (text_next f front xs i x within is)
    (prints_then t u v (front ++ flat_map f (take i xs)) (f x) before here)

-- the text of the first so many items, behind a text, and of those left
text_left : {A : Type 0} (f : A → List ℕ) (front : List ℕ) (xs : List A) (i : ℕ) →
    (front ++ flat_map f (take i xs)) ++ flat_map f (drop i xs) ≡ front ++ flat_map f xs
text_left {A} f front xs i =
    append_assoc front (flat_map f (take i xs)) (flat_map f (drop i xs))
    ∙ ap (λ (s : List ℕ). front ++ s) (sym (flat_map-append f (take i xs) (drop i xs)) ∙ ap (λ (ys : List A). flat_map f ys) (take-append-drop i xs))

-- all items are printed
pub prints_all : {A : Type 0} (f : A → List ℕ) (front : List ℕ) (xs : List A) (i : ℕ) (t u : Told) → length xs ≤ i →
    Prints t u (front ++ flat_map f (take i xs)) → Prints t u (front ++ flat_map f xs)
prints_all {A} f front xs i t u past = prints_same t u _ _ (ap (λ (ys : List A). front ++ flat_map f ys) (take_all i xs past))

-- none is printed yet
pub prints_front : {A : Type 0} (f : A → List ℕ) (front : List ℕ) (xs : List A) (t u : Told) → Prints t u front → Prints t u (front ++ flat_map f (take 0 xs))
prints_front f front xs t u = prints_same t u _ _ (sym (append-nil front))

pub printed_on_ok : {A E : Type 0} (r : Result A E) (P Q : Type 0) → (P → Q) → OnOk r P → OnOk r Q
printed_on_ok (Ok x) P Q f h = f h
printed_on_ok (Err e) P Q f h = tt

pub on_err : {A E : Type 0} (r : Result A E) (P : Type 0) → P → OnErr r P
on_err (Ok x) P h = tt
on_err (Err e) P h = h

pub printed_on_err : {A E : Type 0} (r : Result A E) (P Q : Type 0) → (P → Q) → OnErr r P → OnErr r Q
printed_on_err (Ok x) P Q f h = tt
printed_on_err (Err e) P Q f h = f h

-- ---- beginnings

pub nothing_same : (t : Told) → PrintsNothing t t
nothing_same t = inl refl

pub part_none : (t u : Told) (whole : List ℕ) → PrintsNothing t u → PrintsPart t u whole
part_none t u whole end = record { text = []; rest = whole; mid = t; parts = refl; prints = prints_none t; end = end }

-- all of it was printed, and then nothing
pub part_end : (t u v : Told) (text : List ℕ) → Prints t u text → PrintsNothing u v → PrintsPart t v text
part_end t u v text prints end = record { text = text; rest = []; mid = u; parts = sym (append-nil text); prints = prints; end = end }

pub part_whole : (t u : Told) (text : List ℕ) → Prints t u text → PrintsPart t u text
part_whole t u text prints = part_end t u u text prints (nothing_same u)

-- a beginning of what comes first
pub part_first : (t u : Told) (a b : List ℕ) → PrintsPart t u a → PrintsPart t u (a ++ b)
part_first t u a b p =
    record {
      text = p.text;
      rest = p.rest ++ b;
      mid = p.mid;
      parts = ap (λ (s : List ℕ). s ++ b) p.parts ∙ append_assoc p.text p.rest b;
      prints = p.prints;
      end = p.end;
    }

-- texts behind a text
abbrev pub behind : List ℕ → List (List ℕ) → List ℕ
behind a [] = a
behind a (b ∷ bs) = behind (a ++ b) bs

pub part_front : (t u : Told) (a : List ℕ) (bs : List (List ℕ)) → PrintsPart t u a → PrintsPart t u (behind a bs)
part_front t u a [] p = p
part_front t u a (b ∷ bs) p = part_front t u (a ++ b) bs (part_first t u a b p)

-- what comes first, and a beginning of what comes then
pub part_then : (t u v : Told) (a b : List ℕ) → Prints t u a → PrintsPart u v b → PrintsPart t v (a ++ b)
part_then t u v a b first p =
    record {
      text = a ++ p.text;
      rest = p.rest;
      mid = p.mid;
      parts = ap (λ (s : List ℕ). a ++ s) p.parts ∙ sym (append_assoc a p.text p.rest);
      prints = prints_then t u p.mid a p.text first p.prints;
      end = p.end;
    }

pub part_same : (t u : Told) (a b : List ℕ) → a ≡ b → PrintsPart t u a → PrintsPart t u b
part_same t u a b same = subst (λ (text : List ℕ). PrintsPart t u text) same

-- the first so many items of a list are printed, behind a text, and then no other
pub part_left : {A : Type 0} (f : A → List ℕ) (front : List ℕ) (xs : List A) (i : ℕ) (t u v : Told) → Prints t u (front ++ flat_map f (take i xs)) →
    PrintsNothing u v → PrintsPart t v (front ++ flat_map f xs)
part_left f front xs i t u v before none =
    part_same t v ((front ++ flat_map f (take i xs)) ++ flat_map f (drop i xs)) (front ++ flat_map f xs) (text_left f front xs i)
    (part_then t u v (front ++ flat_map f (take i xs)) (flat_map f (drop i xs)) before (part_none u v (flat_map f (drop i xs)) none))

-- the first so many items of a list are printed, behind a text, and a beginning of the next one
pub part_next : {A : Type 0} (f : A → List ℕ) (front : List ℕ) (xs : List A) (i : ℕ) (x : A) (t u v : Told) → i < length xs → x ≡ get_or xs i x →
    Prints t u (front ++ flat_map f (take i xs)) → PrintsPart u v (f x) → PrintsPart t v (front ++ flat_map f xs)
part_next f front xs i x t u v within is before here =
    let shown = front ++ flat_map f (take i xs) in
    let rest = flat_map f (drop (i + 1) xs) in
    part_same t v ((shown ++ f x) ++ rest) (front ++ flat_map f xs)
    (ap (λ (s : List ℕ). s ++ rest) (text_next f front xs i x within is) ∙ text_left f front xs (i + 1))
    (part_first t v (shown ++ f x) rest (part_then t u v shown (f x) before here))
