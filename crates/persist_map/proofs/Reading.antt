-- What is read of shared pages and entries.
use Rattle.std.specs.Prelude.{OnOk, OnErr}
use Rattle.std.specs.declared.result.Result.{Result}
use Rattle.std.specs.declared.result.Result.TheVariants.{Ok, Err}
use Rattle.std.proofs.Common.{◌≡◌, ◌⊎◌, inl, inr, vec_len, ℕ, ◌*◌, ◌<◌, ◌≤◌, List, [], ◌∷◌, ◌++◌, length, get_or, refl, sym, ap, subst, ◌∙◌, arith}
use Rattle.std.proofs.lemmas.List.{get_or-map, length-map, map-append, length-append}
use Rattle.std.specs.Ordering.{is_lt}
use Rattle.std.specs.declared.cmp.Ordering.{Ordering}
use Rattle.std.specs.declared.alloc.Global.{Global}
use Rattle.std.specs.declared.sync.Arc.{Arc}
use Rattle.std.specs.List.{AllByRecursion, AllZip, AppendsClones}
use Rattle.std.specs.Arc.{arc_value}
use Rattle.std.proofs.lemmas.List.Elements.{All-from_recursion}
use Rattle.std.specs.declared.vec.Vec.{Vec}
use Rattle.persist_map.specs.Pages.{Page, shared, pages_of, joined, IsPage}
use Rattle.persist_map.specs.Search.{begins_after}

pub read_page : {K X : Type 0} (ps : List (Page K X)) (i : ℕ) (a : Page K X) → i < length ps → a ≡ get_or ps i a → (d : List (K × X)) →
    get_or (pages_of ps) i d ≡ shared a.value.items
read_page ps i a h e d = get_or-map (λ p. shared p.value.items) ps i a d h ∙ ap (λ p. shared p.value.items) (sym e)

pub read_entry : {X : Type 0} (es : List (Arc X Global)) (i : ℕ) (a : Arc X Global) → i < length es → a ≡ get_or es i a → (d : X) →
    get_or (shared es) i d ≡ a.value
read_entry es i a h e d = get_or-map (λ p. p.value) es i a d h ∙ ap (λ p. p.value) (sym e)

pub begins : {K X : Type 0} (cmp : K → K → Ordering) (key : K) (es : List (Arc (K × X) Global)) (a : Arc (K × X) Global) → 0 < length es → a ≡ get_or es 0 a →
    begins_after cmp key (shared es) ≡ is_lt (cmp key a.value.0)
begins cmp key [] a h e = absurd (omega arith)
begins cmp key (b ∷ bs) a h e = ap (λ p. is_lt (cmp key p.value.0)) (sym e)

pub page_filled : {K X : Type 0} (ps : List (Page K X)) (i : ℕ) (a : Page K X) (v : Vec (Arc (K × X) Global) Global) → AllByRecursion IsPage (pages_of ps) →
    i < length ps → a ≡ get_or ps i a → v ≡ a.value → 0 < length v.items
page_filled ps i a v all h e f =
    let size = All-from_recursion IsPage (pages_of ps) all i (shared a.value.items) (omega (arith, length-map ps (λ p. shared p.value.items))) in
    let read = ap length (read_page ps i a h e (shared a.value.items)) in
    omega (arith, size.0, read, length-map a.value.items (λ p. p.value), ap (λ w. length w.items) f)

pub page_begins : {K X : Type 0} (cmp : K → K → Ordering) (key : K) (ps : List (Page K X)) (i : ℕ) (a : Page K X) (v : Vec (Arc (K × X) Global) Global)
    (x : Arc (K × X) Global) → 0 < length v.items → i < length ps → a ≡ get_or ps i a → v ≡ a.value → x ≡ get_or v.items 0 x → (d : List (K × X)) →
    begins_after cmp key (get_or (pages_of ps) i d) ≡ is_lt (cmp key x.value.0)
page_begins cmp key ps i a v x full h e f g d =
    ap (begins_after cmp key) (read_page ps i a h e d ∙ ap (λ w. shared w.items) (sym f)) ∙ begins cmp key v.items x full g

pub page_short : {K X : Type 0} (ps : List (Page K X)) (i : ℕ) (a : Page K X) (v : Vec (Arc (K × X) Global) Global) → AllByRecursion IsPage (pages_of ps) →
    i < length ps → a ≡ get_or ps i a → v ≡ a.value → length v.items ≤ 64
page_short ps i a v all h e f =
    let size = All-from_recursion IsPage (pages_of ps) all i (shared a.value.items) (omega (arith, length-map ps (λ p. shared p.value.items))) in
    let read = ap length (read_page ps i a h e (shared a.value.items)) in
    omega (arith, size.1, read, length-map a.value.items (λ p. p.value), ap (λ w. length w.items) f)

-- a page as it was read
pub page_is : {K X : Type 0} (ps : List (Page K X)) (j : ℕ) (a : Page K X) (v : Vec (Arc (K × X) Global) Global) → j < length (pages_of ps) →
    a ≡ get_or ps j a → v ≡ a.value → get_or (pages_of ps) j [] ≡ shared v.items
page_is ps j a v h e f = read_page ps j a (omega (arith, h, length-map ps (λ p. shared p.value.items))) e [] ∙ ap (λ w. shared w.items) (sym f)

-- and its entries, as they were read
pub page_shared : {K X : Type 0} (ps : List (Page K X)) (j : ℕ) (a : Page K X) (v : Vec (Arc (K × X) Global) Global) (s : List (Arc (K × X) Global)) →
    j < length ps → a ≡ get_or ps j a → v ≡ a.value → s ≡ v.items → shared s ≡ get_or (pages_of ps) j []
page_shared ps j a v s h e f g = ap shared g ∙ sym (page_is ps j a v (omega (arith, h, length-map ps (λ p. shared p.value.items))) e f)

-- and an entry of it
pub entry_is : {X : Type 0} (p : List X) (es : List (Arc X Global)) (at : ℕ) (x : Arc X Global) → p ≡ shared es → at < length p → x ≡ get_or es at x → (d : X) →
    get_or p at d ≡ x.value
entry_is p es at x e h g d = ap (λ q. get_or q at d) e ∙ read_entry es at x (omega (arith, h, ap length e, length-map es (λ q. q.value))) g d

-- clones share what they are clones of
pub shared_clones : {X : Type 0} (xs ys : List (Arc X Global)) → AllZip (λ c d. arc_value d ≡ arc_value c) xs ys → shared ys ≡ shared xs
shared_clones [] [] h = refl
shared_clones [] (y ∷ ys) h = absurd h
shared_clones (x ∷ xs) [] h = absurd h
shared_clones (x ∷ xs) (y ∷ ys) h = let rest = shared_clones xs ys h.1 in λ i. h.0 i ∷ rest i

pub pages_clones : {K X : Type 0} (xs ys : List (Page K X)) → AllZip (λ c d. arc_value d ≡ arc_value c) xs ys → pages_of ys ≡ pages_of xs
pages_clones [] [] h = refl
pages_clones [] (y ∷ ys) h = absurd h
pages_clones (x ∷ xs) [] h = absurd h
pages_clones (x ∷ xs) (y ∷ ys) h = let rest = pages_clones xs ys h.1 in λ i. shared (h.0 i).items ∷ rest i

pub shared_appended : {X : Type 0} (old new more : List (Arc X Global)) → AppendsClones (λ c d. arc_value d ≡ arc_value c) old new more →
    shared new ≡ shared old ++ shared more
shared_appended old new more h = ap shared h.1 ∙ map-append (λ a. a.value) old h.0 ∙ ap (λ l. shared old ++ l) (shared_clones more h.0 h.2)

-- no page is without entries
pub pages_few : {X : Type 0} (ps : List (List X)) → AllByRecursion IsPage ps → length ps ≤ length (joined ps)
pages_few [] h = omega arith
pages_few (p ∷ ps) h = omega (arith, h.0.0, pages_few ps h.1, length-append p (joined ps))

-- and none has more than 64
pub pages_enough : {X : Type 0} (ps : List (List X)) → AllByRecursion IsPage ps → length (joined ps) ≤ 64 * length ps
pages_enough [] h = omega arith
pages_enough (p ∷ ps) h = omega (arith, h.0.1, pages_enough ps h.1, length-append p (joined ps))

-- by the outcome of a call
pub by_outcome : {T E : Type 0} (r : Result T E) (P Q R : Type 0) → OnOk r P → OnErr r Q → (P → R) → (Q → R) → R
by_outcome (Ok x) P Q R p q f g = f p
by_outcome (Err e) P Q R p q f g = g q

pub on_ok : {T E : Type 0} (r : Result T E) (P Q : Type 0) → OnOk r P → (P → Q) → OnOk r Q
on_ok (Ok x) P Q p f = f p
on_ok (Err e) P Q p f = p

pub on_err : {T E : Type 0} (r : Result T E) (P Q : Type 0) → OnErr r P → (P → Q) → OnErr r Q
on_err (Ok x) P Q p f = p
on_err (Err e) P Q p f = f p

pub at_err : {T E : Type 0} (r : Result T E) (P : Type 0) → P → OnErr r P
at_err (Ok x) P p = tt
at_err (Err e) P p = p

pub once_err : {T E : Type 0} (r : Result T E) (e : E) (P : Type 0) → r ≡ Err e → OnErr r P → P
once_err r e P h p = subst (λ s. OnErr s P) h p

-- a page that may be written to is the one that was shared, or a clone of it
pub same_or_cloned : {X : Type 0} (v w : Vec (Arc X Global) Global) →
    (w ≡ v) ⊎ (AllZip (λ c d. arc_value d ≡ arc_value c) v.items w.items × (vec_len w ≡ vec_len v)) → shared w.items ≡ shared v.items
same_or_cloned v w (inl e) = ap (λ u. shared u.items) e
same_or_cloned v w (inr h) = shared_clones v.items w.items h.0
