-- Pages of which one is changed.
use Rattle.std.proofs.Common.{◌≡◌, ℕ, zero, suc, ◌+◌, ◌<◌, ◌≤◌, List, [], ◌∷◌, ◌++◌, length, take, drop, get_or, sym, ap, ◌∙◌, subst, arith, append_assoc}
use Rattle.std.proofs.lemmas.List.{take-append-drop, length-take-le, length-drop, length-append, append-nil, drop_all, take_all, get_or_past}
use Rattle.std.specs.Cmp.{IsTotalOrder}
use Rattle.std.specs.declared.cmp.Ordering.{Ordering}
use Rattle.std.specs.declared.result.Result.{Result}
use Rattle.std.specs.declared.result.Result.TheVariants.{Ok, Err}
use Rattle.std.specs.List.{AllByRecursion}
use Rattle.std.proofs.Common.{Some, None}
use Rattle.persist_map.specs.Entries.{get, put, without}
use Rattle.std.specs.Prelude.{◌==◌}
use Rattle.std.proofs.Common.{true, false, true≢false}
use Rattle.std.proofs.lemmas.List.{length-map}
use Rattle.std.proofs.lemmas.Bool.{eqb-true}
use Rattle.std.specs.declared.alloc.Global.{Global}
use Rattle.std.specs.declared.sync.Arc.{Arc}
use Rattle.std.specs.declared.vec.Vec.{Vec}
use Rattle.persist_map.proofs.Reading.{page_is}
use Rattle.persist_map.specs.Pages.{Page, shared, pages_of, page_at, joined, IsPage, AreLaid}
use Rattle.persist_map.specs.Search.{entries_before, entries_after, IsEntryAt, IsGapAt, IsPlaceOf}
use Rattle.persist_map.specs.Changes.{at_of, next_of, placed, cut, halves, replaced}
use Rattle.persist_map.proofs.Ordered.{all_append, Ascend, ascend_nil, ascend_cons, ascend_without, ascend_put, get_hit, get_gap, put_hit, put_gap, without_hit}
use Rattle.persist_map.proofs.Ordered.{without_gap}
use Rattle.persist_map.proofs.Laid.{all_take, all_drop, page_sized, joined_append, joined_gap, joined_hit}

regroup : {X : Type 0} (a b c d : List X) → a ++ ((b ++ c) ++ d) ≡ (a ++ b) ++ (c ++ d)
regroup a b c d = ap (λ l. a ++ l) (append_assoc b c d) ∙ sym (append_assoc a b (c ++ d))

take_none : {X : Type 0} (n : ℕ) → take {A = X} n [] ≡ []
take_none n = take_all n [] (omega arith)

empty : {X : Type 0} (j at : ℕ) → [] ≡ (joined {X = X} (take j []) ++ take at []) ++ (drop at [] ++ joined (drop (j + 1) []))
empty {X} j at =
    let a = take_none {X = List X} j in let b = take_none {X = X} at in let c : drop {A = X} at [] ≡ [] =
    drop_all at [] (omega arith) in let d : drop {A = List X} (j + 1) [] ≡ [] = drop_all (j + 1) [] (omega arith) in
    λ i. (joined (sym a i) ++ sym b i) ++ (sym c i ++ joined (sym d i))

-- what a change makes of the pages
pub record AreAfter {K X : Type 0} (cmp : K → K → Ordering) (ps : List (List (K × X))) (es : List (K × X)) : Type 0 where
  pub laid : AreLaid cmp ps
  pub entries : joined ps ≡ es

at_next : (r : Result ℕ ℕ) → at_of r ≤ next_of r
at_next (Ok at) = omega arith
at_next (Err at) = omega arith

pub size_placed : {X : Type 0} (p : List X) (r : Result ℕ ℕ) (e : X) → at_of r ≤ length p → next_of r ≤ length p →
    length (placed p r e) + next_of r ≡ length p + at_of r + 1
size_placed p r e h k =
    let total = length-append (take (at_of r) p) (e ∷ drop (next_of r) p) in
    omega (arith, total, length-take-le (at_of r) p h, length-drop (next_of r) p, k)

module _ {K X : Type 0} (cmp : K → K → Ordering) (o : IsTotalOrder cmp) (key : K) where
  pub fits_at : (ps : List (List (K × X))) (j : ℕ) (r : Result ℕ ℕ) → IsPlaceOf cmp key ps j r → at_of r ≤ length (page_at ps j)
  fits_at ps j (Ok at) w = omega (arith, w.inside)
  fits_at ps j (Err at) w = w.inside

  pub fits_next : (ps : List (List (K × X))) (j : ℕ) (r : Result ℕ ℕ) → IsPlaceOf cmp key ps j r → next_of r ≤ length (page_at ps j)
  fits_next ps j (Ok at) w = omega (arith, w.inside)
  fits_next ps j (Err at) w = w.inside

  pub page_inside : (ps : List (List (K × X))) (j : ℕ) (r : Result ℕ ℕ) → IsPlaceOf cmp key ps j r → 0 < length ps → j < length ps
  page_inside ps j (Ok at) w h = w.page_inside
  page_inside ps j (Err at) w h = w.page_inside h

  -- an answer of `get` by the place
  pub get_at : (ps : List (List (K × X))) (j at : ℕ) (d : K × X) → IsEntryAt cmp key ps j at → get cmp (joined ps) key ≡ Some (get_or (page_at ps j) at d).1
  get_at ps j at d w = ap (λ es. get cmp es key) (joined_hit ps j at d w.page_inside w.inside) ∙
      get_hit cmp key (entries_before ps j at) (get_or (page_at ps j) at d) (entries_after ps j (at + 1)) w.before (w.equal d)

  nothing : (p : List (K × X)) (j at : ℕ) → p ≡ [] → [] ≡ (joined {X = K × X} (take j []) ++ take at p) ++ (drop at p ++ joined (drop (j + 1) []))
  nothing p j at e = subst (λ q. [] ≡ (joined {X = K × X} (take j []) ++ take at q) ++ (drop at q ++ joined (drop (j + 1) []))) (sym e) (empty j at)

  pub gap_is : (ps : List (List (K × X))) (j at : ℕ) → IsGapAt cmp key ps j at → joined ps ≡ entries_before ps j at ++ entries_after ps j at
  gap_is [] j at w =
      let none : get_or {A = List (K × X)} [] j [] ≡ [] = get_or_past [] j [] (omega arith) in
      nothing (get_or [] j []) j at none
  gap_is (p ∷ ps) j at w = joined_gap (p ∷ ps) j at (w.page_inside (omega arith))

  pub get_none : (ps : List (List (K × X))) (j at : ℕ) → IsGapAt cmp key ps j at → get cmp (joined ps) key ≡ None
  get_none ps j at w = ap (λ es. get cmp es key) (gap_is ps j at w) ∙ get_gap cmp key (entries_before ps j at) (entries_after ps j at) w.before w.after

  pub without_none : (ps : List (List (K × X))) (j at : ℕ) → IsGapAt cmp key ps j at → joined ps ≡ without cmp (joined ps) key
  without_none ps j at w =
      gap_is ps j at w ∙ sym (without_gap cmp key (entries_before ps j at) (entries_after ps j at) w.before w.after) ∙
      ap (λ es. without cmp es key) (sym (gap_is ps j at w))

  -- with an entry at its place
  pub put_is : (ps : List (List (K × X))) (j : ℕ) (r : Result ℕ ℕ) (v : X) → AreLaid cmp ps → IsPlaceOf cmp key ps j r → j < length ps →
      entries_before ps j (at_of r) ++ (key, v) ∷ entries_after ps j (next_of r) ≡ put cmp (joined ps) key v
  put_is ps j (Ok at) v l w h =
      sym (put_hit cmp key (entries_before ps j at) (get_or (page_at ps j) at (key, v)) (entries_after ps j (at + 1)) v w.before (w.equal (key, v)))
      ∙ ap (λ es. put cmp es key v) (sym (joined_hit ps j at (key, v) w.page_inside w.inside))
  put_is ps j (Err at) v l w h =
      sym (put_gap cmp key (entries_before ps j at) (entries_after ps j at) v w.before w.after)
      ∙ ap (λ es. put cmp es key v) (sym (joined_gap ps j at h))

  pub put_ascends : (ps : List (List (K × X))) (j : ℕ) (r : Result ℕ ℕ) (v : X) → AreLaid cmp ps → IsPlaceOf cmp key ps j r → j < length ps →
      Ascend cmp (entries_before ps j (at_of r) ++ (key, v) ∷ entries_after ps j (next_of r))
  put_ascends ps j (Ok at) v l w h =
      ascend_put cmp key o (entries_before ps j at) (entries_after ps j (at + 1)) v w.before w.after
      (ascend_without cmp (entries_before ps j at) (get_or (page_at ps j) at (key, v)) (entries_after ps j (at + 1))
      (subst (Ascend cmp) (joined_hit ps j at (key, v) w.page_inside w.inside) l.ascending))
  put_ascends ps j (Err at) v l w h =
      ascend_put cmp key o (entries_before ps j at) (entries_after ps j at) v w.before w.after (subst (Ascend cmp) (joined_gap ps j at h) l.ascending)

  page_joined : (ps : List (List (K × X))) (j at next : ℕ) (e : K × X) →
      joined (take j ps ++ (take at (page_at ps j) ++ e ∷ drop next (page_at ps j)) ∷ drop (j + 1) ps) ≡ entries_before ps j at ++ e ∷ entries_after ps j next
  page_joined ps j at next e =
      joined_append (take j ps) ((take at (page_at ps j) ++ e ∷ drop next (page_at ps j)) ∷ drop (j + 1) ps)
      ∙ regroup (joined (take j ps)) (take at (page_at ps j)) (e ∷ drop next (page_at ps j)) (joined (drop (j + 1) ps))

  two_joined : (front : List (List (K × X))) (q : List (K × X)) (n : ℕ) (ds : List (List (K × X))) →
      joined (front ++ take n q ∷ drop n q ∷ ds) ≡ joined (front ++ q ∷ ds)
  two_joined front q n ds =
      joined_append front (take n q ∷ drop n q ∷ ds) ∙
      ap (λ l. joined front ++ l) (sym (append_assoc (take n q) (drop n q) (joined ds)) ∙ ap (λ l. l ++ joined ds) (take-append-drop n q))
      ∙ sym (joined_append front (q ∷ ds))

  sizes_with : (ps : List (List (K × X))) (j : ℕ) (qs : List (List (K × X))) → AllByRecursion IsPage ps → AllByRecursion IsPage qs →
      AllByRecursion IsPage (take j ps ++ (qs ++ drop (j + 1) ps))
  sizes_with ps j qs h k =
      all_append IsPage (take j ps) (qs ++ drop (j + 1) ps) (all_take IsPage j ps h) (all_append IsPage qs (drop (j + 1) ps) k (all_drop IsPage (j + 1) ps h))

  pub put_one : (ps ns : List (List (K × X))) (j : ℕ) (r : Result ℕ ℕ) (v : X) → AreLaid cmp ps → IsPlaceOf cmp key ps j r → j < length ps →
      length (page_at ps j) + at_of r < 64 + next_of r → ns ≡ replaced ps j (placed (page_at ps j) r (key, v) ∷ []) →
      AreAfter cmp ns (put cmp (joined ps) key v)
  put_one ps ns j r v l w h s n =
      let q = placed (page_at ps j) r (key, v) in
      let whole = ap joined n ∙ page_joined ps j (at_of r) (next_of r) (key, v) in
      let size = size_placed (page_at ps j) r (key, v) (fits_at ps j r w) (fits_next ps j r w) in
      let full = (page_sized ps j l.sizes h).0 in
      record {
        laid = record {
          sizes = subst (AllByRecursion IsPage) (sym n)
              (sizes_with ps j (q ∷ []) l.sizes ((omega (arith, size, fits_next ps j r w), omega (arith, size, s)), tt));
          ascending = subst (Ascend cmp) (sym whole) (put_ascends ps j r v l w h);
        };
        entries = whole ∙ put_is ps j r v l w h;
      }

  pub put_two : (ps ns : List (List (K × X))) (j : ℕ) (r : Result ℕ ℕ) (v : X) → AreLaid cmp ps → IsPlaceOf cmp key ps j r → j < length ps →
      64 + next_of r ≤ length (page_at ps j) + at_of r → ns ≡ replaced ps j (halves (placed (page_at ps j) r (key, v))) →
      AreAfter cmp ns (put cmp (joined ps) key v)
  put_two ps ns j r v l w h s n =
      let q = placed (page_at ps j) r (key, v) in
      let whole = ap joined n ∙ two_joined (take j ps) q 32 (drop (j + 1) ps) ∙ page_joined ps j (at_of r) (next_of r) (key, v) in
      let size = size_placed (page_at ps j) r (key, v) (fits_at ps j r w) (fits_next ps j r w) in
      let full = (page_sized ps j l.sizes h).1 in
      let long : length q ≡ 65 = omega (arith, size, s, full, at_next r) in
      let front = length-take-le 32 q (omega (arith, long)) in
      let back = length-drop 32 q in
      record {
        laid = record {
          sizes = subst (AllByRecursion IsPage) (sym n)
              (sizes_with ps j (halves q) l.sizes ((omega (arith, front), omega (arith, front)), ((omega (arith, back, long), omega (arith, back, long)), tt)));
          ascending = subst (Ascend cmp) (sym whole) (put_ascends ps j r v l w h);
        };
        entries = whole ∙ put_is ps j r v l w h;
      }

  -- the first page
  pub put_first : (ps ns : List (List (K × X))) (v : X) → length ps ≡ 0 → ns ≡ ((key, v) ∷ []) ∷ [] → AreAfter cmp ns (put cmp (joined ps) key v)
  put_first [] ns v h n = record {
    laid = record {
      sizes = subst (AllByRecursion IsPage) (sym n) ((omega arith, omega arith), tt);
      ascending = subst (λ m. Ascend cmp (joined m)) (sym n) (ascend_cons cmp (key, v) [] tt (ascend_nil cmp));
    };
    entries = ap joined n;
  }
  put_first (p ∷ ps) ns v h n = absurd (omega (arith, h))

  -- without an entry
  without_is : (ps : List (List (K × X))) (j at : ℕ) (d : K × X) → IsEntryAt cmp key ps j at →
      entries_before ps j at ++ entries_after ps j (at + 1) ≡ without cmp (joined ps) key
  without_is ps j at d w =
      sym (without_hit cmp key (entries_before ps j at) (get_or (page_at ps j) at d) (entries_after ps j (at + 1)) w.before (w.equal d))
      ∙ ap (λ es. without cmp es key) (sym (joined_hit ps j at d w.page_inside w.inside))

  without_ascends : (ps : List (List (K × X))) (j at : ℕ) (d : K × X) → AreLaid cmp ps → IsEntryAt cmp key ps j at →
      Ascend cmp (entries_before ps j at ++ entries_after ps j (at + 1))
  without_ascends ps j at d l w =
      ascend_without cmp (entries_before ps j at) (get_or (page_at ps j) at d) (entries_after ps j (at + 1))
      (subst (Ascend cmp) (joined_hit ps j at d w.page_inside w.inside) l.ascending)

  -- an entry of the list is there to name
  some_entry : (es : List (K × X)) (at : ℕ) → at < length es → K × X
  some_entry [] at h = absurd (omega (arith, h))
  some_entry (e ∷ es) at h = e

  pub delete_one : (ps ns : List (List (K × X))) (j at : ℕ) → AreLaid cmp ps → IsEntryAt cmp key ps j at → 1 < length (page_at ps j) →
      ns ≡ replaced ps j (cut (page_at ps j) at ∷ []) → AreAfter cmp ns (without cmp (joined ps) key)
  delete_one ps ns j at l w s n =
      let p = page_at ps j in
      let d = some_entry p at w.inside in
      let whole = ap joined n ∙ joined_append (take j ps) (cut p at ∷ drop (j + 1) ps) ∙
      regroup (joined (take j ps)) (take at p) (drop (at + 1) p) (joined (drop (j + 1) ps)) in
      let size = page_sized ps j l.sizes w.page_inside in
      let total = length-append (take at p) (drop (at + 1) p) in
      let front = length-take-le at p (omega (arith, w.inside)) in
      let back = length-drop (at + 1) p in
      record {
        laid = record {
          sizes = subst (AllByRecursion IsPage) (sym n)
              (sizes_with ps j (cut p at ∷ []) l.sizes
              ((omega (arith, total, front, back, s, w.inside), omega (arith, total, front, back, size.1, w.inside)), tt));
          ascending = subst (Ascend cmp) (sym whole) (without_ascends ps j at d l w);
        };
        entries = whole ∙ without_is ps j at d w;
      }

  pub delete_page : (ps ns : List (List (K × X))) (j at : ℕ) → AreLaid cmp ps → IsEntryAt cmp key ps j at → length (page_at ps j) ≡ 1 →
      ns ≡ take j ps ++ drop (j + 1) ps → AreAfter cmp ns (without cmp (joined ps) key)
  delete_page ps ns j at l w s n =
      let p = page_at ps j in
      let d = some_entry p at w.inside in
      let first : at ≡ 0 = omega (arith, s, w.inside) in
      let front : take at p ≡ [] = ap (λ m. take m p) first in
      let back : drop (at + 1) p ≡ [] = drop_all (at + 1) p (omega (arith, s)) in
      let whole : joined ns ≡ entries_before ps j at ++ entries_after ps j (at + 1) =
      ap joined n ∙ joined_append (take j ps) (drop (j + 1) ps) ∙
      ap (λ l. l ++ joined (drop (j + 1) ps)) (sym (append-nil (joined (take j ps))) ∙ ap (λ l. joined (take j ps) ++ l) (sym front)) ∙
      ap (λ l. entries_before ps j at ++ (l ++ joined (drop (j + 1) ps))) (sym back) in
      record {
        laid = record {
          sizes = subst (AllByRecursion IsPage) (sym n) (sizes_with ps j [] l.sizes tt);
          ascending = subst (Ascend cmp) (sym whole) (without_ascends ps j at d l w);
        };
        entries = whole ∙ without_is ps j at d w;
      }

pub filled : (n : ℕ) → (n == 0) ≡ false → 0 < n
filled zero h = absurd (true≢false h)
filled (suc n) h = omega arith

pub none_left : (n : ℕ) → (n == 0) ≡ true → n ≡ 0
none_left n h = eqb-true n 0 h

-- a place that was found is on a page, where there is one
pub inside_pages : {K X : Type 0} (cmp : K → K → Ordering) (o : IsTotalOrder cmp) (pages ds : List (Page K X)) (key : K) (j : ℕ) (r : Result ℕ ℕ) →
    0 < length pages → ds ≡ pages → IsPlaceOf cmp key (pages_of ds) j r → j < length pages
inside_pages cmp o pages ds key j r h d w =
    let count = length-map pages (λ p. shared p.value.items) in
    let place = subst (λ b. IsPlaceOf cmp key (pages_of b) j r) d w in
    omega (arith, count, page_inside cmp o key (pages_of pages) j r place (omega (arith, h, count)))

-- the place that was found, and how many entries its page has
pub record IsHere {K X : Type 0} (cmp : K → K → Ordering) (key : K) (ps : List (List (K × X))) (j : ℕ) (r : Result ℕ ℕ) (n : ℕ) : Type 0 where
  pub place : IsPlaceOf cmp key ps j r
  pub inside : j < length ps
  pub long : length (page_at ps j) ≡ n

pub here : {K X : Type 0} (cmp : K → K → Ordering) (o : IsTotalOrder cmp) (pages ds : List (Page K X)) (e f : K × X) (j : ℕ) (r : Result ℕ ℕ) (a : Page K X)
    (v : Vec (Arc (K × X) Global) Global) (s : List (Arc (K × X) Global)) → 0 < length pages → ds ≡ pages → f ≡ e → IsPlaceOf cmp f.0 (pages_of ds) j r →
    a ≡ get_or pages j a → v ≡ a.value → s ≡ v.items → IsHere cmp e.0 (pages_of pages) j r (length s)
here cmp o pages ds e f j r a v s h d k w x y z =
    let place = subst (λ b. IsPlaceOf cmp b.0 (pages_of pages) j r) k (subst (λ b. IsPlaceOf cmp f.0 (pages_of b) j r) d w) in
    let inside = page_inside cmp o e.0 (pages_of pages) j r place (omega (arith, h, length-map pages (λ p. shared p.value.items))) in
    record {
      place = place;
      inside = inside;
      long = ap length (page_is pages j a v inside x y) ∙ length-map v.items (λ p. p.value) ∙ ap length (sym z);
    }

pub record IsHit {K X : Type 0} (cmp : K → K → Ordering) (key : K) (ps : List (List (K × X))) (j at n : ℕ) : Type 0 where
  pub place : IsEntryAt cmp key ps j at
  pub long : length (page_at ps j) ≡ n

pub hit : {K X : Type 0} (cmp : K → K → Ordering) (pages ds : List (Page K X)) (key : K) (j at : ℕ) (r : Result ℕ ℕ) (a : Page K X)
    (v : Vec (Arc (K × X) Global) Global) → ds ≡ pages → IsPlaceOf cmp key (pages_of ds) j r → r ≡ Ok at → a ≡ get_or pages j a → v ≡ a.value →
    IsHit cmp key (pages_of pages) j at (length v.items)
hit cmp pages ds key j at r a v d w e x y =
    let place : IsEntryAt cmp key (pages_of pages) j at =
    subst (IsPlaceOf cmp key (pages_of pages) j) e (subst (λ b. IsPlaceOf cmp key (pages_of b) j r) d w) in
    record { place = place; long = ap length (page_is pages j a v place.page_inside x y) ∙ length-map v.items (λ p. p.value) }
