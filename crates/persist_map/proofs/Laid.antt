-- Pages and the entries before and after a place.
use Rattle.std.proofs.Common.{◌≡◌, ℕ, ◌+◌, ◌-◌, ◌<◌, ◌≤◌, true, false, List, [], ◌∷◌, ◌++◌, length, take, drop, get_or, sym, ap, ◌∙◌, subst, arith}
use Rattle.std.proofs.Common.{append_assoc}
use Rattle.std.proofs.lemmas.List.{take-append-drop, get_or-drop, length-drop}
use Rattle.std.proofs.lemmas.List.Concat.{flat_map-append}
use Rattle.std.proofs.lemmas.List.Elements.{All-from_recursion}
use Rattle.std.specs.Ordering.{is_lt, is_gt}
use Rattle.std.specs.Cmp.{IsTotalOrder}
use Rattle.std.specs.declared.cmp.Ordering.{Ordering}
use Rattle.std.specs.declared.cmp.Ordering.TheVariants.{Less, Greater}
use Rattle.std.specs.declared.result.Result.{Result}
use Rattle.std.specs.declared.result.Result.TheVariants.{Ok, Err}
use Rattle.std.specs.List.{AllByRecursion}
use Rattle.persist_map.specs.Pages.{joined, IsPage, AreLaid}
use Rattle.persist_map.specs.Search.{begins_after, entries_before, entries_after, AreBelow, AreAbove, AreUpTo, IsGap, IsHit, IsFound, IsGapAt, IsPlaceOf}
use Rattle.persist_map.proofs.Ordered.{all_append, all_left, all_right, split_at, Ascend, ascend_left, ascend_right, all_below, all_above, below_place}
use Rattle.persist_map.proofs.Ordered.{above_place, gap_below, gap_above, less_from}

pub all_drop : {X : Type 0} (P : X → Type 0) (n : ℕ) (xs : List X) → AllByRecursion P xs → AllByRecursion P (drop n xs)
all_drop P n xs h = all_right P (take n xs) (drop n xs) (subst (AllByRecursion P) (sym (take-append-drop n xs)) h)

pub all_take : {X : Type 0} (P : X → Type 0) (n : ℕ) (xs : List X) → AllByRecursion P xs → AllByRecursion P (take n xs)
all_take P n xs h = all_left P (take n xs) (drop n xs) (subst (AllByRecursion P) (sym (take-append-drop n xs)) h)

pub page_sized : {X : Type 0} (ps : List (List X)) (j : ℕ) → AllByRecursion IsPage ps → j < length ps → IsPage (get_or ps j [])
page_sized ps j h k = All-from_recursion IsPage ps h j [] k

pub joined_append : {X : Type 0} (ps qs : List (List X)) → joined (ps ++ qs) ≡ joined ps ++ joined qs
joined_append ps qs = flat_map-append (λ p. p) ps qs

pub joined_split : {X : Type 0} (ps : List (List X)) (j : ℕ) → j < length ps → joined ps ≡ joined (take j ps) ++ (get_or ps j [] ++ joined (drop (j + 1) ps))
joined_split ps j h = ap joined (split_at ps j [] h) ∙ joined_append (take j ps) (get_or ps j [] ∷ drop (j + 1) ps)

regroup : {X : Type 0} (a b c d : List X) → a ++ ((b ++ c) ++ d) ≡ (a ++ b) ++ (c ++ d)
regroup a b c d = ap (λ l. a ++ l) (append_assoc b c d) ∙ sym (append_assoc a b (c ++ d))

pub joined_gap : {X : Type 0} (ps : List (List X)) (j at : ℕ) → j < length ps → joined ps ≡ entries_before ps j at ++ entries_after ps j at
joined_gap ps j at h =
    let p = get_or ps j [] in
    joined_split ps j h ∙ ap (λ q. joined (take j ps) ++ (q ++ joined (drop (j + 1) ps))) (sym (take-append-drop at p))
    ∙ regroup (joined (take j ps)) (take at p) (drop at p) (joined (drop (j + 1) ps))

pub joined_hit : {X : Type 0} (ps : List (List X)) (j at : ℕ) (d : X) → j < length ps → at < length (get_or ps j []) →
    joined ps ≡ entries_before ps j at ++ get_or (get_or ps j []) at d ∷ entries_after ps j (at + 1)
joined_hit ps j at d h k =
    let p = get_or ps j [] in
    joined_split ps j h ∙ ap (λ q. joined (take j ps) ++ (q ++ joined (drop (j + 1) ps))) (split_at p at d k)
    ∙ regroup (joined (take j ps)) (take at p) (get_or p at d ∷ drop (at + 1) p) (joined (drop (j + 1) ps))

module _ {K X : Type 0} (cmp : K → K → Ordering) (o : IsTotalOrder cmp) (key : K) where
  -- pages of which the first begins after the key
  pub pages_above : (qs : List (List (K × X))) → AllByRecursion IsPage qs → Ascend cmp (joined qs) →
      ((d : List (K × X)) → 0 < length qs → begins_after cmp key (get_or qs 0 d) ≡ true) → AreAbove cmp key (joined qs)
  pages_above [] all s f = tt
  pages_above ([] ∷ qs) all s f = absurd (omega (arith, all.0.0))
  pages_above ((e ∷ es) ∷ qs) all s f =
      let less : cmp key e.0 ≡ Less = less_from (cmp key e.0) (f [] (omega arith)) in
      (less, all_above cmp o key [] e (es ++ joined qs) s (ap is_gt less))

  pages_below : (before p after : List (K × X)) → Ascend cmp (before ++ (p ++ after)) → 1 ≤ length p → begins_after cmp key p ≡ false → AreBelow cmp key before
  pages_below before [] after s h b = absurd (omega (arith, h))
  pages_below before (e ∷ es) after s h b = all_below cmp o key before e (es ++ after) s b

  -- no page begins at the key or before it
  pub gap_at_start : (ps : List (List (K × X))) → AreLaid cmp ps → AreUpTo cmp key ps 0 → IsGapAt cmp key ps 0 0
  gap_at_start [] l u = record { page_inside = λ h. h; inside = omega arith; before = tt; after = tt }
  gap_at_start (p ∷ ps) l u = record {
    page_inside = λ h. h;
    inside = omega arith;
    before = tt;
    after = pages_above (p ∷ ps) l.sizes l.ascending (λ d h. u.next d h);
  }

  pub hit_below : (page : List (K × X)) (at : ℕ) → Ascend cmp page → IsHit cmp key page at → AreBelow cmp key (take at page)
  hit_below [] at s g = absurd (omega (arith, g.inside))
  hit_below (e ∷ es) at s g = below_place cmp o key (e ∷ es) at e g.inside s (ap is_lt (g.equal e))

  pub hit_above : (page : List (K × X)) (at : ℕ) → Ascend cmp page → IsHit cmp key page at → AreAbove cmp key (drop (at + 1) page)
  hit_above [] at s g = absurd (omega (arith, g.inside))
  hit_above (e ∷ es) at s g = above_place cmp o key (e ∷ es) at e g.inside s (ap is_gt (g.equal e))

  by_place : (ps : List (List (K × X))) (j : ℕ) (page : List (K × X)) (r : Result ℕ ℕ) → get_or ps j [] ≡ page → IsFound cmp key page r → j < length ps →
      Ascend cmp page → AreBelow cmp key (joined (take j ps)) → AreAbove cmp key (joined (drop (j + 1) ps)) → IsPlaceOf cmp key ps j r
  by_place ps j page (Ok at) e g inside own below above =
      let hit : IsHit cmp key (get_or ps j []) at = subst (λ q. IsHit cmp key q at) (sym e) g in
      record {
        page_inside = inside;
        inside = hit.inside;
        equal = hit.equal;
        before = all_append (λ f. cmp key f.0 ≡ Greater) (joined (take j ps)) (take at (get_or ps j [])) below
            (subst (λ q. AreBelow cmp key (take at q)) (sym e) (hit_below page at own g));
        after = all_append (λ f. cmp key f.0 ≡ Less) (drop (at + 1) (get_or ps j [])) (joined (drop (j + 1) ps))
            (subst (λ q. AreAbove cmp key (drop (at + 1) q)) (sym e) (hit_above page at own g)) above;
      }
  by_place ps j page (Err at) e g inside own below above =
      let gap : IsGap cmp key (get_or ps j []) at = subst (λ q. IsGap cmp key q at) (sym e) g in
      record {
        page_inside = λ _. inside;
        inside = gap.inside;
        before = all_append (λ f. cmp key f.0 ≡ Greater) (joined (take j ps)) (take at (get_or ps j [])) below
            (subst (λ q. AreBelow cmp key (take at q)) (sym e) (gap_below cmp o key page at own g));
        after = all_append (λ f. cmp key f.0 ≡ Less) (drop at (get_or ps j [])) (joined (drop (j + 1) ps))
            (subst (λ q. AreAbove cmp key (drop at q)) (sym e) (gap_above cmp o key page at own g)) above;
      }

  -- what is found in the last page that begins at the key or before it
  pub place_in_page : (ps : List (List (K × X))) (j : ℕ) (p : List (K × X)) (place : Result ℕ ℕ) → AreLaid cmp ps → AreUpTo cmp key ps (j + 1) →
      get_or ps j [] ≡ p → IsFound cmp key p place → IsPlaceOf cmp key ps j place
  place_in_page ps j p place l u e f =
      let inside : j < length ps = omega (arith, u.inside) in
      let back : j + 1 - 1 ≡ j = omega arith in
      let page = get_or ps j [] in
      let rest = joined (drop (j + 1) ps) in
      let parts : Ascend cmp (joined (take j ps) ++ (page ++ rest)) = subst (Ascend cmp) (joined_split ps j inside) l.ascending in
      let behind : Ascend cmp (page ++ rest) = ascend_right cmp (joined (take j ps)) (page ++ rest) parts in
      let own : Ascend cmp page = ascend_left cmp page rest behind in
      let below : AreBelow cmp key (joined (take j ps)) =
      pages_below (joined (take j ps)) page rest parts (page_sized ps j l.sizes inside).0
      (sym (ap (λ m. begins_after cmp key (get_or ps m [])) back) ∙ u.last [] (omega arith)) in
      let above : AreAbove cmp key rest = pages_above (drop (j + 1) ps) (all_drop IsPage (j + 1) ps l.sizes) (ascend_right cmp page rest behind)
      (λ d h. ap (begins_after cmp key) (get_or-drop (j + 1) ps 0 d ∙ ap (λ m. get_or ps m d) (omega arith)) ∙
      u.next d (omega (arith, length-drop (j + 1) ps, h))) in
      by_place ps j p place e f inside (subst (Ascend cmp) e own) below above
