-- The parts of pages that a range is made of.
use Rattle.std.proofs.Common.{◌≡◌, ℕ, ◌+◌, ◌-◌, ◌<◌, ◌≤◌, List, [], ◌++◌, length, take, drop, get_or, sym, ap, ap₂, ◌∙◌, subst, arith, Some}
use Rattle.std.proofs.lemmas.List.{length-map, take_rest, drop-map, take-map, nil_from_length, take-append-drop}
use Rattle.std.proofs.lemmas.List.Elements.{filter-append}
use Rattle.std.specs.Cmp.{IsTotalOrder}
use Rattle.std.specs.declared.cmp.Ordering.{Ordering}
use Rattle.std.specs.declared.result.Result.{Result}
use Rattle.std.specs.declared.result.Result.TheVariants.{Ok, Err}
use Rattle.std.specs.declared.alloc.Global.{Global}
use Rattle.std.specs.declared.sync.Arc.{Arc}
use Rattle.std.specs.declared.vec.Vec.{Vec}
use Rattle.std.specs.List.{filter}
use Rattle.persist_map.specs.Entries.{is_from, is_before}
use Rattle.persist_map.specs.Pages.{Page, shared, pages_of, joined, IsPage, AreLaid}
use Rattle.persist_map.specs.Search.{IsPlaceOf, IsFound}
use Rattle.persist_map.specs.Changes.{at_of}
use Rattle.persist_map.proofs.Ordered.{Ascend, ascend_left, ascend_right}
use Rattle.persist_map.proofs.Laid.{joined_split, all_drop}
use Rattle.persist_map.proofs.Changes.{fits_at, page_inside}
use Rattle.persist_map.proofs.Reading.{page_is}
use Rattle.persist_map.proofs.Building.{back_of}
use Rattle.persist_map.proofs.Ranges.{from_place, before_place, before_found}

module _ {K X : Type 0} (cmp : K → K → Ordering) (o : IsTotalOrder cmp) where
  rest_is : (pages : List (Page K X)) (n : ℕ) → pages_of (take (length pages - n) (drop n pages)) ≡ drop n (pages_of pages)
  rest_is pages n = ap (λ l. pages_of l) (take_rest pages n) ∙ sym (drop-map (λ p. shared p.value.items) n pages)

  pages_ascend : (ps : List (List (K × X))) (j : ℕ) → j < length ps → AreLaid cmp ps → Ascend cmp (get_or ps j [] ++ joined (drop (j + 1) ps))
  pages_ascend ps j h l =
      ascend_right cmp (joined (take j ps)) (get_or ps j [] ++ joined (drop (j + 1) ps)) (subst (Ascend cmp) (joined_split ps j h) l.ascending)

  -- a place that was found is on its page
  pub place_fits : (pages : List (Page K X)) (key : K) (j at : ℕ) (r : Result ℕ ℕ) (a : Page K X) (v : Vec (Arc (K × X) Global) Global)
      (s : List (Arc (K × X) Global)) → 0 < length pages → IsPlaceOf cmp key (pages_of pages) j r → at ≡ at_of r → a ≡ get_or pages j a → v ≡ a.value →
      s ≡ v.items → at ≤ length s
  place_fits pages key j at r a v s h w e x y z =
      let inside : j < length (pages_of pages) =
      page_inside cmp o key (pages_of pages) j r w (omega (arith, h, length-map pages (λ p. shared p.value.items))) in
      let long : length (get_or (pages_of pages) j []) ≡ length v.items = ap length (page_is pages j a v inside x y) ∙ length-map v.items (λ p. p.value) in
      let fits : at_of r ≤ length (get_or (pages_of pages) j []) = fits_at cmp o key (pages_of pages) j r w in
      omega (arith, e, long, ap length z, fits)

  pub rest_laid : (pages : List (Page K X)) (key : K) (j : ℕ) (r : Result ℕ ℕ) → 0 < length pages → AreLaid cmp (pages_of pages) →
      IsPlaceOf cmp key (pages_of pages) j r → AreLaid cmp (pages_of (take (length pages - (j + 1)) (drop (j + 1) pages)))
  rest_laid pages key j r h l w =
      let inside : j < length (pages_of pages) =
      page_inside cmp o key (pages_of pages) j r w (omega (arith, h, length-map pages (λ p. shared p.value.items))) in
      subst (AreLaid cmp) (sym (rest_is pages (j + 1)))
      (record {
        sizes = all_drop IsPage (j + 1) (pages_of pages) l.sizes;
        ascending = ascend_right cmp (get_or (pages_of pages) j []) (joined (drop (j + 1) (pages_of pages))) (pages_ascend (pages_of pages) j inside l);
      })

  pub front_ascends : (pages : List (Page K X)) (key : K) (j at : ℕ) (r : Result ℕ ℕ) (a : Page K X) (v : Vec (Arc (K × X) Global) Global)
      (s : List (Arc (K × X) Global)) → 0 < length pages → AreLaid cmp (pages_of pages) → IsPlaceOf cmp key (pages_of pages) j r → a ≡ get_or pages j a →
      v ≡ a.value → s ≡ v.items → Ascend cmp (shared (take (length s - at) (drop at s)))
  front_ascends pages key j at r a v s h l w x y z =
      let inside : j < length (pages_of pages) =
      page_inside cmp o key (pages_of pages) j r w (omega (arith, h, length-map pages (λ p. shared p.value.items))) in
      let page : get_or (pages_of pages) j [] ≡ shared s = page_is pages j a v inside x y ∙ ap shared (sym z) in
      let own : Ascend cmp (shared s) =
      subst (Ascend cmp) page
      (ascend_left cmp (get_or (pages_of pages) j []) (joined (drop (j + 1) (pages_of pages))) (pages_ascend (pages_of pages) j inside l)) in
      subst (Ascend cmp) (sym (back_of s at))
      (ascend_right cmp (take at (shared s)) (drop at (shared s)) (subst (Ascend cmp) (sym (take-append-drop at (shared s))) own))

  pub tail_read : (pages : List (Page K X)) (key : K) (j at : ℕ) (r : Result ℕ ℕ) (a : Page K X) (v : Vec (Arc (K × X) Global) Global)
      (s : List (Arc (K × X) Global)) → 0 < length pages → IsPlaceOf cmp key (pages_of pages) j r → at ≡ at_of r → a ≡ get_or pages j a → v ≡ a.value →
      s ≡ v.items → shared (take (length s - at) (drop at s)) ++ joined (pages_of (take (length pages - (j + 1)) (drop (j + 1) pages))) ≡
      filter (λ e. is_from cmp (Some key) e.0) (joined (pages_of pages))
  tail_read pages key j at r a v s h w e x y z =
      let inside : j < length (pages_of pages) =
      page_inside cmp o key (pages_of pages) j r w (omega (arith, h, length-map pages (λ p. shared p.value.items))) in
      let page : shared s ≡ get_or (pages_of pages) j [] = ap shared z ∙ sym (page_is pages j a v inside x y) in
      ap₂ (λ b c. b ++ c) (back_of s at ∙ (λ i. drop (e i) (page i))) (ap joined (rest_is pages (j + 1))) ∙ from_place cmp o key (pages_of pages) j r w inside

  pub found_fits : (key : K) (es : List (K × X)) (r : Result ℕ ℕ) → IsFound cmp key es r → at_of r ≤ length es
  found_fits key es (Ok at) f = omega (arith, f.inside)
  found_fits key es (Err at) f = f.inside

  front_kept : (front : List (Arc (K × X) Global)) (key : K) (at : ℕ) (q : Result ℕ ℕ) → Ascend cmp (shared front) → IsFound cmp key (shared front) q →
      at ≡ at_of q → shared (take at front) ≡ filter (λ e. is_before cmp (Some key) e.0) (shared front)
  front_kept front key at q s f e =
      sym (take-map (λ p. p.value) at front) ∙ ap (λ n. take n (shared front)) e ∙ sym (before_found cmp o key (shared front) q s f)

  pub end_none : (front : List (Arc (K × X) Global)) (pages : List (Page K X)) (key : K) (at : ℕ) (q : Result ℕ ℕ) → Ascend cmp (shared front) →
      IsFound cmp key (shared front) q → at ≡ at_of q → length pages ≡ 0 →
      shared (take at front) ++ (joined (pages_of pages) ++ []) ≡ filter (λ e. is_before cmp (Some key) e.0) (shared front ++ joined (pages_of pages))
  end_none front pages key at q s f e n =
      let nothing : joined (pages_of pages) ≡ [] = ap (λ l. joined (pages_of l)) (nil_from_length pages n) in
      ap₂ (λ a b. a ++ (b ++ [])) (front_kept front key at q s f e) nothing
      ∙ sym (filter-append (λ e. is_before cmp (Some key) e.0) (shared front) (joined (pages_of pages)) ∙
      ap (λ b. filter (λ e. is_before cmp (Some key) e.0) (shared front) ++ filter (λ e. is_before cmp (Some key) e.0) b) nothing)

  pub end_read : (front : List (Arc (K × X) Global)) (pages : List (Page K X)) (key : K) (at to j : ℕ) (q r : Result ℕ ℕ) (a : Page K X)
      (v : Vec (Arc (K × X) Global) Global) (s : List (Arc (K × X) Global)) → Ascend cmp (shared front) → IsFound cmp key (shared front) q → at ≡ at_of q →
      0 < length pages → IsPlaceOf cmp key (pages_of pages) j r → to ≡ at_of r → a ≡ get_or pages j a → v ≡ a.value → s ≡ v.items →
      shared (take at front) ++ (joined (pages_of (take j pages)) ++ shared (take to s)) ≡
      filter (λ e. is_before cmp (Some key) e.0) (shared front ++ joined (pages_of pages))
  end_read front pages key at to j q r a v s u f d h w e x y z =
      let inside : j < length (pages_of pages) =
      page_inside cmp o key (pages_of pages) j r w (omega (arith, h, length-map pages (λ p. shared p.value.items))) in
      let page : shared s ≡ get_or (pages_of pages) j [] = ap shared z ∙ sym (page_is pages j a v inside x y) in
      ap₂ (λ b c. b ++ c) (front_kept front key at q u f d)
      (ap₂ (λ b c. joined b ++ c) (sym (take-map (λ p. shared p.value.items) j pages)) (sym (take-map (λ p. p.value) to s) ∙ (λ i. take (e i) (page i))) ∙
      sym (before_place cmp o key (pages_of pages) j r w inside))
      ∙ sym (filter-append (λ e. is_before cmp (Some key) e.0) (shared front) (joined (pages_of pages)))
