-- New pages, and lists of pages with one in place of another.
use Rattle.std.proofs.Common.{◌≡◌, ℕ, ◌+◌, ◌-◌, ◌<◌, List, [], ◌∷◌, ◌++◌, length, take, drop, set, get_or, sym, ap, ap₂, ◌∙◌, arith, append_assoc, add-one}
use Rattle.std.proofs.lemmas.List.{map-append, take-map, drop-map, take_rest, map-set, set_split, length-map, take-append-le, take-take, drop_at}
use Rattle.std.proofs.lemmas.List.{length-take-le, length-append}
use Rattle.std.specs.List.{AppendsClones, insert}
use Rattle.std.specs.Arc.{arc_value}
use Rattle.std.specs.declared.result.Result.TheVariants.{Ok, Err}
use Rattle.std.specs.declared.alloc.Global.{Global}
use Rattle.std.specs.declared.sync.Arc.{Arc}
use Rattle.std.specs.declared.vec.Vec.{Vec}
use Rattle.persist_map.specs.Pages.{Page, shared, pages_of, page_at}
use Rattle.persist_map.specs.Changes.{placed, cut, replaced}
use Rattle.persist_map.proofs.Reading.{read_page, shared_appended}
use Rattle.persist_map.proofs.Ordered.{split_at}

front_of : {X : Type 0} (page start one : List (Arc X Global)) (at : ℕ) → start ≡ [] →
    AppendsClones (λ c d. arc_value d ≡ arc_value c) start one (take at page) → shared one ≡ take at (shared page)
front_of page start one at s h =
    shared_appended start one (take at page) h ∙ ap (λ l. shared l ++ shared (take at page)) s ∙ sym (take-map (λ a. a.value) at page)

pub back_of : {X : Type 0} (page : List (Arc X Global)) (next : ℕ) → shared (take (length page - next) (drop next page)) ≡ drop next (shared page)
back_of page next = ap shared (take_rest page next) ∙ sym (drop-map (λ a. a.value) next page)

pub built : {X : Type 0} (page start one two three : List (Arc X Global)) (at next : ℕ) (e : Arc X Global) → start ≡ [] →
    AppendsClones (λ c d. arc_value d ≡ arc_value c) start one (take at page) → two ≡ one ++ e ∷ [] →
    AppendsClones (λ c d. arc_value d ≡ arc_value c) two three (take (length page - next) (drop next page)) →
    shared three ≡ take at (shared page) ++ e.value ∷ drop next (shared page)
built page start one two three at next e s h p k =
    shared_appended two three (take (length page - next) (drop next page)) k
    ∙ ap₂ (λ a b. a ++ b) (ap shared p ∙ map-append (λ a. a.value) one (e ∷ []) ∙ ap (λ l. l ++ e.value ∷ []) (front_of page start one at s h))
    (back_of page next)
    ∙ append_assoc (take at (shared page)) (e.value ∷ []) (drop next (shared page))

-- an entry in place of another, and between others
pub placed_hit : {X : Type 0} (es : List (Arc X Global)) (at : ℕ) (e : Arc X Global) → at < length es →
    shared (set es at e) ≡ placed (shared es) (Ok at) e.value
placed_hit es at e h =
    map-set (λ a. a.value) es at e ∙ set_split (shared es) at e.value (omega (arith, h, length-map es (λ a. a.value)))
    ∙ ap (λ n. take at (shared es) ++ e.value ∷ drop n (shared es)) (sym (add-one at))

pub placed_gap : {X : Type 0} (es ns : List (Arc X Global)) (at : ℕ) (e : Arc X Global) → ns ≡ insert es at e → shared ns ≡ placed (shared es) (Err at) e.value
placed_gap es ns at e h =
    ap shared h ∙ map-append (λ a. a.value) (take at es) (e ∷ drop at es)
    ∙ ap₂ (λ l m. l ++ e.value ∷ m) (sym (take-map (λ a. a.value) at es)) (sym (drop-map (λ a. a.value) at es))

pub cut_out : {X : Type 0} (es ns : List (Arc X Global)) (at : ℕ) → ns ≡ take at es ++ drop (at + 1) es → shared ns ≡ cut (shared es) at
cut_out es ns at h =
    ap shared h ∙ map-append (λ a. a.value) (take at es) (drop (at + 1) es)
    ∙ ap₂ (λ l m. l ++ m) (sym (take-map (λ a. a.value) at es)) (sym (drop-map (λ a. a.value) (at + 1) es))

module _ {K X : Type 0} where
  pub pages_set : (ps : List (Page K X)) (at : ℕ) (a b : Page K X) (f : List (K × X) → List (K × X)) → at < length ps → b ≡ get_or ps at b →
      shared a.value.items ≡ f (shared b.value.items) → pages_of (set ps at a) ≡ replaced (pages_of ps) at (f (page_at (pages_of ps) at) ∷ [])
  pages_set ps at a b f h r e =
      map-set (λ p. shared p.value.items) ps at a ∙
      set_split (pages_of ps) at (shared a.value.items) (omega (arith, h, length-map ps (λ p. shared p.value.items)))
      ∙ ap₂ (λ q n. take at (pages_of ps) ++ q ∷ drop n (pages_of ps)) (e ∙ ap f (sym (read_page ps at b h r []))) (sym (add-one at))

  pub pages_same : (ps : List (Page K X)) (at : ℕ) (a b : Page K X) → at < length ps → b ≡ get_or ps at b → shared a.value.items ≡ shared b.value.items →
      pages_of (set ps at a) ≡ pages_of ps
  pages_same ps at a b h r e =
      pages_set ps at a b (λ p. p) h r e ∙ sym (split_at (pages_of ps) at [] (omega (arith, h, length-map ps (λ p. shared p.value.items))))

  pub pages_two : (ps ns : List (Page K X)) (at : ℕ) (a b : Page K X) (v w : Vec (Arc (K × X) Global) Global) → at < length ps → a.value ≡ v → b.value ≡ w →
      ns ≡ insert ps (at + 1) b → pages_of (set ns at a) ≡ take at (pages_of ps) ++ shared v.items ∷ shared w.items ∷ drop (at + 1) (pages_of ps)
  pages_two ps ns at a b v w h e f g =
      let front = length-take-le (at + 1) ps (omega (arith, h)) in
      let long : at < length ns = omega (arith, ap length g, length-append (take (at + 1) ps) (b ∷ drop (at + 1) ps), front) in
      let before : take at ns ≡ take at ps =
      ap (take at) g ∙ take-append-le at (take (at + 1) ps) (b ∷ drop (at + 1) ps) (omega (arith, front)) ∙ take-take at (at + 1) ps (omega arith) in
      let after : drop (at + 1) ns ≡ b ∷ drop (at + 1) ps = ap (drop (at + 1)) g ∙ drop_at (take (at + 1) ps) (b ∷ drop (at + 1) ps) (at + 1) front in
      ap (λ l. pages_of l) (set_split ns at a long ∙ ap₂ (λ l m. l ++ a ∷ m) before (ap (λ n. drop n ns) (sym (add-one at)) ∙ after))
      ∙ map-append (λ p. shared p.value.items) (take at ps) (a ∷ b ∷ drop (at + 1) ps)
      ∙ ap₂ (λ l m. l ++ m) (sym (take-map (λ p. shared p.value.items) at ps))
      (λ i. shared (e i).items ∷ shared (f i).items ∷ sym (drop-map (λ p. shared p.value.items) (at + 1) ps) i)

  pub pages_removed : (ps ns : List (Page K X)) (at : ℕ) → ns ≡ take at ps ++ drop (at + 1) ps →
      pages_of ns ≡ take at (pages_of ps) ++ drop (at + 1) (pages_of ps)
  pages_removed ps ns at g =
      ap (λ l. pages_of l) g ∙ map-append (λ p. shared p.value.items) (take at ps) (drop (at + 1) ps)
      ∙ ap₂ (λ l m. l ++ m) (sym (take-map (λ p. shared p.value.items) at ps)) (sym (drop-map (λ p. shared p.value.items) (at + 1) ps))
