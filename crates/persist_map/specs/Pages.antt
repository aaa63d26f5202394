-- The pages of a map.
use Rattle.std.specs.Prelude.{ℕ, ◌≤◌, List, [], map, length, slice_index_or}
use Rattle.std.specs.List.{AllByRecursion, flat_map}
use Rattle.std.specs.List.Sorted.{IsStrictlySortedBy}
use Rattle.std.specs.Map.{keys_of}
use Rattle.std.specs.declared.cmp.Ordering.{Ordering}
use Rattle.std.specs.declared.alloc.Global.{Global}
use Rattle.std.specs.declared.sync.Arc.{Arc}
use Rattle.std.specs.declared.vec.Vec.{Vec}
use Rattle.persist_map.specs.Entries.{Paged}

-- what shared values hold
abbrev pub shared : {X : Type 0} → List (Arc X Global) → List X
shared arcs = map (λ a. a.value) arcs

-- a page of shared entries, itself shared
abbrev pub Page : Type 0 → Type 0 → Type 0
Page K X = Arc (Vec (Arc (K × X) Global) Global) Global

-- the entries of each page
abbrev pub pages_of : {K X : Type 0} → List (Page K X) → List (List (K × X))
pages_of ps = map (λ p. shared p.value.items) ps

-- the entries of pages, one page after the other
abbrev pub joined : {X : Type 0} → List (List X) → List X
joined ps = flat_map (λ p. p) ps

abbrev pub paged : {K X : Type 0} → List (Page K X) → Paged K X
paged ps = record { entries = joined (pages_of ps); pages = length ps }

-- the entries of the page at an index
abbrev pub page_at : {X : Type 0} → List (List X) → ℕ → List X
page_at ps i = slice_index_or ps i []

-- a page has 1 to 64 entries
abbrev pub IsPage : {X : Type 0} → List X → Type 0
IsPage p = (1 ≤ length p) × (length p ≤ 64)

-- keys ascend, over all pages
pub record AreLaid {K X : Type 0} (cmp : K → K → Ordering) (ps : List (List (K × X))) : Type 0 where
  pub sizes : AllByRecursion IsPage ps
  pub ascending : IsStrictlySortedBy cmp (keys_of (joined ps))
