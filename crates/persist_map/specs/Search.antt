-- What a binary search finds.
use Rattle.std.specs.Prelude.{◌≡◌, ℕ, ◌+◌, ◌-◌, ◌^◌, ◌<◌, ◌≤◌, Bool, true, false, List, [], ◌∷◌, ◌++◌, length, take, drop, slice_index_or}
use Rattle.std.specs.List.{AllByRecursion}
use Rattle.std.specs.Ordering.{is_lt}
use Rattle.persist_map.specs.Pages.{joined, page_at}
use Rattle.std.specs.declared.cmp.Ordering.{Ordering}
use Rattle.std.specs.declared.cmp.Ordering.TheVariants.{Less, Equal, Greater}
use Rattle.std.specs.declared.result.Result.{Result}
use Rattle.std.specs.declared.result.Result.TheVariants.{Ok, Err}

-- at most as many steps as the number has binary digits: d, where it is below 2 ^ d
abbrev pub IsWithinDigits : ℕ → ℕ → Type 0
IsWithinDigits n steps = (d : ℕ) → n < 2 ^ d → steps ≤ d

-- at least as many but one: d, where it is 2 ^ d or more
abbrev pub ReachesDigits : ℕ → ℕ → Type 0
ReachesDigits n steps = (d : ℕ) → 2 ^ d ≤ n → d ≤ steps

-- the entries before a place of a page, and those from it on
abbrev pub entries_before : {X : Type 0} → List (List X) → ℕ → ℕ → List X
entries_before ps page at = joined (take page ps) ++ take at (page_at ps page)

abbrev pub entries_after : {X : Type 0} → List (List X) → ℕ → ℕ → List X
entries_after ps page at = drop at (page_at ps page) ++ joined (drop (page + 1) ps)

module _ {K X : Type 0} (cmp : K → K → Ordering) (key : K) where
  -- a page begins after the key
  abbrev pub begins_after : List (K × X) → Bool
  begins_after [] = true
  begins_after (e ∷ es) = is_lt (cmp key e.0)

  -- the first pages begin at the key or before it, and the next after it
  pub record AreUpTo (ps : List (List (K × X))) (count : ℕ) : Type 0 where
    pub inside : count ≤ length ps
    pub last : (d : List (K × X)) → 0 < count → begins_after (slice_index_or ps (count - 1) d) ≡ false
    pub next : (d : List (K × X)) → count < length ps → begins_after (slice_index_or ps count d) ≡ true

  -- the key is between the entries before the place and the others
  pub record IsGap (es : List (K × X)) (at : ℕ) : Type 0 where
    pub inside : at ≤ length es
    pub last : (d : K × X) → 0 < at → cmp key (slice_index_or es (at - 1) d).0 ≡ Greater
    pub next : (d : K × X) → at < length es → cmp key (slice_index_or es at d).0 ≡ Less

  -- the key is that of the entry at the place
  pub record IsHit (es : List (K × X)) (at : ℕ) : Type 0 where
    pub inside : at < length es
    pub equal : (d : K × X) → cmp key (slice_index_or es at d).0 ≡ Equal

  abbrev pub IsFound : List (K × X) → Result ℕ ℕ → Type 0
  IsFound es (Ok at) = IsHit es at
  IsFound es (Err at) = IsGap es at

  -- entries whose keys are all below the key, and all above it
  abbrev pub AreBelow : List (K × X) → Type 0
  AreBelow es = AllByRecursion (λ e. cmp key e.0 ≡ Greater) es

  abbrev pub AreAbove : List (K × X) → Type 0
  AreAbove es = AllByRecursion (λ e. cmp key e.0 ≡ Less) es

  -- the key is that of the entry at a place of a page
  pub record IsEntryAt (ps : List (List (K × X))) (page at : ℕ) : Type 0 where
    pub page_inside : page < length ps
    pub inside : at < length (page_at ps page)
    pub equal : (d : K × X) → cmp key (slice_index_or (page_at ps page) at d).0 ≡ Equal
    pub before : AreBelow (entries_before ps page at)
    pub after : AreAbove (entries_after ps page (at + 1))

  -- the key is between the entries before a place of a page and the others
  pub record IsGapAt (ps : List (List (K × X))) (page at : ℕ) : Type 0 where
    pub page_inside : 0 < length ps → page < length ps
    pub inside : at ≤ length (page_at ps page)
    pub before : AreBelow (entries_before ps page at)
    pub after : AreAbove (entries_after ps page at)

  abbrev pub IsPlaceOf : List (List (K × X)) → ℕ → Result ℕ ℕ → Type 0
  IsPlaceOf ps page (Ok at) = IsEntryAt ps page at
  IsPlaceOf ps page (Err at) = IsGapAt ps page at
