-- Those that wait, as an ascending list: how it begins, and what it is when one is gone.
use Rattle.std.proofs.Common.{◌≡◌, ◌≢◌, ℕ, ◌+◌, ◌<◌, ◌≤◌, Bool, true, false, List, [], ◌∷◌, ◌++◌, length, get_or, set, suc, zero, refl, sym, ap, ◌∙◌}
use Rattle.std.proofs.Common.{get_or-set_other, inl, inr, arith, below_more, subst}
use Rattle.std.specs.List.{remove}
use Rattle.std.proofs.lemmas.Bool.{cases_lt}
use Rattle.std.proofs.lemmas.List.{get_or_append_left, get_or_push, length_push, get_or_read}
use Rattle.std.proofs.lemmas.List.Edits.{length-remove, get_or-remove_below, get_or-remove_above}
use Rattle.std.proofs.lemmas.Grind.{get_or_default_zero}
use Rattle.reorder.specs.Plan.{waits}
use Rattle.reorder.specs.Counts.{IsAscending, IsListed}
use Rattle.reorder.proofs.Plans.{others_wait, picked, waits_within}

-- those below an index that wait
pub record IsListedBelow (left : List Bool) (waiting : List ℕ) (below : ℕ) : Type 0 where
  pub ascending : IsAscending waiting
  pub under : (p : ℕ) → p < length waiting → get_or waiting p 0 < below
  pub inside : (p : ℕ) → p < length waiting → waits left (get_or waiting p 0) ≡ true
  pub each : (k : ℕ) → k < below → waits left k ≡ true → (p : ℕ) × (p < length waiting) × (get_or waiting p 0 ≡ k)

pub listed_none : (left : List Bool) → IsListedBelow left [] 0
listed_none left = record {
  ascending = λ p q less lt. absurd (omega arith);
  under = λ p lt. absurd (omega arith);
  inside = λ p lt. absurd (omega arith);
  each = λ k lt w. absurd (omega arith);
}

pub listed_skips : (left : List Bool) (waiting : List ℕ) (i : ℕ) → waits left i ≡ false → IsListedBelow left waiting i → IsListedBelow left waiting (i + 1)
listed_skips left waiting i gone b = record {
  ascending = b.ascending;
  under = λ p lt. let le = b.under p lt in omega arith;
  inside = b.inside;
  each = below_more (λ k. waits left k ≡ true → (p : ℕ) × (p < length waiting) × (get_or waiting p 0 ≡ k)) i b.each (λ w. absurd (cc));
}

-- where a place of a longer list is
push_cases : (waiting : List ℕ) (i : ℕ) (P : ℕ → ℕ → Type 0) → ((p : ℕ) → p < length waiting → P p (get_or waiting p 0)) → P (length waiting) i → (p : ℕ) →
    p < length (waiting ++ i ∷ []) → P p (get_or (waiting ++ i ∷ []) p 0)
push_cases waiting i P old new p lt =
    elim (cases_lt p (length waiting)) as (λ _. P p (get_or (waiting ++ i ∷ []) p 0)) [
      | inl before ↦ subst (λ (x : ℕ). P p x) (sym (get_or_append_left waiting (i ∷ []) 0 p before)) (old p before)
      | inr behind ↦
          let long = length_push waiting i in
          let at : length waiting ≡ p = omega arith in
          let read : get_or (waiting ++ i ∷ []) p 0 ≡ i = get_or_push waiting i 0 p at in
          subst (λ (x : ℕ). P p x) (sym read) (subst (λ (q : ℕ). P q i) at new)
    ]

pub listed_more : (left : List Bool) (waiting : List ℕ) (i : ℕ) → waits left i ≡ true → IsListedBelow left waiting i →
    IsListedBelow left (waiting ++ i ∷ []) (i + 1)
listed_more left waiting i w b =
    let long = length_push waiting i in
    record {
      ascending = λ p q less lt.
          push_cases waiting i (λ q x. p < q → get_or (waiting ++ i ∷ []) p 0 < x)
          (λ q inside before. let same = get_or_append_left waiting (i ∷ []) 0 p (omega arith) in let under = b.ascending p q before inside in omega arith)
          (λ before. let same = get_or_append_left waiting (i ∷ []) 0 p before in let under = b.under p before in omega arith) q lt less;
      under = push_cases waiting i (λ _ x. x < i + 1) (λ p lt. let less = b.under p lt in omega arith) (omega arith);
      inside = push_cases waiting i (λ _ x. waits left x ≡ true) b.inside w;
      each =
          below_more (λ k. waits left k ≡ true → (p : ℕ) × (p < length (waiting ++ i ∷ [])) × (get_or (waiting ++ i ∷ []) p 0 ≡ k)) i
          (λ k lt wk. let at = b.each k lt wk in (at.0, omega arith, get_or_append_left waiting (i ∷ []) 0 at.0 at.1 ∙ at.2))
          (λ _. (length waiting, omega arith, get_or_push waiting i 0 (length waiting) refl));
    }

pub listed_all : (left : List Bool) (waiting : List ℕ) (n : ℕ) → n ≡ length left → IsListedBelow left waiting n → IsListed left waiting
listed_all left waiting n e b = record {
  ascending = b.ascending;
  inside = b.inside;
  each = λ k w. b.each k (waits_within n left k (sym e) w) w;
}

-- the place of a smaller index is before
pub place_before : (waiting : List ℕ) (p q : ℕ) → IsAscending waiting → p < length waiting → get_or waiting p 0 < get_or waiting q 0 → p < q
place_before waiting p q ascending lt less =
    elim (cases_lt p q) as (λ _. p < q) [
      | inl before ↦ before
      | inr behind ↦ elim (cases_lt q p) as (λ _. p < q) [
        | inl after ↦ let more = ascending q p after lt in absurd (omega arith)
        | inr le ↦ let is : p ≡ q = omega arith in let same = ap (λ (x : ℕ). get_or waiting x 0) is in absurd (omega arith)
      ]
    ]

-- the index at an earlier place is not above
pub index_upto : (waiting : List ℕ) (p q : ℕ) → IsAscending waiting → q < length waiting → p ≤ q → get_or waiting p 0 ≤ get_or waiting q 0
index_upto waiting p q ascending lt le =
    elim (cases_lt p q) as (λ _. get_or waiting p 0 ≤ get_or waiting q 0) [
      | inl before ↦ let less = ascending p q before lt in omega arith
      | inr behind ↦ let is : p ≡ q = omega arith in let same = ap (λ (x : ℕ). get_or waiting x 0) is in omega arith
    ]

-- where what stands at a place stood before one was removed
remove_cases : (waiting : List ℕ) (at : ℕ) (P : ℕ → ℕ → Type 0) → at < length waiting → ((p : ℕ) → p < at → P p (get_or waiting p 0)) →
    ((p : ℕ) → at ≤ p → p + 1 < length waiting → P p (get_or waiting (p + 1) 0)) → (p : ℕ) → p < length (remove waiting at) →
    P p (get_or (remove waiting at) p 0)
remove_cases waiting at P within below above p lt =
    let long = length-remove waiting at within in
    elim (cases_lt p at) as (λ _. P p (get_or (remove waiting at) p 0)) [
      | inl before ↦ subst (λ (x : ℕ). P p x) (sym (get_or-remove_below waiting at 0 p before within)) (below p before)
      | inr behind ↦ subst (λ (x : ℕ). P p x) (sym (get_or-remove_above waiting at 0 p behind within)) (above p behind (omega arith))
    ]

pub ascending_removed : (waiting : List ℕ) (at : ℕ) → at < length waiting → IsAscending waiting → IsAscending (remove waiting at)
ascending_removed waiting at within ascending p q before lt =
    let long = length-remove waiting at within in
    remove_cases waiting at (λ p x. p < q → x < get_or (remove waiting at) q 0) within
    (λ p low.
    remove_cases waiting at (λ q y. p < q → get_or waiting p 0 < y) within (λ q small less. ascending p q less (omega arith))
    (λ q big inside less. ascending p (q + 1) (omega arith) inside) q lt)
    (λ p high long_p.
    remove_cases waiting at (λ q y. p < q → get_or waiting (p + 1) 0 < y) within (λ q small less. absurd (omega arith))
    (λ q big inside less. ascending (p + 1) (q + 1) (omega arith) inside) q lt) p (omega arith) before

still_waits : (left : List Bool) (waiting : List ℕ) (at p : ℕ) → IsListed left waiting → p < length waiting → get_or waiting p 0 ≢ get_or waiting at 0 →
    waits (set left (get_or waiting at 0) false) (get_or waiting p 0) ≡ true
still_waits left waiting at p l lt apart =
    get_or-set_other left (get_or waiting at 0) (get_or waiting p 0) false false apart ∙ l.inside p lt

moved : (waiting : List ℕ) (at k p : ℕ) → at < length waiting → p < length waiting → get_or waiting p 0 ≡ k → at < p →
    (q : ℕ) × (q < length (remove waiting at)) × (get_or (remove waiting at) q 0 ≡ k)
moved waiting at k zero within lt is after = absurd (omega arith)
moved waiting at k (suc p) within lt is after =
    let long = length-remove waiting at within in
    let next : suc p ≡ p + 1 = omega arith in
    (p, omega arith, get_or-remove_above waiting at 0 p (omega arith) within ∙ ap (λ (x : ℕ). get_or waiting x 0) (sym next) ∙ is)

-- the list once one of them is gone
pub listed_gone : (left : List Bool) (waiting : List ℕ) (at : ℕ) → at < length waiting → IsListed left waiting →
    IsListed (set left (get_or waiting at 0) false) (remove waiting at)
listed_gone left waiting at within l =
    let long = length-remove waiting at within in
    let i = get_or waiting at 0 in
    record {
      ascending = ascending_removed waiting at within l.ascending;
      inside =
          remove_cases waiting at (λ _ x. waits (set left i false) x ≡ true) within
          (λ p low. let less = l.ascending p at low within in still_waits left waiting at p l (omega arith) (λ e. omega arith))
          (λ p high lt. let more = l.ascending at (p + 1) (omega arith) lt in still_waits left waiting at (p + 1) l lt (λ e. omega arith));
      each = λ k w.
          let p = l.each k (others_wait left i k w) in
          elim (cases_lt p.0 at) as (λ _. (q : ℕ) × (q < length (remove waiting at)) × (get_or (remove waiting at) q 0 ≡ k)) [
            | inl low ↦ (p.0, omega arith, get_or-remove_below waiting at 0 p.0 low within ∙ p.2)
            | inr le ↦ elim (cases_lt at p.0) as (λ _. (q : ℕ) × (q < length (remove waiting at)) × (get_or (remove waiting at) q 0 ≡ k)) [
              | inl high ↦ moved waiting at k p.0 within p.1 p.2 high
              | inr ge ↦
                  let here : at ≡ p.0 = omega arith in
                  let same : i ≡ k = ap (λ (x : ℕ). get_or waiting x 0) here ∙ p.2 in
                  let gone : waits (set left i false) k ≡ false = ap (λ (x : ℕ). waits (set left i false) x) (sym same) ∙ picked left i in
                  absurd (cc)
            ]
          ];
    }

-- the one at a place, as the code reads it
pub taken_is : (waiting : List ℕ) (at i : ℕ) → at < length waiting → i ≡ get_or waiting at i → i ≡ get_or waiting at 0
taken_is waiting at i within e = get_or_read waiting at i within e 0

pub taken_waits : (left : List Bool) (waiting : List ℕ) (at i : ℕ) → at < length waiting → i ≡ get_or waiting at i → IsListed left waiting → waits left i ≡ true
taken_waits left waiting at i within e l =
    ap (λ (x : ℕ). waits left x) (taken_is waiting at i within e) ∙ l.inside at within

pub listed_taken : (left : List Bool) (waiting : List ℕ) (at i : ℕ) → at < length waiting → i ≡ get_or waiting at i → IsListed left waiting →
    IsListed (set left i false) (remove waiting at)
listed_taken left waiting at i within e l =
    subst (λ (x : ℕ). IsListed (set left x false) (remove waiting at)) (sym (taken_is waiting at i within e)) (listed_gone left waiting at within l)

-- each of the list is one of the batch
pub listed_within : (n : ℕ) (left : List Bool) (waiting : List ℕ) → length left ≡ n → IsListed left waiting → (p d : ℕ) → p < length waiting →
    get_or waiting p d < n
listed_within n left waiting long l p d lt =
    let inside = waits_within n left (get_or waiting p 0) long (l.inside p lt) in
    let same = get_or_default_zero waiting p d lt in
    omega arith
