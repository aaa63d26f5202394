-- The rule of the cell is kept by each step.
use Rattle.std.proofs.Common.{◌≡◌, ◌≢◌, ◌⊎◌, ℕ, List, true, false, set, refl, sym, ap, ◌∙◌, ⊎_elim}
use mathlib.Core.Option.{some}
use lib.ListN.{get_elem?}
use Rattle.crossbeam_utils.specs.Register.{Admits, TurnsAt, Forks, Merges}
use Rattle.atomic_table.proofs.Lists.{at_set, at_snoc}
use Rattle.logbook.specs.Pages.{Book}
use Rattle.snapshot_cell.specs.declared.kept.Kept.{Kept}
use Rattle.snapshot_cell.specs.declared.knowledge.Knowledge.{Knowledge}
use Rattle.snapshot_cell.specs.Knowing.{knowing, AllKnow}

abbrev pub unknown : Knowledge
unknown = record { knows = false; number = 0; log_name = 0; cells_name = 0 }

abbrev pub holds : Kept → List Knowledge → Type 0
holds k seats = AllKnow k.front.seen.book seats

-- histories of which one thing is known are one
pub known_back : (a b : Book) → knowing a ≡ knowing b → a ≡ b
known_back a b e i = record { number = (e i).number; log_name = (e i).log_name; cells_name = (e i).cells_name }

unknown_not : {A : Type 0} (m : Knowledge) → unknown ≡ m → m.knows ≡ true → A
unknown_not m e known = let no : false ≡ true = ap (λ (k : Knowledge). k.knows) e ∙ known in absurd cc

set_knows : (b : Book) (seats : List Knowledge) (seat : ℕ) (v : Knowledge) → AllKnow b seats → (v.knows ≡ true → v ≡ knowing b) → AllKnow b (set seats seat v)
set_knows b seats seat v h low j u e known =
    ⊎_elim (λ (t : (j ≡ seat) × (v ≡ u)). sym t.1 ∙ low (ap (λ (k : Knowledge). k.knows) t.1 ∙ known))
    (λ (t : (j ≢ seat) × (get_elem? seats j ≡ some u)). h j u t.1 known)
    (at_set seats seat j v u e)

snoc_knows : (b : Book) (seats : List Knowledge) (v : Knowledge) → AllKnow b seats → (v.knows ≡ true → v ≡ knowing b) → (j : ℕ) (u : Knowledge) →
    (get_elem? seats j ≡ some u) ⊎ (v ≡ u) → u.knows ≡ true → u ≡ knowing b
snoc_knows b seats v h low j u at known =
    ⊎_elim (λ (a : get_elem? seats j ≡ some u). h j u a known) (λ (e : v ≡ u). sym e ∙ low (ap (λ (k : Knowledge). k.knows) e ∙ known)) at

pub admits : Admits holds unknown
admits x seats h j u at known = snoc_knows x.front.seen.book seats unknown h (λ k. unknown_not unknown refl k) j u (at_snoc seats unknown u j at) known

-- a step after which the shown copy is of the same history, and the seat knows it
pub turns : (seat : ℕ) (v : Knowledge) (x y : Kept) → knowing y.front.seen.book ≡ knowing x.front.seen.book
    → TurnsAt holds seat v x y (λ v x y w. (v.knows ≡ true → v ≡ knowing x.front.seen.book) × (w ≡ knowing y.front.seen.book))
turns seat v x y same seats h at = (
  knowing y.front.seen.book,
  set_knows y.front.seen.book seats seat (knowing y.front.seen.book) (λ j u a known. h j u a known ∙ sym same) (λ _. refl),
  (h seat v at, refl),
)

pub forks : (seat : ℕ) (v : Knowledge) → Forks holds seat v v v
forks seat v x seats h at j u e known =
    snoc_knows x.front.seen.book (set seats seat v) v (set_knows x.front.seen.book seats seat v h (h seat v at)) (h seat v at) j u
    (at_snoc (set seats seat v) v u j e) known

pub merges : (seat : ℕ) (v : Knowledge) (other : ℕ) (w : Knowledge) → Merges holds seat v other w w unknown
merges seat v other w x seats h at apart there =
    let b : w.knows ≡ true → w ≡ knowing x.front.seen.book =
    ⊎_elim (λ (t : (other ≡ seat) × (w ≡ w)). absurd (apart t.0)) (λ (t : (other ≢ seat) × (get_elem? seats other ≡ some w)). h other w t.1)
    (at_set seats seat other w w there) in
    set_knows x.front.seen.book (set seats seat w) other unknown (set_knows x.front.seen.book seats seat w h b) (λ k. unknown_not unknown refl k)
