use Rattle.std.proofs.Common.{◌≡◌, ℕ, ◌+◌, ◌<◌, ◌&&◌, Bool, true, false, List, get_or, length, drop, replicate, if◌then◌else◌, refl, ap, ◌∙◌, arith, rules}
use Rattle.std.proofs.lemmas.List.{get_or-replicate, length-replicate}
use Rattle.reorder.specs.Plan.{tally, waits}
use Rattle.reorder.specs.Cells.{edge_at}
use Rattle.reorder.proofs.Counted.{put_back}
use Rattle.reorder.proofs.Tallies.{tally_more, tally_fits}
use Rattle.reorder.proofs.counting.counts_into.Goals as goal
use Rattle.reorder.proofs.counting.counts_into.Goals.{then-waits, else-waits}

pub loop-from-init : goal.loop-from-init
loop-from-init c =
    let n = c.args.edges.now.size in
    let none : c.in_ok-counts.counts.items ≡ replicate n 0 = search rules in
    record {
      long = ap length none ∙ length-replicate n 0;
      each = λ k lt. ap (λ (xs : List ℕ). get_or xs k 0) none ∙ get_or-replicate n k 0 0 lt;
    }

pub raise-requires-clause-room : goal.raise-requires-clause-room
raise-requires-clause-room c = λ k lt.
    let edges = c.args.edges.now in
    let left = c.args.left.now in
    let was = c.deref_mut.ensures.value in
    let long = ap length was ∙ c.loop-from.invariant.long in
    let is = ap (λ (xs : List ℕ). get_or xs k 0) was ∙ c.loop-from.invariant.each k (omega arith) in
    let fits = tally_fits c.loop-from.from (λ j. waits left j && edge_at edges j k) in
    omega arith

pub loop-from-preserved : goal.loop-from-preserved
loop-from-preserved c =
    let edges = c.args.edges.now in
    let left = c.args.left.now in
    let from = c.loop-from.from in
    let v = c.loop-from.invariant in
    elim c.if-waits.branch [
      | then-waits w ↦
          let here : waits left from ≡ true = search rules in
          let was = w.deref_mut.ensures.value in
          let raised = w.raise.new.counts in
          let long : length raised ≡ edges.size = w.raise.auto.counts ∙ ap length was ∙ v.long in
          let is = put_back c.loop-from.counts.len raised (drop (length raised) c.loop-from.counts.items) (omega arith) in
          let each : (k : ℕ) → k < edges.size → get_or raised k 0 ≡ tally (from + 1) (λ j. waits left j && edge_at edges j k) = λ k lt.
          let now = w.raise.ensures k (omega (arith, ap length was)) in
          let old = ap (λ (xs : List ℕ). get_or xs k 0) was ∙ v.each k lt in
          let cell = ap (λ (b : Bool). if◌then◌else◌ {A = ℕ} b 1 0) (w.row.ensures.cells k) in
          let more = tally_more from (from + 1) (λ j. waits left j && edge_at edges j k) refl in
          let test = ap (λ (b : Bool). if◌then◌else◌ {A = ℕ} (b && edge_at edges from k) 1 0) here in
          omega arith
          in
          rw w.counts-is (record { long = ap length is ∙ long; each = λ k lt. ap (λ (xs : List ℕ). get_or xs k 0) is ∙ each k lt })
      | else-waits w ↦
          let gone : waits left from ≡ false = search rules in
          let each : (k : ℕ) → k < edges.size → get_or c.loop-from.counts.items k 0 ≡ tally (from + 1) (λ j. waits left j && edge_at edges j k) = λ k lt.
          let old = v.each k lt in
          let more = tally_more from (from + 1) (λ j. waits left j && edge_at edges j k) refl in
          let test = ap (λ (b : Bool). if◌then◌else◌ {A = ℕ} (b && edge_at edges from k) 1 0) gone in
          omega arith
          in
          rw w.counts-is (record { long = v.long; each = each })
    ]
