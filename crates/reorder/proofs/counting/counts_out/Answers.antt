use Rattle.std.proofs.Common.{◌≡◌, ℕ, ◌+◌, ◌<◌, ◌&&◌, List, [], ◌∷◌, ◌++◌, length, get_or, ap, ◌∙◌, arith}
use Rattle.std.proofs.lemmas.List.{get_or_append_left, get_or_push, length-append}
use borrow.Author.Count.{below_more}
use Rattle.reorder.specs.Plan.{tally, waits}
use Rattle.reorder.specs.Cells.{edge_at}
use Rattle.reorder.proofs.counting.counts_out.Goals as goal

-- one value more
pushed : (f : ℕ → ℕ) (xs ys : List ℕ) (i v : ℕ) → length xs ≡ i → ys ≡ xs ++ v ∷ [] → ((k : ℕ) → k < i → get_or xs k 0 ≡ f k) → v ≡ f i →
    (k : ℕ) → k < i + 1 → get_or ys k 0 ≡ f k
pushed f xs ys i v long e each is =
    below_more (λ k. get_or ys k 0 ≡ f k) i
    (λ k lt. ap (λ (zs : List ℕ). get_or zs k 0) e ∙ get_or_append_left xs (v ∷ []) 0 k (omega (arith, lt, long)) ∙ each k lt)
    (ap (λ (zs : List ℕ). get_or zs i 0) e ∙ get_or_push xs v 0 i long ∙ is)

pub loop-i-preserved : goal.loop-i-preserved
loop-i-preserved c =
    let edges = c.args.edges.now in
    let left = c.args.left.now in
    let counts = c.loop-i.counts.items in
    let inv = c.loop-i.invariant in
    let of : ℕ → ℕ = λ k. tally edges.size (λ j. waits left j && edge_at edges k j) in
    let value : c.count.result ≡ of c.loop-i.i =
    c.count.ensures ∙ (λ q. tally (c.row.ensures.long q) (λ j. waits left j && c.row.ensures.cells j q)) in
    record {
      long = omega (arith, ap length c.in_ok-push.ensures.items, length-append counts (c.count.result ∷ []), inv.long);
      each = pushed of counts c.push.new.self.items c.loop-i.i c.count.result inv.long c.in_ok-push.ensures.items inv.each value;
    }
