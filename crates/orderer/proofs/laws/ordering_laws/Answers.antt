use Rattle.std.proofs.Common.{[], ◌∷◌, ◌++◌, List, length, map, refl, sym, ap, subst, ◌∙◌, arith}
use Rattle.batch_cutter.specs.Division.{message, IsPending, IsDivision}
use Rattle.fab_types.specs.Size.{envelope_size}
use Rattle.fab_types.specs.declared.envelope.Envelope.{Envelope}
use Rattle.fab_types.specs.declared.block.Block.{Block}
use Rattle.orderer.specs.Blocks.{AddsEach}
use Rattle.orderer.specs.Arranged.{arranges_by}
use Rattle.orderer.proofs.Arranging.{one_arrangement, takes_legal}
use Rattle.orderer.proofs.Joining.{adds_after, each_once, each_through, each_longer, same_ordering}
use Rattle.orderer.proofs.laws.ordering_laws.Goals as goal

pub returns : goal.returns
returns c = record {
  opening = λ now some opens.
      let waits : IsPending envelope_size now.limits [] = record { counted = some; together = omega arith } in
      record {
        batches = [];
        reports = [];
        cut = subst (λ (p : List Envelope). IsDivision envelope_size now.limits [] [] p) (sym opens.0) (refl, waits);
        made = (refl, opens.1);
      };
  step = λ marks old new mark reports was takes.
      let cut = c.division_laws.ensures.join old.limits marks (mark ∷ []) was.batches takes.batches old.pending new.pending was.cut takes.cut in
      let made = adds_after (arranges_by old.reorder) [] old.chain new.chain was.batches takes.batches was.reports reports was.made takes.added in
      record {
        batches = was.batches ++ takes.batches;
        reports = was.reports ++ reports;
        cut = subst (λ l. IsDivision envelope_size l (marks ++ mark ∷ []) (was.batches ++ takes.batches) new.pending) (sym takes.limits) cut;
        made = subst (λ p. AddsEach (arranges_by p) [] (was.batches ++ takes.batches) (was.reports ++ reports) new.chain) (sym takes.reorder) made;
      };
  one = λ marks now other a b edition reorder limits.
      let cut = subst (λ l. IsDivision envelope_size l marks b.batches other.pending) (sym limits) b.cut in
      let same = c.division_laws.ensures.one now.limits marks a.batches b.batches now.pending other.pending a.cut cut in
      let made = subst (λ p. AddsEach (arranges_by p) [] b.batches b.reports other.chain) (sym reorder) b.made in
      let made_same = subst (λ bs. AddsEach (arranges_by now.reorder) [] bs b.reports other.chain) (sym same.0) made in
      let chain = each_once (arranges_by now.reorder) (one_arrangement now.reorder) [] a.batches a.reports b.reports now.chain other.chain a.made made_same in
      same_ordering now other edition reorder limits same.1 chain.1;
  answer = λ old new other mark reports left a b.
      let same = c.division_laws.ensures.one old.limits (map message old.pending ++ mark ∷ []) a.batches b.batches new.pending other.pending a.cut b.cut in
      let added = subst (λ bs. AddsEach (arranges_by old.reorder) old.chain bs left other.chain) (sym same.0) b.added in
      let once = each_once (arranges_by old.reorder) (one_arrangement old.reorder) old.chain a.batches reports left new.chain other.chain a.added added in
      (once.0, same_ordering new other (a.edition ∙ sym b.edition) (a.reorder ∙ sym b.reorder) (a.limits ∙ sym b.limits) same.1 once.1);
  past = λ old new mark reports out takes.
      let arranges = arranges_by old.reorder in
      let same = c.division_laws.ensures.one old.limits (map message old.pending ++ mark ∷ []) (out.first ++ out.others) takes.batches out.pending new.pending
      out.cut takes.cut in
      let added = subst (λ bs. AddsEach arranges old.chain bs reports new.chain) (sym same.0) takes.added in
      let through = each_through arranges old.chain out.first out.others reports new.chain added in
      let once = each_once arranges (one_arrangement old.reorder) old.chain out.first out.reports through.1 out.chain through.0 out.added through.3 in
      let longer = each_longer arranges through.0 out.others through.2 new.chain through.4 in
      omega (arith, out.past, ap (λ (blocks : List Block). length blocks) once.1, longer);
  legal = λ old new mark reports on takes legal.
      takes_legal old.chain takes.batches reports new.chain
      (subst (λ b. AddsEach (arranges_by b) old.chain takes.batches reports new.chain) on takes.added) legal;
}
