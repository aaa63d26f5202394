use Rattle.std.proofs.Common.{◌≡◌, ℕ, [], ◌∷◌, ◌++◌, List, Option, length, ap, ap₂, arith, rules, subst, sym, ◌∙◌}
use Rattle.std.specs.Vec.Iter.{into_iter_items, into_iter_len}
use Rattle.std.specs.Vec.{vec_capacity}
use Rattle.std.proofs.lemmas.Iterator.Adapters.{YieldsList-from_vec}
use Rattle.std.proofs.lemmas.Iterator.Consumers.{YieldsList-end}
use Rattle.std.proofs.lemmas.List.{map-append, map-id}
use Rattle.fab_types.specs.declared.block.Block.{Block}
use Rattle.orderer.specs.declared.making.Made.{Made}
use Rattle.log_orderer.specs.Cutting.{AreFront, HaveRoom}
use Rattle.orderer.specs.Headers.{reports_made}
use Rattle.log_orderer.specs.declared.batch.LogBatch.{LogBatch}
use Rattle.log_orderer.proofs.Handing.{blocks_each, blocks_in}
use Rattle.log_orderer.proofs.Telling.{cut_more, more_room}
use Rattle.log_orderer.proofs.batch.cut_each.Goals as goal

pub made-preserved : goal.made-preserved
made-preserved c =
    let kept = c.made.invariant in
    let each = c.in-Some.each in
    let before = c.made.yielded in
    let later = into_iter_items c.next.new.self in
    let waiting = c.made.waiting.items in
    let split = c.in-Some.ensures.steps.0 in
    let front = subst (λ (ms : List Made). AreFront (reports_made ms) waiting) split kept.front in
    let room = subst (λ (ms : List Made). HaveRoom (reports_made ms) (vec_capacity c.made.ids)) split kept.room in
    let pushed = rw c.unwrap.ensures at c.push.ensures.items in
    let counted = rw c.unwrap.ensures at c.push.ensures.len in
    let told = cut_more (reports_made before) each.report c.args.waiting.now.items waiting c.made.batches.items c.cut.result kept.cut c.cut.ensures.batch in
    let joined = map-append (λ (m : Made). m.report) before (each ∷ []) in
    record {
      front = subst (λ (l : List (List ℕ)). AreFront (reports_made later) l) (sym c.cut.ensures.rest) front.1;
      room = more_room (reports_made later) (vec_capacity c.replace-room.new.dest) room.1;
      empty = search rules;
      fits = omega (arith, ap length split, counted, c.push.ensures.capacity, kept.fits);
      cut = rw (pushed, c.cut.ensures.rest, joined) told;
      blocks = rw pushed (
          map-append (λ (b : LogBatch). b.block) c.made.batches.items (c.cut.result ∷ [])
          ∙ ap₂ (λ (a b : List (Option Block)). a ++ b) kept.blocks (ap (λ (o : Option Block). o ∷ []) c.cut.ensures.block)
          ∙ sym (map-append (λ (m : Made). m.block) before (each ∷ [])));
    }

pub returns-clause-blocks : goal.returns-clause-blocks
returns-clause-blocks c =
    let made = c.args.made in
    let begun = c.into_iter-each-iterator.ensures.into_iter_gives in
    let counted : into_iter_len c.into_iter-each-iterator.result ≡ length made.items = omega (arith, begun.1, made.ok.0) in
    let ended =
    YieldsList-end (YieldsList-from_vec made.items begun.0 counted) c.made.yielded c.made.each-iterator c.made.yielded_by c.next.result c.next.new.self
    c.in-None.is c.next.ensures.steps in
    let all : c.made.yielded ≡ made.items = sym (map-id c.made.yielded) ∙ ended.0 in
    ap blocks_in c.new-2.ensures ∙ c.made.invariant.blocks ∙ ap blocks_each all
