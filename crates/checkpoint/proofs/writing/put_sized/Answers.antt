use Rattle.std.proofs.Common.{◌∷◌, [], ◌++◌, get_or, take, sym, subst, arith}
use Rattle.std.specs.List.{AllByRecursion, flat_map}
use Rattle.std.proofs.lemmas.List.{take_more}
use Rattle.persist_map.proofs.Ordered.{all_append}
use Rattle.checkpoint.specs.Checkpoint.{sized_hash_bytes}
use Rattle.checkpoint.specs.Hashing.{IsSoFar}
use Rattle.checkpoint.specs.Within.{IsHash}
use Rattle.checkpoint.proofs.Spans.{all_sized, one_sized}
use Rattle.checkpoint.proofs.writing.put_sized.Goals as goal

pub loop-place-preserved : goal.loop-place-preserved
loop-place-preserved g c =
    let hashes = c.args.hashes.now in
    let before = c.args.before in
    let i = c.loop-place.place in
    let inside = c.loop-place-test.true in
    let hash = get_or hashes i [] in
    record {
      text = λ chain are fits small old text so.
          subst (IsSoFar old (g.W.Write.contents c.put_item.new.out) c.put_item.new.self)
          (one_sized chain hashes before i c.size_at-size.result [] text fits inside
          (c.size_at-size.ensures chain are (omega (arith, fits, inside)) small))
          (c.in_ok-put_item.ensures.text old _ (c.loop-place.invariant.text chain are fits small old text so));
      within = subst (AllByRecursion IsHash) (sym (take_more hashes i [] inside))
          (all_append IsHash (take i hashes) (hash ∷ []) c.loop-place.invariant.within (c.in_ok-put_item.ensures.within, tt));
    }

pub returns-clause-text : goal.returns-clause-text
returns-clause-text g c = λ chain are fits small old text so.
    subst (λ l. IsSoFar old (g.W.Write.contents c.loop-place.out) c.loop-place.hashing (text ++ flat_map sized_hash_bytes l))
    (all_sized chain c.args.hashes.now c.args.before c.loop-place.place c.loop-place-test.false) (c.loop-place.invariant.text chain are fits small old text so)
