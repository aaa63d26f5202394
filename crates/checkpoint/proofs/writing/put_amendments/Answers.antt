use Rattle.std.proofs.Common.{ℕ, ◌++◌, length, sym, ap, ◌∙◌, subst}
use Rattle.std.proofs.lemmas.List.{length-map}
use Rattle.std.proofs.lemmas.List.Folds.{flat_map-map}
use Rattle.std.proofs.lemmas.Result.{on_ok_weaker}
use Rattle.std.specs.Int.{w32, to_be_bytes}
use Rattle.std.specs.declared.alloc.Global.{Global}
use Rattle.std.specs.declared.sync.Arc.{Arc}
use Rattle.fab_types.specs.declared.membership.Membership.{Membership}
use Rattle.checkpoint.specs.Checkpoint.{amendment_bytes}
use Rattle.checkpoint.specs.Hashing.{IsSoFar}
use Rattle.checkpoint.specs.Within.{IsAmendment}
use Rattle.checkpoint.proofs.Texts.{all_made, last_four}
use Rattle.checkpoint.proofs.writing.put_amendments.Goals as goal

pub returns-clause-text : goal.returns-clause-text
returns-clause-text g c =
    let all = c.args.amendments.now in
    let value = λ (a : Arc (ℕ × Membership) Global). a.value in
    let count =
    last_four c.count_of-count.result (length all) c.count_of-count.ensures ∙ ap (to_be_bytes w32) (sym (length-map all value)) in
    let listed = sym (flat_map-map amendment_bytes value all) in
    on_ok_weaker c.put_listed.result (λ put old text so.
    subst (IsSoFar old (g.W.Write.contents c.put_listed.new.out) c.put_listed.new.hashing) (λ i. text ++ (count i ++ listed i)) (put old text so))
    c.put_listed.ensures.text

pub returns-clause-within : goal.returns-clause-within
returns-clause-within g c =
    on_ok_weaker c.put_listed.result
    (λ all. all_made IsAmendment (λ (a : Arc (ℕ × Membership) Global). a.value) c.args.amendments.now all) c.put_listed.ensures.within
