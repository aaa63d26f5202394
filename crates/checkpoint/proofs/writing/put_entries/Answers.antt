use Rattle.std.proofs.Common.{◌++◌, length, sym, ap, ◌∙◌, subst, arith}
use Rattle.std.proofs.lemmas.List.{length-map}
use Rattle.std.proofs.lemmas.List.Folds.{flat_map-map}
use Rattle.std.proofs.lemmas.Result.{on_ok_weaker}
use Rattle.std.specs.Int.{w64, to_be_bytes}
use Rattle.std.specs.List.{AllByRecursion, flat_map}
use Rattle.std.specs.Map.Iter.{deref_pair}
use Rattle.checkpoint.specs.Checkpoint.{kept_entry_bytes}
use Rattle.checkpoint.specs.Hashing.{IsSoFar}
use Rattle.checkpoint.specs.Within.{IsKeptEntry}
use Rattle.checkpoint.proofs.Texts.{all_made}
use Rattle.checkpoint.proofs.writing.put_entries.Goals as goal

pub returns-clause-text : goal.returns-clause-text
returns-clause-text g c =
    let held = c.in_ok-all.all.items in
    let count =
    c.count_of-count.ensures
    ∙ ap (to_be_bytes w64) (c.len.ensures ∙ c.in_ok-all.all.ok.0 ∙ sym (length-map held (λ e. deref_pair e)) ∙ ap (λ es. length es) c.in_ok-all.ensures) in
    let listed =
    ap (λ es. flat_map (λ e. kept_entry_bytes (deref_pair e)) es) c.deref.ensures.value
    ∙ sym (flat_map-map kept_entry_bytes (λ e. deref_pair e) held) ∙ ap (λ es. flat_map kept_entry_bytes es) c.in_ok-all.ensures in
    on_ok_weaker c.put_listed.result (λ put old text so.
    subst (IsSoFar old (g.W.Write.contents c.put_listed.new.out) c.put_listed.new.hashing) (λ i. text ++ (count i ++ listed i)) (put old text so))
    c.put_listed.ensures.text

pub returns-clause-within : goal.returns-clause-within
returns-clause-within g c =
    let held = c.in_ok-all.all.items in
    let made = c.in_ok-all.ensures in
    let count = length-map held (λ e. deref_pair e) in
    let size = ap (λ es. length es) made in
    let ok = c.in_ok-all.all.ok in
    let small = c.in_ok-all.all.small in
    on_ok_weaker c.put_listed.result (λ all. (
      omega (arith, count, size, ok.0, ok.1, small),
      subst (AllByRecursion IsKeptEntry) made
          (all_made IsKeptEntry (λ e. deref_pair e) held (subst (AllByRecursion (λ e. IsKeptEntry (deref_pair e))) c.deref.ensures.value all)),
    )) c.put_listed.ensures.within
