use Rattle.std.proofs.Common.{◌∙◌, sym, ap, ap₂, subst, arith}
use Rattle.std.proofs.lemmas.Result.{IfOk-weaker}
use Rattle.std.specs.List.{AllByRecursion}
use Rattle.std.specs.Option.{option_or}
use Rattle.persist_map.proofs.Ordered.{ascend_nil}
use Rattle.id_runs.specs.Entries.{id_cmp, block_at, Ascends}
use Rattle.id_runs.specs.Shared.{joined, runs_of}
use Rattle.id_runs.proofs.Shares.{all_dropped, all_taken, found_parts}
use Rattle.id_runs.proofs.making.+merge_all.Goals as goal

pub merge_all-requires : goal.merge_all-requires
merge_all-requires t c =
    let rs = c.args.runs.now in (
      omega (arith, c.split_at.ensures.front_len, c.if-runs-gt1.true, c.decreases),
      subst (λ l. AllByRecursion Ascends (runs_of l)) (sym c.split_at.ensures.front) (all_taken rs _ c.requires),
    )

pub merge_all-requires-then-runs-gt1 : goal.merge_all-requires-then-runs-gt1
merge_all-requires-then-runs-gt1 t c =
    let rs = c.args.runs.now in (
      omega (arith, c.split_at.ensures.back_len, c.if-runs-gt1.true, c.decreases),
      subst (λ l. AllByRecursion Ascends (runs_of l)) (sym c.split_at.ensures.back) (all_dropped rs _ c.requires),
    )

pub returns-then-runs-gt1-clause-found : goal.returns-then-runs-gt1-clause-found
returns-then-runs-gt1-clause-found t c =
    let rs = c.args.runs.now in
    IfOk-weaker c.merge_two.result _ _ (λ run made q.
    made q
    ∙ ap₂ option_or
    (ap (λ es. block_at es q) c.deref.ensures.value ∙ c.in_ok-older.ensures.found q ∙ ap (λ l. block_at (joined (runs_of l)) q) c.split_at.ensures.front)
    (ap (λ es. block_at es q) c.deref-then-runs-gt1.ensures.value ∙ c.in_ok-newer.ensures.found q
    ∙ ap (λ l. block_at (joined (runs_of l)) q) c.split_at.ensures.back)
    ∙ sym (found_parts rs _ q)) c.merge_two.ensures.found

pub returns-in-None-clause-ascends : goal.returns-in-None-clause-ascends
returns-in-None-clause-ascends t c = subst Ascends (sym c.new.ensures.items) (ascend_nil id_cmp)
