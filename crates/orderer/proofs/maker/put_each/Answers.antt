use Rattle.std.proofs.Common.{◌≡◌, ◌∙◌, List, [], ◌∷◌, ◌++◌, ap, subst, arith}
use Rattle.std.specs.Option.{option_to_list}
use Rattle.std.proofs.lemmas.Result.{err_from_is_err_and}
use Rattle.fab_types.specs.Editions.{last_block}
use Rattle.fab_types.proofs.Editions.{last_block_most}
use Rattle.fab_types.specs.declared.block.Block.{Block}
use Rattle.fab_types.specs.declared.envelope.Envelope.{Envelope}
use Rattle.orderer.specs.Arranged.{arranges_by}
use Rattle.orderer.specs.Blocks.{Adds}
use Rattle.orderer.specs.Making.{tip_of}
use Rattle.orderer.specs.declared.making.Made.{Made}
use Rattle.orderer.proofs.Refusing.{first_refused, second_refused}
use Rattle.orderer.proofs.Batches.{one_added, two_added}
use Rattle.orderer.proofs.maker.put_each.Goals as goal

pub returns-in_err-make_block-in-One-clause-refused : goal.returns-in_err-make_block-in-One-clause-refused
returns-in_err-make_block-in-One-clause-refused c =
    let arranges = arranges_by c.args.reorder in
    let p = err_from_is_err_and c.from_residual.result c.from_residual.ensures.1 in
    rw (p.1, p.2, c.in-One.is)
    (λ chain at. first_refused (last_block c.args.edition) arranges c.in_err-make_block-in-One.field-0.0 chain c.deref.result.now c.in-One.batch.items [] c.deref.ensures.value
    (c.in_err-make_block-in-One.ensures.refused chain at))

pub tip_after-next-requires : goal.tip_after-next-requires
tip_after-next-requires c = omega (arith, c.in_ok-made-in-Two.ensures.number, last_block_most c.args.edition)

pub returns-in_err-made-in-Two-clause-refused : goal.returns-in_err-made-in-Two-clause-refused
returns-in_err-made-in-Two-clause-refused c =
    let arranges = arranges_by c.args.reorder in
    let p = err_from_is_err_and c.from_residual-in_err-made-in-Two.result c.from_residual-in_err-made-in-Two.ensures.1 in
    rw (p.1, p.2, c.in-Two.is)
    (λ chain at. first_refused (last_block c.args.edition) arranges c.in_err-made-in-Two.field-0.0 chain c.deref-in-Two.result.now c.in-Two.first.items
    (c.in-Two.second.items ∷ []) c.deref-in-Two.ensures.value (c.in_err-made-in-Two.ensures.refused chain at))

pub returns-in_err-make_block-in-Two-clause-refused : goal.returns-in_err-make_block-in-Two-clause-refused
returns-in_err-make_block-in-Two-clause-refused c =
    let arranges = arranges_by c.args.reorder in
    let one = c.in_ok-made-in-Two.made in
    let p = err_from_is_err_and c.from_residual-in_err-make_block-in-Two.result c.from_residual-in_err-make_block-in-Two.ensures.1 in
    rw (p.1, p.2, c.in-Two.is)
    (λ chain at. second_refused (last_block c.args.edition) arranges c.in_err-make_block-in-Two.field-0.0 chain (chain ++ option_to_list one.block) c.deref-in-Two.result.now
    c.deref-in-Two-2.result.now c.in-Two.first.items c.in-Two.second.items one.report c.deref-in-Two.ensures.value c.deref-in-Two-2.ensures.value
    (c.in_ok-made-in-Two.ensures.made chain at)
    (c.in_err-make_block-in-Two.ensures.refused (chain ++ option_to_list one.block) (c.tip_after-next.ensures.tip chain at)))

pub returns-in_ok-push-in-One-clause-made : goal.returns-in_ok-push-in-One-clause-made
returns-in_ok-push-in-One-clause-made c =
    let arranges = arranges_by c.args.reorder in
    let one = c.in_ok-make_block-in-One.field-0 in
    let all = c.in_ok-push-in-One.ensures.items ∙ ap (λ (ms : List Made). ms ++ one ∷ []) c.requires.empty in
    let added : (chain : List Block) → c.args.tip ≡ tip_of chain → Adds arranges chain c.in-One.batch.items one.report (chain ++ option_to_list one.block) =
    λ chain at. subst (λ (es : List Envelope). Adds arranges chain es one.report (chain ++ option_to_list one.block)) c.deref.ensures.value
    (c.in_ok-make_block-in-One.ensures.made chain at)
    in
    rw c.in-One.is (λ chain at. one_added arranges chain c.in-One.batch.items one _ all (added chain at))

pub returns-in_ok-push-in-Two-2-clause-made : goal.returns-in_ok-push-in-Two-2-clause-made
returns-in_ok-push-in-Two-2-clause-made c =
    let arranges = arranges_by c.args.reorder in
    let one = c.in_ok-made-in-Two.made in
    let two = c.in_ok-make_block-in-Two.field-0 in
    let first = c.in_ok-push-in-Two.ensures.items ∙ ap (λ (ms : List Made). ms ++ one ∷ []) c.requires.empty in
    let all = c.in_ok-push-in-Two-2.ensures.items ∙ ap (λ (ms : List Made). ms ++ two ∷ []) first in
    let adds : (chain : List Block) → c.args.tip ≡ tip_of chain → Adds arranges chain c.in-Two.first.items one.report (chain ++ option_to_list one.block) =
    λ chain at. subst (λ (es : List Envelope). Adds arranges chain es one.report (chain ++ option_to_list one.block)) c.deref-in-Two.ensures.value
    (c.in_ok-made-in-Two.ensures.made chain at)
    in
    let more : (next : List Block) → c.tip_after-next.result ≡ tip_of next →
    Adds arranges next c.in-Two.second.items two.report (next ++ option_to_list two.block) =
    λ next at. subst (λ (es : List Envelope). Adds arranges next es two.report (next ++ option_to_list two.block)) c.deref-in-Two-2.ensures.value
    (c.in_ok-make_block-in-Two.ensures.made next at)
    in
    rw c.in-Two.is (λ chain at. two_added arranges chain c.in-Two.first.items one _ c.in-Two.second.items two all (adds chain at)
    (more (chain ++ option_to_list one.block) (c.tip_after-next.ensures.tip chain at)))
