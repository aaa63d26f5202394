use Rattle.std.proofs.Common.{◌≡◌, ℕ, ◌+◌, Bool, true, false, List, get_or, set, take, replicate, sym, ap, ◌∙◌, arith}
use Rattle.std.proofs.lemmas.List.{take_more, take_all}
use Rattle.reorder.specs.Plan.{all_but}
use Rattle.reorder.proofs.Plans.{without_more}
use Rattle.reorder.proofs.picking.taking_part.Goals as goal

pub loop-i-preserved : goal.loop-i-preserved
loop-i-preserved c =
    let n = c.args.size in
    let gone = c.args.gone.now in
    let at = c.loop-i.i-index in
    let i = get_or gone at 0 in
    let next : all_but (take (at + 1) gone) n ≡ set (all_but (take at gone) n) i false =
    ap (λ (is : List ℕ). all_but is n) (take_more gone at 0 c.loop-i-test.true) ∙ without_more (take at gone) (replicate n true) i
    in
    ap (λ (l : List Bool). set l i false) c.loop-i.invariant ∙ sym next

pub returns : goal.returns
returns c =
    c.loop-i.invariant ∙ ap (λ (is : List ℕ). all_but is c.args.size) (take_all c.loop-i.i-index c.args.gone.now (omega arith))
