use Rattle.std.proofs.Common.{◌≡◌, ◌<◌, ◌+◌, ◌++◌, ◌∷◌, [], ◌∙◌, ℕ, Some, length, slice_get, refl, ap, arith}
use Rattle.std.specs.Arc.{arc_value}
use Rattle.std.proofs.lemmas.Option.{slice_get_read}
use Rattle.ledger_setting.specs.Rule.{table_of}
use Rattle.fabric_core.proofs.Blocks.{fits_next, no_longer}
use Rattle.peer_node.specs.Writers.{published_chain, rules_of, next_by}
use Rattle.seat_threads.proofs.Chaining.{one_more}
use Rattle.seat_threads.proofs.committing.commit_rest.Goals as goal

pub commit-requires-after_bounds : goal.commit-requires-after_bounds
commit-requires-after_bounds g c κs within =
    let inv = c.loop-index.invariant in
    let blocks = c.args.blocks.now in
    let w = c.loop-index.writer in
    let b = c.index-blocks-index.result in
    let inside : c.loop-index.index < length blocks = omega (arith, c.loop-index-test.true) in
    let at : slice_get blocks c.loop-index.index ≡ Some b = slice_get_read blocks (length blocks) c.loop-index.index b refl inside c.index-blocks-index.is in
    let there : slice_get blocks (length (published_chain w)) ≡ Some b = ap (slice_get blocks) inv.2 ∙ at in
    fits_next (table_of (arc_value (rules_of c.args.writer.now))) blocks (published_chain w) b inv.1 c.requires.linked c.requires.count there

pub loop-index-preserved : goal.loop-index-preserved
loop-index-preserved g c =
    let inv = c.loop-index.invariant in
    let blocks = c.args.blocks.now in
    let w = c.loop-index.writer in
    let b = c.index-blocks-index.result in
    let inside : c.loop-index.index < length blocks = omega (arith, c.loop-index-test.true) in
    let at : slice_get blocks c.loop-index.index ≡ Some b = slice_get_read blocks (length blocks) c.loop-index.index b refl inside c.index-blocks-index.is in
    let there : slice_get blocks (length (published_chain w)) ≡ Some b = ap (slice_get blocks) inv.2 ∙ at in
    let made = c.in_ok-commit.ensures.committed ∙ ap (λ rules. published_chain w ++ next_by (arc_value rules) (published_chain w) b ∷ []) inv.0 in
    let more = one_more (arc_value (rules_of c.args.writer.now)) blocks (published_chain w) (published_chain c.commit.new.writer) b inv.1 there made in
    (c.commit.ensures.rules ∙ inv.0, more.0, more.1 ∙ ap (λ (n : ℕ). n + 1) inv.2, c.commit.ensures.peer ∙ inv.3)

pub returns-clause-all : goal.returns-clause-all
returns-clause-all g c =
    let inv = c.loop-index.invariant in
    let most = no_longer (table_of (arc_value (rules_of c.args.writer.now))) c.args.blocks.now (published_chain c.loop-index.writer) inv.1 in
    omega (arith, most, inv.2, c.loop-index-test.false)
