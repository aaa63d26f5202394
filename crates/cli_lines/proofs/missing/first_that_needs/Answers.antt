use Rattle.std.proofs.Common.{◌≡◌, ◌+◌, true, false, Some, drop, ap, sym, ◌∙◌, arith}
use Rattle.std.specs.List.{find}
use Rattle.world_state.specs.Shared.{blocks_in}
use Rattle.cli_lines.specs.Missing.{block_needs_module}
use Rattle.cli_lines.proofs.Found.{find_behind, find_here}
use Rattle.cli_lines.proofs.SharedBlocks.{block_at}
use Rattle.cli_lines.proofs.missing.first_that_needs.Goals as goal

pub returns-then-block_needs_module : goal.returns-then-block_needs_module
returns-then-block_needs_module c =
    let k = c.loop-committed.committed-index in
    let xs = c.args.blocks.now in
    let x = c.committed-item.result in
    let test = block_needs_module c.args.book.now in
    let at = block_at k xs x (omega (arith, c.loop-committed-test.true)) c.committed-item.is in
    let yes : test x.value ≡ true = ap test (sym c.deref.ensures) ∙ sym c.block_needs_module.ensures ∙ c.if-block_needs_module.true in
    let found = find_here test x.value (drop (k + 1) (blocks_in xs)) yes in
    sym (c.loop-committed.invariant ∙ ap (find test) at ∙ found ∙ ap Some (sym c.deref-then-block_needs_module.ensures))

pub loop-committed-preserved : goal.loop-committed-preserved
loop-committed-preserved c =
    let k = c.loop-committed.committed-index in
    let xs = c.args.blocks.now in
    let x = c.committed-item.result in
    let test = block_needs_module c.args.book.now in
    let at = block_at k xs x (omega (arith, c.loop-committed-test.true)) c.committed-item.is in
    let no : test x.value ≡ false = ap test (sym c.deref.ensures) ∙ sym c.block_needs_module.ensures ∙ c.if-block_needs_module.false in
    c.loop-committed.invariant ∙ ap (find test) at ∙ find_behind test x.value (drop (k + 1) (blocks_in xs)) no
