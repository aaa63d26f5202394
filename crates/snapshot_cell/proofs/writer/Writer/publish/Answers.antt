use Rattle.std.proofs.Common.{drop, ap, sym, ◌∙◌}
use Rattle.snapshot_cell.proofs.writer.Writer.publish.Goals as goal

pub turn-requires : goal.turn-requires
turn-requires g c =
    let op = c.in_ok-operation.operation in let desk = c.in-Ok.ensures.desk in (
      drop c.args.self.now.inner.behind c.args.self.now.inner.log.items,
      op,
      c.in-Ok.ensures.pending,
      c.in_ok-operation.ensures.1 ∙
          (sym c.args.self.now.same ∙ sym (ap (λ d. d.shown.value.front.seen.book) desk)),
    )
