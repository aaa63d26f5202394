use Rattle.cli_show.proofs.Behind.{on_ok}
use Rattle.cli_show.proofs.Seen.{missing_more}
use Rattle.cli_show.proofs.sinks.Rerun.see.Goals as goal

pub take-requires : goal.take-requires
take-requires c = (c.requires.0, c.requires.1.0, c.requires.2)

pub returns-clause-seen : goal.returns-clause-seen
returns-clause-seen c = λ chain was next.
    on_ok c.take.result _ _
    (λ h. (
      h,
      missing_more c.args.self.now.book.now chain c.args.committed.now c.args.self.now.missing c.next_missing-self.result was.1
          c.next_missing-self.ensures,
    ))
    (c.take.ensures chain was.0 next)
