use Rattle.std.proofs.Common.{None, Option, ap, sym, ◌∙◌}
use Rattle.fab_types.specs.declared.membership.Membership.{Membership}
use Rattle.json_chain.specs.Standing.{amended_by}
use Rattle.cli_show.proofs.ShownLines.{behind_more}
use Rattle.cli_show.proofs.chain.ShownChain.show.Goals as goal

pub returns-clause-shown : goal.returns-clause-shown
returns-clause-shown c = λ chain shown is.
    let b = c.args.committed.now in
    let was = c.as_ref-membership.ensures.value ∙ shown.1 in (
      c.in_ok-push_shown.ensures chain (shown.0, was) is,
      c.in_ok-self.ensures ∙ ap (λ (m : Option Membership). amended_by m b.block.envelopes b.flags) was ∙ sym (behind_more None chain b),
    )
