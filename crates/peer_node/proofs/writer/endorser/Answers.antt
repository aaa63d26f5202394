use Rattle.std.proofs.Common.{◌∙◌}
use Rattle.endorsement_policy.specs.Endorsed.{seal_of}
use Rattle.peer_node.proofs.writer.endorser.Goals as goal

pub returns : goal.returns
returns c =
    let rules = c.in_ok-rules.ensures in
    let signers = c.in_ok-signers.ensures in
    let org = c.in_ok-org.ensures.cases in
    c.new.ensures ∙ (λ i. record { book = c.in_ok-book.ensures i; listed = rules i; seal = λ m. seal_of (rules i) (signers i) m (org i) })
