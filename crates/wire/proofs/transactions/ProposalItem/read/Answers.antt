use Rattle.std.proofs.Common.{◌≡◌, ℕ, List, Some, refl, sym, ◌∙◌}
use Rattle.std.proofs.lemmas.Option.{some_pair_parts}
use Rattle.grammar.specs.Reading.{byte_at}
use Rattle.fab_types.specs.declared.proposal.Amend.{Amend}
use Rattle.fab_types.specs.declared.proposal.Upgrade.{Upgrade}
use Rattle.fab_types.specs.declared.proposal.Proposal.TheVariants as proposal
use Rattle.wire.specs.Reading.{amend_at, proposal_at, upgrade_at}
use Rattle.wire.proofs.transactions.ProposalItem.read.Goals as goal

upgrade_is : (old one two d : List ℕ) (b x : ℕ) (u : Upgrade) → byte_at old ≡ Some (b, d) → byte_at old ≡ Some (x, one) → b ≡ 0 →
    upgrade_at one ≡ Some (u, two) → proposal_at old ≡ Some (proposal.Upgrade u, two)
unfolding proposal_at
upgrade_is old one two d b x u peek byte first behind =
    let same : x ≡ b = sym (some_pair_parts b x d one (sym peek ∙ byte)).0 in
    rw (byte, same ∙ first, behind) refl

amend_is : (old one two d : List ℕ) (b x : ℕ) (a : Amend) → byte_at old ≡ Some (b, d) → byte_at old ≡ Some (x, one) → b ≡ 128 →
    amend_at one ≡ Some (a, two) → proposal_at old ≡ Some (proposal.Amend a, two)
unfolding proposal_at
amend_is old one two d b x a peek byte first behind =
    let same : x ≡ b = sym (some_pair_parts b x d one (sym peek ∙ byte)).0 in
    rw (byte, same ∙ first, behind) refl

pub returns-in_ok-read-in-0-clause-read : goal.returns-in_ok-read-in-0-clause-read
returns-in_ok-read-in-0-clause-read c =
    upgrade_is _ _ _ _ _ _ _ c.in_ok-peek.ensures.read c.in_ok-byte-in-0.ensures.read c.in-0.is c.in_ok-read-in-0.ensures.read

pub returns-in_ok-read-in-0-clause-lasts : goal.returns-in_ok-read-in-0-clause-lasts
returns-in_ok-read-in-0-clause-lasts c = λ more.
    upgrade_is _ _ _ _ _ _ _ (c.in_ok-peek.ensures.lasts more) (c.in_ok-byte-in-0.ensures.lasts more) c.in-0.is
    (c.in_ok-read-in-0.ensures.lasts more)

pub returns-in_ok-read-in-128-clause-read : goal.returns-in_ok-read-in-128-clause-read
returns-in_ok-read-in-128-clause-read c =
    amend_is _ _ _ _ _ _ _ c.in_ok-peek.ensures.read c.in_ok-byte-in-128.ensures.read c.in-128.is c.in_ok-read-in-128.ensures.read

pub returns-in_ok-read-in-128-clause-lasts : goal.returns-in_ok-read-in-128-clause-lasts
returns-in_ok-read-in-128-clause-lasts c = λ more.
    amend_is _ _ _ _ _ _ _ (c.in_ok-peek.ensures.lasts more) (c.in_ok-byte-in-128.ensures.lasts more) c.in-128.is
    (c.in_ok-read-in-128.ensures.lasts more)
