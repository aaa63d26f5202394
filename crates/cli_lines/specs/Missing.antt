-- Which modules a rerun of a chain needs.
use Rattle.std.specs.Prelude.{ℕ, Bool, false, not, ◌&&◌, List, Option, option_map}
use Rattle.std.specs.List.{find, list_any, zip}
use Rattle.fab_types.specs.declared.envelope.Envelope.{Envelope}
use Rattle.fab_types.specs.declared.proposal.Proposal.{Proposal}
use Rattle.fab_types.specs.declared.proposal.Proposal.TheVariants as proposal
use Rattle.ledger_model.specs.Chain.{Chain, Committed, Flag, is_valid}
use Rattle.chaincode_book.specs.Books.{Book}
use Rattle.simulator.specs.Execution.{is_at_hand}

-- an upgrade to a definition whose module is not at hand
abbrev pub needs_module : Book → Proposal → Bool
needs_module book (proposal.Call c) = false
needs_module book (proposal.Upgrade u) = not (is_at_hand book u.definition)
needs_module book (proposal.Amend a) = false

-- of these transactions with their flags, a VALID one is such an upgrade
abbrev pub need_module : Book → List Envelope → List Flag → Bool
need_module book es fs = list_any (λ (t : Envelope × Flag). is_valid t.1 && needs_module book t.0.payload.proposal) (zip es fs)

abbrev pub block_needs_module : Book → Committed → Bool
block_needs_module book c = need_module book c.block.envelopes c.flags

-- the first block that cannot be rerun, since the module that it upgrades to is not at hand
abbrev pub first_missing : Book → Chain → Option ℕ
first_missing book chain = option_map (λ c. c.block.header.number) (find (block_needs_module book) chain)
