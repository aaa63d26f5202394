use Rattle.std.proofs.Common.{◌≡◌, ◌++◌, drop}
use Rattle.ledger_model.specs.Chain.{transactions_from}
use Rattle.persist_map.specs.Pages.{shared}
use Rattle.world_state.specs.Kept.{amendments_of}
use Rattle.kept_state.proofs.amending.push_amendments.Given as goal

abbrev pub invariant-loop-place : goal.invariant-loop-place
invariant-loop-place l =
    shared l.amended.items ++ amendments_of (transactions_from l.number l.place (drop l.place l.envelopes) (drop l.place l.flags))
    ≡ shared l.fn.amended.items ++ amendments_of (transactions_from l.number 0 l.envelopes l.flags)
