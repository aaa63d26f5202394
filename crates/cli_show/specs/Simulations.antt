-- What `sim` prints.
use Rattle.std.specs.Prelude.{◌≡◌, [], Option, Some, None, Result, Ok, Err}
use Rattle.fab_types.specs.Payloads.{Payload}
use Rattle.fab_types.specs.declared.proposal.Proposal.{Proposal}
use Rattle.ledger_model.specs.Chain.{Bytes, Chain}
use Rattle.simulator.specs.Answers.{payload_or_refusal}
use Rattle.simulator.specs.Execution.{exec_of}
use Rattle.simulator.specs.declared.refusal.SimRefusal.{SimRefusal}
use Rattle.kept_state.specs.Keeping.{chain_of}
use Rattle.ledger_setting.specs.Rule.{table_of}
use Rattle.ledger_setting.specs.declared.genesis.Genesis.{Genesis}
use Rattle.store_replay.specs.Replay.{ReplaysFrom}
use Rattle.store_replay.specs.declared.replaying.Replayed.{Replayed}
use Rattle.cli_lines.specs.Lines.{payload_text}
use Rattle.cli_lines.specs.Texts.{simulation_failure}
use Rattle.cli_lines.specs.declared.failure.Failure.{Failure}
use Rattle.cli_show.specs.Answers.{UnlessFault, block_fault}

-- a call that is simulated on the state after a chain: its transaction, or why there is none
abbrev pub SimulatesOn : Genesis → Proposal → Chain → Result (Unit {0}) Failure → Bytes → Type 0
SimulatesOn g p chain (Ok done) text =
    (payload : Payload) × (payload_or_refusal (exec_of g.book.value) p chain ≡ Ok payload) × (text ≡ payload_text payload)
SimulatesOn g p chain (Err failure) text =
    (refusal : SimRefusal) × (payload_or_refusal (exec_of g.book.value) p chain ≡ Err refusal) × (failure ≡ simulation_failure refusal) × (text ≡ [])

-- `sim`: on the state after the store in a file, of which it is known what it holds or not, unless a block of it does not fit or it
-- does not end with a record; on the empty state where no store is given
abbrev pub Simulates : Genesis → Proposal → Option (Option Bytes) → Result (Unit {0}) Failure → Bytes → Type 0
Simulates g p None answer text = SimulatesOn g p [] answer text
Simulates g p (Some held) answer text =
    (r : Replayed) × ReplaysFrom (table_of g.rules.value) held r × UnlessFault (block_fault r.refused r.end) (SimulatesOn g p (chain_of r.chain)) answer text
