-- What `marks` prints of a store.
use Rattle.std.specs.Prelude.{◌≡◌, List, Option, Result, Ok, map}
use Rattle.std.specs.List.{flat_map}
use Rattle.std.specs.Io.KnownBytes.{Appends}
use Rattle.ledger_model.specs.Chain.{Bytes, Chain}
use Rattle.log_orderer.specs.Marks.{marks_of}
use Rattle.kept_state.specs.Keeping.{chain_of}
use Rattle.ledger_setting.specs.Rule.{table_of}
use Rattle.ledger_setting.specs.declared.genesis.Genesis.{Genesis}
use Rattle.store_replay.specs.Replay.{ReplaysFrom}
use Rattle.store_replay.specs.declared.replaying.Replayed.{Replayed}
use Rattle.cli_lines.specs.Texts.{line}
use Rattle.cli_lines.specs.declared.failure.Failure.{Failure}
use Rattle.cli_show.specs.Answers.{UnlessFault, fault_of}

-- behind what was held, where that is known, these lines stand now
abbrev pub HasTexts : List Bytes → (before after : Option Bytes) → Type 0
HasTexts texts before after = Appends before after (flat_map line texts)

-- the marks of the blocks of a chain
abbrev pub chain_marks : Chain → List Bytes
chain_marks chain = marks_of (map (λ c. c.block) chain)

abbrev pub TellsMarks : Chain → Result (Unit {0}) Failure → Bytes → Type 0
TellsMarks chain answer text = (answer ≡ Ok tt) × (text ≡ flat_map line (chain_marks chain))

-- `marks`: of the chain of the store in a file, unless something is wrong with it
abbrev pub Marks : Genesis → (held : Option Bytes) → Result (Unit {0}) Failure → Bytes → Type 0
Marks g held answer text = (r : Replayed) × ReplaysFrom (table_of g.rules.value) held r × UnlessFault (fault_of r) (TellsMarks (chain_of r.chain)) answer text
