-- What is known of blocks that were seen one after another.
use Rattle.std.specs.Prelude.{◌≡◌, ℕ, Bool, cond, Option, Some, None}
use Rattle.ledger_model.specs.Chain.{Chain}
use Rattle.chaincode_book.specs.Books.{Book}
use Rattle.host_api.specs.Plain.{plain_of}
use Rattle.simulator.specs.Execution.{exec_of}
use Rattle.fabric_core.specs.Audit.{IsAudited}
use Rattle.fabric_core.specs.declared.auditing.Auditing.{Auditing}
use Rattle.cli_lines.specs.Missing.{first_missing}

-- of this chain: how far its serial run is, and the first block that upgrades to a module that is not at hand
abbrev pub IsRerun : Book → Auditing → (missing : Option ℕ) → Chain → Type 0
IsRerun book audit missing chain =
    IsAudited (exec_of book) (plain_of audit.run.state) audit.run.reruns audit.found chain × (missing ≡ first_missing book chain)

-- the number of a block that was found, or else that of the next one, where it needs a module
abbrev pub next_missing : Option ℕ → (needs : Bool) → (number : ℕ) → Option ℕ
next_missing (Some found) needs number = Some found
next_missing None needs number = cond needs (Some number) None
