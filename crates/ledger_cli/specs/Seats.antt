-- What `threads` prints of the seats at work.
use Rattle.std.specs.Prelude.{◌≡◌, ◌⊎◌, ◌++◌, ◌==◌, ℕ, List, [], Bool, true, false, Result, Ok, Err, codes, take, if◌then◌else◌}
use Rattle.std.specs.Fmt.{decimal}
use Rattle.std.specs.List.{list_any}
use Rattle.ledger_setting.specs.Limits.{limits_of}
use Rattle.ledger_setting.specs.declared.genesis.Genesis.{Genesis}
use Rattle.seat_threads.specs.Reports.{TellsOfSeats, IsSeatsRefused, task_of}
use Rattle.seat_threads.specs.declared.refusal.SeatsRefusal.{SeatsRefusal}
use Rattle.seat_threads.specs.declared.refusal.SeatsRefusal.TheVariants as seats
use Rattle.seat_threads.specs.declared.running.Report.{Report}
use Rattle.cli_lines.specs.Lines.{audit_text, does_agree}
use Rattle.cli_lines.specs.Sealing.{lacks_seed}
use Rattle.cli_lines.specs.declared.failure.Failure.{Failure}
use Rattle.cli_lines.specs.declared.failure.Failure.TheVariants as failure
use Rattle.ledger_cli.specs.Verdicts.{verdict_answer}

-- how many envelopes the orderer refused, where there are any
abbrev pub missing_text : ℕ → List ℕ
missing_text missing = if missing == 0 then [] else (codes "missing " ++ (decimal missing ++ codes "\n"))

abbrev pub report_text : Report → List ℕ
report_text r =
    ((((codes "endorsed " ++ (decimal r.endorsed ++ codes "\n")) ++ (codes "refused " ++ (decimal r.refused ++ codes "\n"))) ++ missing_text r.missing)
    ++ (codes "blocks " ++ (decimal r.blocks ++ codes "\n"))) ++ audit_text r.audit

-- the report is told, and whether its audit agrees
abbrev pub TellsReport : Report → Result (Unit {0}) Failure → List ℕ → Type 0
TellsReport r answer text = (answer ≡ verdict_answer (Ok (does_agree r.audit))) × (text ≡ report_text r)

abbrev pub seats_failure : SeatsRefusal → Failure
seats_failure seats.Memory = failure.Memory
seats_failure seats.NoPlace = failure.NoPlace
seats_failure seats.NotEntered = failure.NotEntered

-- the first peer's organisation lacks its seed
abbrev pub first_lacks_seed : Genesis → Bool
first_lacks_seed g = list_any (lacks_seed g.rules.value g.signers.value) (take 1 g.peers.items)

-- what the seats of the first peer came to: a report, or why there is none
abbrev pub SeatsCame : Genesis → (chaincode : List ℕ) → (rounds : ℕ) → Result (Unit {0}) Failure → List ℕ → Type 0
SeatsCame g chaincode rounds answer text =
    ((r : Report) × TellsOfSeats (task_of g chaincode rounds) g.seats g.reorder (limits_of g) r × TellsReport r answer text)
    ⊎ ((e : SeatsRefusal) × IsSeatsRefused (task_of g chaincode rounds) g.seats e × (answer ≡ Err (seats_failure e)) × (text ≡ []))

-- `threads`: refused (808) exactly where the first peer's seed is not at hand, else what its seats came to
abbrev pub RunsSeats : Genesis → (chaincode : List ℕ) → (rounds : ℕ) → Result (Unit {0}) Failure → List ℕ → Type 0
RunsSeats g chaincode rounds answer text =
    ((first_lacks_seed g ≡ true) × (answer ≡ Err failure.NoSeed) × (text ≡ []))
    ⊎ ((first_lacks_seed g ≡ false) × SeatsCame g chaincode rounds answer text)
