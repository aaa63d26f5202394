-- What is found of a store's blocks, and what `audit` and `show` print of it.
use Rattle.std.specs.Prelude.{◌≡◌, ◌++◌, ℕ, Bool, true, false, Option, Some, None, [], ◌∷◌, Result, Ok, Err, codes, length}
use Rattle.std.specs.Fmt.{decimal}
use Rattle.block_store.specs.declared.end.End.{End}
use Rattle.block_store.specs.declared.end.End.TheVariants.{Clean, Torn, Damaged, DeviceFailed}
use Rattle.committer.specs.Numbers.{refusal_number}
use Rattle.simulator.specs.Execution.{exec_of}
use Rattle.kept_state.specs.Keeping.{chain_of}
use Rattle.ledger_setting.specs.Rule.{table_of}
use Rattle.ledger_setting.specs.declared.genesis.Genesis.{Genesis}
use Rattle.fabric_core.specs.Audit.{AuditSays}
use Rattle.ledger_setting.specs.declared.verdict.Audit.TheVariants.{Agrees, Differs}
use Rattle.ledger_model.specs.Chain.{Bytes}
use Rattle.store_replay.specs.Replay.{ReplaysFrom}
use Rattle.store_replay.specs.declared.replaying.Replayed.{Replayed}
use Rattle.json_chain.specs.Endings.{ending_json}
use Rattle.json_chain.specs.declared.ending.Finding.{Finding}
use Rattle.json_chain.specs.declared.ending.Finding.TheVariants.{FlagsDiffer, Unfit, NotAtHand, Audited}
use Rattle.cli_lines.specs.Lines.{audit_text, missing_text}
use Rattle.cli_lines.specs.Missing.{first_missing}
use Rattle.cli_lines.specs.Texts.{line, refused}
use Rattle.cli_lines.specs.declared.failure.Failure.{Failure}
use Rattle.cli_lines.specs.declared.failure.Failure.TheVariants.{Printed}
use Rattle.cli_show.specs.Answers.{end_fault}
use Rattle.cli_show.specs.Lines.{AreFirstLines, AreLines, HasLines, chain_json}

-- the audit is made only of a chain with the table's flags whose store has no block that does not fit, and where each module that it
-- upgrades to is at hand
abbrev pub Finds : Genesis → Replayed → Finding → Type 0
Finds g r (FlagsDiffer block) = r.differs ≡ Some block
Finds g r (Unfit cause) = (r.differs ≡ None) × (r.refused ≡ Some cause)
Finds g r (NotAtHand block) = (r.differs ≡ None) × (r.refused ≡ None) × (first_missing g.book.value (chain_of r.chain) ≡ Some block)
Finds g r (Audited audit) =
    (r.differs ≡ None) × (r.refused ≡ None) × (first_missing g.book.value (chain_of r.chain) ≡ None) × AuditSays (exec_of g.book.value) (chain_of r.chain) audit

-- all transactions agree, and the store ends with its last record
abbrev pub is_good : Finding → End → Bool
is_good (Audited (Agrees rerun)) Clean = true
is_good (Audited (Agrees rerun)) Torn = false
is_good (Audited (Agrees rerun)) (Damaged n) = false
is_good (Audited (Agrees rerun)) DeviceFailed = false
is_good (Audited (Differs block tx)) end = false
is_good (FlagsDiffer block) end = false
is_good (Unfit cause) end = false
is_good (NotAtHand block) end = false

-- the line of what is found, and whether nothing is wrong
abbrev pub EndsBy : Genesis → Replayed → (before after : Option Bytes) → Bool → Type 0
EndsBy g r before after good =
    (finding : Finding) × Finds g r finding × (good ≡ is_good finding r.end)
    × HasLines (ending_json finding (length (chain_of r.chain)) r.end ∷ []) before after

-- how a task ends that told what it found: by a failure, or by whether nothing is wrong
abbrev pub ends_with : Bool → Option Failure → Result (Unit {0}) Failure
ends_with good (Some failure) = Err failure
ends_with true None = Ok tt
ends_with false None = Err Printed

abbrev pub finding_text : Finding → Bytes
finding_text (FlagsDiffer block) = codes "flags differ " ++ (decimal block ++ codes "\n")
finding_text (Unfit cause) = line (refused (refusal_number cause))
finding_text (NotAtHand block) = missing_text block
finding_text (Audited audit) = audit_text audit

abbrev pub found_text : ℕ → Finding → Bytes
found_text blocks finding = (codes "blocks " ++ (decimal blocks ++ codes "\n")) ++ finding_text finding

-- what `audit` says of a replay: how many blocks the store has, what is found of them, and how the store ends
abbrev pub AuditsReplay : Genesis → Replayed → Result (Unit {0}) Failure → Bytes → Type 0
AuditsReplay g r answer text =
    (finding : Finding) × Finds g r finding × (answer ≡ ends_with (is_good finding r.end) (end_fault r.end)) × (text ≡ found_text r.blocks finding)

-- `audit`: of the replay of the store in a file
abbrev pub Audits : Genesis → Option Bytes → Result (Unit {0}) Failure → Bytes → Type 0
Audits g held answer text = (r : Replayed) × ReplaysFrom (table_of g.rules.value) held r × AuditsReplay g r answer text

-- what `show` says of a replay: the chain, and what is found of it
abbrev pub ShowsReplay : Genesis → (from to : ℕ) → Replayed → Result (Unit {0}) Failure → Bytes → Type 0
ShowsReplay g from to r answer text =
    (finding : Finding) × Finds g r finding × (answer ≡ ends_with (is_good finding r.end) None)
    × AreLines (chain_json g from to (chain_of r.chain) ++ ending_json finding (length (chain_of r.chain)) r.end ∷ []) text

-- `show`: of the replay of the store in a file
abbrev pub Shows : Genesis → (from to : ℕ) → Option Bytes → Result (Unit {0}) Failure → Bytes → Type 0
Shows g from to held answer text = (r : Replayed) × ReplaysFrom (table_of g.rules.value) held r × ShowsReplay g from to r answer text

-- what `show` begins: some first ones of the chain's lines
abbrev pub ShowBegins : Genesis → (from to : ℕ) → Option Bytes → Bytes → Type 0
ShowBegins g from to held text =
    (r : Replayed) × ReplaysFrom (table_of g.rules.value) held r × AreFirstLines (chain_json g from to (chain_of r.chain)) text
