-- What is said of a chain at the end of a run.
use Rattle.std.specs.Prelude.{◌≡◌, ℕ, Bool, false, List, Some, None}
use Rattle.chaincode_book.specs.Books.{Book}
use Rattle.ledger_model.specs.Chain.{Chain}
use Rattle.simulator.specs.Execution.{exec_of}
use Rattle.fabric_core.specs.Audit.{AuditSays}
use Rattle.cli_lines.specs.Lines.{audit_text, does_agree, missing_text}
use Rattle.cli_lines.specs.Missing.{first_missing}
use Rattle.cli_session.specs.declared.verdict.Verdict.{Verdict}
use Rattle.cli_session.specs.declared.verdict.Verdict.TheVariants.{NotAtHand, Audited}

-- the first block that cannot be run again; else what the audit says
abbrev pub IsVerdict : Book → Chain → Verdict → Type 0
IsVerdict book chain (NotAtHand block) = first_missing book chain ≡ Some block
IsVerdict book chain (Audited audit) = (first_missing book chain ≡ None) × AuditSays (exec_of book) chain audit

abbrev pub verdict_text : Verdict → List ℕ
verdict_text (NotAtHand block) = missing_text block
verdict_text (Audited audit) = audit_text audit

-- whether all transactions agree with their reruns
abbrev pub is_good : Verdict → Bool
is_good (NotAtHand block) = false
is_good (Audited audit) = does_agree audit
