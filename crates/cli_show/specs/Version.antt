-- The numbers by which programs are told apart, and what `version` prints.
use Rattle.std.specs.Prelude.{◌≡◌, ℕ, [], ◌∷◌, Bool, true, false, Result, Ok, codes}
use Rattle.serde_json.specs.Data.{Data, number, unsigned, object, member, no_members}
use Rattle.ledger_model.specs.Chain.{Bytes}
use Rattle.ledger_table.specs.Table.{table_json}
use Rattle.cli_lines.specs.declared.failure.Failure.{Failure}
use Rattle.cli_show.specs.Lines.{AreLines}
use Rattle.cli_show.specs.declared.versioning.TheConstants.{PROGRAM, LINES, RULES, STORE}

-- {"lines":2,"program":1,"rules":2,"store":1}
abbrev pub version_json : (program lines rules store : ℕ) → Data
version_json program lines rules store =
    object (member (codes "lines") (number (unsigned lines)) (member (codes "program") (number (unsigned program))
    (member (codes "rules") (number (unsigned rules)) (member (codes "store") (number (unsigned store)) no_members))))

-- the table, or the numbers of this program
abbrev pub told_json : (has_table : Bool) → Data
told_json true = table_json
told_json false = version_json PROGRAM LINES RULES STORE

-- `version`: a line of these
abbrev pub Versions : (has_table : Bool) → Result (Unit {0}) Failure → Bytes → Type 0
Versions has_table answer text = (answer ≡ Ok tt) × AreLines (told_json has_table ∷ []) text
