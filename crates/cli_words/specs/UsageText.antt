-- The usage of the program and of each command, by the rows of the table of commands.
use Rattle.std.specs.Prelude.{◌==◌, ◌++◌, ◌^◌, ◌-◌, ℕ, Bool, List, [], ◌∷◌, Option, Some, None, codes, length, if◌then◌else◌}
use Rattle.std.specs.Fmt.{format_spec, styled_text}
use Rattle.std.specs.List.{find, flat_map}
use Rattle.std.specs.Str.{bytes_eq}
use Rattle.std.specs.Str.Lines.{lines}
use Rattle.cli_words.specs.Table.{TableRow, table}

-- ---- the first of several items behind one text, each other one behind another

abbrev pub behind : {A : Type 0} → (List ℕ → A → List ℕ) → (first others : List ℕ) → List A → List ℕ
behind text first others [] = []
behind text first others (x ∷ xs) = text first x ++ flat_map (text others) xs

-- ---- the line of a command: its name, its words, and its options, which may be left out

abbrev pub word_text : List ℕ → List ℕ
word_text word = codes " " ++ word

abbrev pub named_option : (name value : List ℕ) → List ℕ
named_option name value =
    if length value == 0 then (codes " [--" ++ (name ++ codes "]")) else (codes " [--" ++ (name ++ (codes " " ++ (value ++ codes "]"))))

abbrev pub option_text : List ℕ × List ℕ → List ℕ
option_text o = named_option o.0 o.1

abbrev pub line_text : (lead : List ℕ) → TableRow → List ℕ
line_text lead row =
    (((lead ++ (codes " ledger " ++ row.name)) ++ flat_map word_text row.words) ++ flat_map option_text row.options) ++ codes "\n"

-- ---- what a command does, in lines: behind its name, and below that

-- at least eight characters, blanks behind the text
abbrev pub to_eight : List ℕ → List ℕ
to_eight = styled_text (format_spec 32 1 0 8 (2 ^ 64 - 1))

abbrev pub does_text : (lead : List ℕ) → List ℕ → List ℕ
does_text lead does = codes "  " ++ (to_eight lead ++ (codes " " ++ (does ++ codes "\n")))

abbrev pub explanation_text : TableRow → List ℕ
explanation_text row = behind does_text row.name [] (lines row.does)

-- ---- the whole: the line of each command, and then what each does

unfoldable pub lines_text : List TableRow → List ℕ
lines_text rows = behind line_text (codes "usage:") (codes "      ") rows

unfoldable pub explanations_text : List TableRow → List ℕ
explanations_text rows = flat_map explanation_text rows

abbrev pub usage_of : List TableRow → List ℕ
usage_of rows = lines_text rows ++ explanations_text rows

-- ---- of one command; of all where none has the name

abbrev pub has_name : List ℕ → TableRow → Bool
has_name name row = bytes_eq row.name name

abbrev pub alone_or : List TableRow → Option TableRow → List TableRow
alone_or rows None = rows
alone_or rows (Some row) = row ∷ []

abbrev pub rows_for : (name : List ℕ) → List TableRow → List TableRow
rows_for name rows = alone_or rows (find (has_name name) rows)

abbrev pub usage_text : (name : List ℕ) → List ℕ
usage_text name = usage_of (rows_for name table)
