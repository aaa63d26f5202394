-- The table of commands.
use Rattle.std.specs.Prelude.{ℕ, List, map}
use Rattle.std.specs.Borrow.{Bor}
use Rattle.cli_words.specs.declared.table.Form.{Form}
use Rattle.cli_words.specs.declared.table.TheConstants.{COMMANDS}

-- a command: its name, its words, its options with the names of their values, and what it does
pub record TableRow : Type 0 where
  pub name : List ℕ
  pub words : List (List ℕ)
  pub options : List (List ℕ × List ℕ)
  pub does : List ℕ

abbrev pub texts : List (Bor (List ℕ)) → List (List ℕ)
texts = map (λ text. text.now)

abbrev pub pairs : List (Bor (List ℕ) × Bor (List ℕ)) → List (List ℕ × List ℕ)
pairs = map (λ pair. (pair.0.now, pair.1.now))

abbrev pub row_of : Form → TableRow
row_of form = record { name = form.name.now; words = texts form.words.now; options = pairs form.options.now; does = form.does.now }

abbrev pub row_of_tuple : Bor (List ℕ) × Bor (List (Bor (List ℕ))) × Bor (List (Bor (List ℕ) × Bor (List ℕ))) × Bor (List ℕ) → TableRow
row_of_tuple r = record { name = r.0.now; words = texts r.1.now; options = pairs r.2.now; does = r.3.now }

-- all commands; `row_of_tuple` does not fit the rows of a constant, whose texts are of a type of their own
unfoldable pub table : List TableRow
table =
    map
    (λ r. record {
      name = r.0.now;
      words = map (λ word. word.now) r.1.now;
      options = map (λ pair. (pair.0.now, pair.1.now)) r.2.now;
      does = r.3.now;
    })
    COMMANDS
