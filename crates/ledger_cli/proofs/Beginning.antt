-- What tasks come to by what is known of files.
use Rattle.std.proofs.Common.{◌≡◌, ℕ, List, Bool, Option, ap, sym, ◌∙◌}
use Rattle.cli_lines.specs.Places.{FilesHeld}
use Rattle.ledger_cli.specs.Tasks.{known_files}

-- where the files hold behind a step what they held before it
pub same_files : (writes : Bool) (a b after : FilesHeld) (i j : Option (List ℕ)) → b ≡ a → j ≡ i → known_files writes b after j ≡ known_files writes a after i
same_files writes a b after i j files input =
    ap (λ (h : FilesHeld). known_files writes h after j) files ∙ ap (λ (o : Option (List ℕ)). known_files writes a after o) input

-- the same of what stands behind it
pub same_after : (writes : Bool) (a : FilesHeld) (b c : FilesHeld) (i : Option (List ℕ)) → c ≡ b → known_files writes a b i ≡ known_files writes a c i
same_after writes a b c i files = ap (λ (h : FilesHeld). known_files writes a h i) (sym files)
