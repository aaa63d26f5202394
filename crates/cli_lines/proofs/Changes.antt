-- What changes only some files.
use Rattle.std.proofs.Common.{◌≡◌, ◌∙◌, ℕ, Bool, List, [], ◌∷◌, ap}
use Rattle.cli_lines.specs.Places.{ChangesOnly, FilesHeld}

-- files that stay as they were
pub changes_none : (known : Bool) (names : List (List ℕ)) (before after : FilesHeld) → after ≡ before → ChangesOnly known names before after
changes_none known names before after same = λ is name other. ap (λ (h : FilesHeld). h name) same

-- one change behind another
pub changes_then : (known : Bool) (names : List (List ℕ)) (a b c : FilesHeld) → ChangesOnly known names a b → ChangesOnly known names b c →
    ChangesOnly known names a c
changes_then known names a b c first next = λ is name other. next is name other ∙ first is name other

-- files that stay so behind a change
pub changes_kept : (known : Bool) (names : List (List ℕ)) (a b c : FilesHeld) → c ≡ b → ChangesOnly known names a b → ChangesOnly known names a c
changes_kept known names a b c same change = changes_then known names a b c change (changes_none known names b c same)

-- a change behind files that stay so
pub changes_from : (known : Bool) (names : List (List ℕ)) (a b c : FilesHeld) → b ≡ a → ChangesOnly known names b c → ChangesOnly known names a c
changes_from known names a b c same change = changes_then known names a b c (changes_none known names a b same) change

-- a change of one of two files
pub changes_first : (known : Bool) (first next : List ℕ) (a b : FilesHeld) → ChangesOnly known (first ∷ []) a b → ChangesOnly known (first ∷ next ∷ []) a b
changes_first known first next a b change = λ is name other. change is name (other.0, tt)

pub changes_next : (known : Bool) (first next : List ℕ) (a b : FilesHeld) → ChangesOnly known (next ∷ []) a b → ChangesOnly known (first ∷ next ∷ []) a b
changes_next known first next a b change = λ is name other. change is name other.1
