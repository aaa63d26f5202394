-- The two parts of a text.
use Rattle.std.specs.Prelude.{ℕ, List}
use Rattle.std.specs.List.{before_first, after_first}
use Rattle.peer_answers.specs.Words.{is_space}

-- the first word: all, where there is no space
abbrev pub first_word : List ℕ → List ℕ
first_word text = before_first is_space text

-- what stands behind it and the space
abbrev pub behind_first : List ℕ → List ℕ
behind_first text = after_first is_space text
