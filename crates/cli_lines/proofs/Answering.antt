-- Tasks that come to an answer and a text.
use Rattle.std.proofs.Common.{◌≡◌, ℕ, List, ◌++◌, inl, inr, Result, Ok, Err, IfOk, IfErr, OnOk, OnErr, ◌∙◌}
use Rattle.std.proofs.KnownBytes.{Appends-kept}
use Rattle.std.specs.Io.KnownBytes.{Keeps}
use Rattle.cli_lines.specs.Told.{Told, Answers, Begins, IsBrokenOff, IsMore, Prints, PrintsNothing, PrintsPart}
use Rattle.cli_lines.specs.declared.failure.Failure.{Failure}
use Rattle.cli_lines.proofs.Printing.{part_none, part_then, prints_then}
use Rattle.cli_lines.proofs.Silence.{and_more}

-- by the one text that it printed
pub answers_text : {A : Type 0} (Comes : Result A Failure → List ℕ → Type 0) (t u : Told) (r : Result A Failure) (text : List ℕ) → OnOk r (Prints t u text)
    → IfErr r IsBrokenOff → IfOk r (λ a. Comes (Ok a) text) → Answers Comes t u r
answers_text Comes t u (Ok a) text prints lost comes = inr (text, comes, prints)
answers_text Comes t u (Err e) text prints lost comes = inl lost

-- by what another relation says of it
pub answers_by : {A : Type 0} (P Q : Result A Failure → List ℕ → Type 0) (t u : Told) (r : Result A Failure)
    → ((text : List ℕ) → P r text → Q r text) → Answers P t u r → Answers Q t u r
answers_by P Q t u r step (inl lost) = inl lost
answers_by P Q t u r step (inr a) = inr (a.0, step a.0 a.1, a.2)

-- by what its last part comes to, behind a text
pub answers_behind : {A : Type 0} (P Q : Result A Failure → List ℕ → Type 0) (t u v : Told) (r : Result A Failure) (front : List ℕ) → Prints t u front
    → ((text : List ℕ) → P r text → Q r (front ++ text)) → Answers P u v r → Answers Q t v r
answers_behind P Q t u v r front prints step (inl lost) = inl lost
answers_behind P Q t u v r front prints step (inr a) = inr (front ++ a.0, step a.0 a.1, prints_then t u v front a.0 prints a.2)

-- what was printed stays so where it is handed on
pub prints_kept : (t u v : Told) (text : List ℕ) → Prints t u text → IsMore u v → v.failed ≡ u.failed → Keeps u.bytes v.bytes → Prints t v text
prints_kept t u v text before more whole kept =
    record {
      more = and_more t u v before.more more;
      whole = whole ∙ before.whole;
      bytes = Appends-kept t.bytes u.bytes v.bytes text before.bytes kept;
    }

-- ---- tasks that are broken off

pub begins_nothing : {A : Type 0} (Whole : List ℕ → Type 0) (t u : Told) (r : Result A Failure) → PrintsNothing t u → Begins Whole t u r
begins_nothing Whole t u r none = λ broken. inl none

pub begins_err : {A : Type 0} (Whole : List ℕ → Type 0) (t u : Told) (r : Result A Failure) → OnErr r (PrintsNothing t u) → Begins Whole t u r
begins_err Whole t u (Ok a) none = λ broken. absurd broken
begins_err Whole t u (Err e) none = λ broken. inl none

-- by the text of which it printed a beginning
pub begins_part : {A : Type 0} (Whole : List ℕ → Type 0) (t u : Told) (r : Result A Failure) (whole : List ℕ) → Whole whole → OnErr r (PrintsPart t u whole)
    → Begins Whole t u r
begins_part Whole t u (Ok a) whole is part = λ broken. absurd broken
begins_part Whole t u (Err e) whole is part = λ broken. inr (whole, is, part)

-- by what else is so of the text
pub begins_by : {A : Type 0} (P Q : List ℕ → Type 0) (t u : Told) (r : Result A Failure) → ((text : List ℕ) → P text → Q text)
    → Begins P t u r → Begins Q t u r
begins_by P Q t u r step begins = λ broken. elim (begins broken) [
  | inl none ↦ inl none
  | inr part ↦ inr (part.0, step part.0 part.1, part.2)
]

-- by its last part, behind a text
pub begins_behind : {A : Type 0} (P Q : List ℕ → Type 0) (t u v : Told) (r : Result A Failure) (front rest : List ℕ) → Prints t u front → Q (front ++ rest)
    → ((text : List ℕ) → P text → Q (front ++ text)) → Begins P u v r → Begins Q t v r
begins_behind P Q t u v r front rest prints is step begins = λ broken. elim (begins broken) [
  | inl none ↦ inr (front ++ rest, is, part_then t u v front rest prints (part_none u v rest none))
  | inr part ↦ inr (front ++ part.0, step part.0 part.1, part_then t u v front part.0 prints part.2)
]
