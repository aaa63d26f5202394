-- What a task comes to.
use Rattle.std.proofs.Common.{◌≡◌, ℕ, List, [], Result, Ok, Err, OnOk, inr, refl}
use Rattle.cli_lines.specs.Told.{Answers, IsMore, Prints, Tells, Told}
use Rattle.cli_lines.specs.declared.failure.Failure.{Failure}
use Rattle.cli_lines.proofs.Printing.{prints_none}
use Rattle.cli_show.specs.Lines.{AreLines, HasLines}
use Rattle.std.specs.Io.KnownBytes.{Appends}
use Rattle.serde_json.specs.Data.{Data}

-- it comes to an answer with which nothing is printed
pub untold : {A : Type 0} (Comes : Result A Failure → List ℕ → Type 0) (t : Told) (answer : Result A Failure) → Comes answer [] → Answers Comes t t answer
untold Comes t answer comes = inr ([], comes, prints_none t)

-- lines that a writer holds now were printed
pub lines_printed : (ds : List Data) (t u : Told) → IsMore t u → u.failed ≡ t.failed → HasLines ds t.bytes u.bytes →
    (text : List ℕ) × AreLines ds text × Prints t u text
lines_printed ds t u more whole h = (_, (h.0, h.1, refl), record { more = more; whole = whole; bytes = h.2 })

-- a text that a writer holds now was printed
pub line_printed : {A : Type 0} (r : Result A Failure) (t u : Told) (text : List ℕ) → Tells t u r → OnOk r (Appends t.bytes u.bytes text) →
    OnOk r (Prints t u text)
line_printed (Ok x) t u text tells h = record { more = tells.0; whole = tells.1; bytes = h }
line_printed (Err f) t u text tells h = tt
