-- Texts behind texts.
use Rattle.std.proofs.Common.{◌≡◌, ◌++◌, List, ℕ, Result, Ok, Err, OnOk, is_ok, if◌then◌else◌}

-- what is put behind a text stands there
pub pushed : {A E : Type 0} (r : Result A E) (was now text : List ℕ) → now ≡ (if is_ok r then was ++ text else was) → OnOk r (now ≡ was ++ text)
pushed (Ok x) was now text h = h
pushed (Err e) was now text h = tt
