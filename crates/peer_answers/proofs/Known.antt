-- Answers that are known, and lists side by side.
use Rattle.std.proofs.Common.{◌≡◌, ◌<◌, ℕ, List, [], ◌∷◌, Some, Option, IfOk, IfSome, Result, Ok, Err, length, slice_index_or, suc, subst, arith}
use Rattle.std.specs.List.{AllZip}
use Rattle.std.specs.Result.{result_ok}
use Rattle.std.specs.Str.Lossy.{utf8_lossy}
use Rattle.ledger_model.specs.Chain.{Bytes, Chain}
use Rattle.peer_answers.specs.Answering.{Peer, Says}
use Rattle.peer_answers.specs.Lines.{Asks, Said, said_in}
use Rattle.peer_answers.specs.Known.{IsAnswerTo}
use Rattle.peer_answers.specs.Spoken.{answer_text}
use Rattle.peer_answers.specs.declared.answer.Answer.{Answer}
use Rattle.peer_answers.specs.declared.line.Request.{Request}

-- what is said to a line that asks for something is the answer to it
pub answer_is : {E : Type 0} (p : Peer) (chain : Chain) (l : Bytes) (request : Request) (tag words : Bytes) (r : Result Answer E) →
    Some (Asks request tag words) ≡ said_in (utf8_lossy l) → IfOk r (λ a. Says p chain request words (answer_text a)) →
    IfSome (result_ok r) (λ a. IsAnswerTo p chain (said_in (utf8_lossy l)) a)
answer_is p chain l request tag words (Ok a) says said = subst (λ (s : Option Said). IsAnswerTo p chain s a) says said
answer_is p chain l request tag words (Err e) says said = tt

-- lists of which each place is related
pub zip_each : {A B : Type 0} (R : A → B → Type 0) (xs : List A) (ys : List B) → length ys ≡ length xs →
    ((i : ℕ) (d : A) (e : B) → i < length xs → R (slice_index_or xs i d) (slice_index_or ys i e)) → AllZip R xs ys
zip_each R [] [] long each = tt
zip_each R [] (y ∷ ys) long each = absurd (omega (arith, long))
zip_each R (x ∷ xs) [] long each = absurd (omega (arith, long))
zip_each R (x ∷ xs) (y ∷ ys) long each =
    (each 0 x y (omega arith), zip_each R xs ys (omega (arith, long)) (λ i d e h. each (suc i) d e (omega (arith, h))))
