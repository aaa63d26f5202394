-- What was printed where a run was broken off.
use Rattle.std.proofs.Common.{◌≡◌, ℕ, List, [], ◌++◌, ◌⊎◌, inl, inr, Option, Some, None, IfSome, refl, sym, ◌∙◌, subst, Bool}
use Rattle.std.proofs.lemmas.List.{append-nil}
use Rattle.chaincode_book.specs.Books.{Book}
use Rattle.ledger_model.specs.Chain.{Chain}
use Rattle.cli_lines.specs.Told.{Told, PrintsNothing, PrintsPart}
use Rattle.cli_lines.proofs.Printing.{part_none, part_then, part_whole}
use Rattle.cli_session.specs.Reading.{HasFirst, TakesLines, lines_in}
use Rattle.cli_session.specs.States.{state_text}
use Rattle.cli_session.specs.Stages.{Stage, DoesPrint, first_chain}
use Rattle.cli_session.specs.Running.{AreLines, DoesAll, DoesFirst}
use Rattle.cli_session.specs.Verdicts.{IsVerdict, is_good, verdict_text}
use Rattle.cli_session.specs.declared.verdict.Verdict.{Verdict}
use Rattle.cli_session.specs.Whole.{BeginsFrom, EndsPrinted, IsEnd}
use Rattle.cli_session.proofs.Pieces.{has_first}

-- the lines that were read are done, and no other text was printed
pub does_first : (a b : Option (List ℕ)) (ls : List (List ℕ)) (old end : Stage) (t u v : Told) → TakesLines a b ls → DoesPrint (AreLines ls) old end t u →
    PrintsNothing u v → DoesFirst a old t v
does_first a b ls old end t u v takes does nothing =
    record { lines = ls; end = end; mid = u; first = has_first a b ls takes; does = does; nothing = nothing }

-- a text of which this is so, and a beginning of it that was printed
abbrev pub HasBegun : (List ℕ → Type 0) → (before after : Told) → Type 0
HasBegun Whole t u = (text : List ℕ) × Whole text × PrintsPart t u text

-- some first lines, and nothing behind them
pub first_begun : (book : Book) (held : Option (List ℕ)) (start : Stage) (t v : Told) → DoesFirst held start t v → HasBegun (BeginsFrom book held start) t v
first_begun book held start t v d =
    let front = d.does.1 in (
      front ++ [],
      record {
        lines = d.lines;
        end = d.end;
        told = d.does.0;
        front = front;
        rest = [];
        first = d.first;
        does = d.does.2;
        behind = inl refl;
        whole = refl;
      },
      part_then t d.mid v front [] d.does.3 (part_none d.mid v [] d.nothing),
    )

has_all : (held : Option (List ℕ)) (ls : List (List ℕ)) → IfSome held (λ bytes. ls ≡ lines_in bytes) → HasFirst held ls
has_all None ls all = tt
has_all (Some bytes) ls all = ([], sym (append-nil ls ∙ all))

-- all lines, and the end
from_all : (book : Book) (held : Option (List ℕ)) (start end : Stage) (t u : Told) (d : DoesAll held start end t u) (rest : List ℕ) →
    (rest ≡ []) ⊎ IsEnd book (first_chain end.system) rest → BeginsFrom book held start (d.does.1 ++ rest)
from_all book held start end t u d rest behind =
    record {
      lines = d.lines;
      end = end;
      told = d.does.0;
      front = d.does.1;
      rest = rest;
      first = has_all held d.lines d.all;
      does = d.does.2;
      behind = elim behind [ inl none ↦ inl none | inr is ↦ inr (d.all, is) ];
      whole = refl;
    }

-- all lines, and a beginning of the end
pub end_begun : (book : Book) (held : Option (List ℕ)) (start end : Stage) (t u v : Told) → DoesAll held start end t u →
    PrintsNothing u v ⊎ HasBegun (IsEnd book (first_chain end.system)) u v → HasBegun (BeginsFrom book held start) t v
end_begun book held start end t u v d (inl nothing) =
    (d.does.1 ++ [], from_all book held start end t u d [] (inl refl), part_then t u v d.does.1 [] d.does.3 (part_none u v [] nothing))
end_begun book held start end t u v d (inr b) =
    (d.does.1 ++ b.0, from_all book held start end t u d b.0 (inr b.1), part_then t u v d.does.1 b.0 d.does.3 b.2)

-- all lines, and all of the end
pub all_begun : (book : Book) (held : Option (List ℕ)) (start end : Stage) (good : Bool) (t u v : Told) → DoesAll held start end t u →
    EndsPrinted book (first_chain end.system) good u v → HasBegun (BeginsFrom book held start) t v
all_begun book held start end good t u v d e =
    end_begun book held start end t u v d (inr (e.0, (good, e.1), part_whole u v e.0 e.2))

-- the end of a chain, by what its audit says
pub is_end : (book : Book) (o : Option Chain) (chain : Chain) (verdict : Verdict) → Some chain ≡ o → IsVerdict book chain verdict →
    IsEnd book o (state_text chain ++ verdict_text verdict)
is_end book o chain verdict is says =
    subst (λ (p : Option Chain). IsEnd book p (state_text chain ++ verdict_text verdict)) is (is_good verdict, (verdict, says, refl, refl))
