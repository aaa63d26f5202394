-- Lines, one after another.
use Rattle.std.proofs.Common.{◌≡◌, ℕ, suc, ◌+◌, List, [], ◌∷◌, ◌++◌, ◌⊎◌, inl, inr, Option, length, refl, sym, ap, subst, ◌∙◌, append_assoc, length-append, arith}
use Rattle.std.proofs.lemmas.List.{append-nil}
use Rattle.json_events.specs.declared.action.Action.{Action}
use Rattle.json_events.specs.declared.action.Action.TheVariants as action
use Rattle.json_events.specs.declared.bindings.Bindings.{Bindings}
use Rattle.fabric_core.specs.declared.event.Event.{Event}
use Rattle.fabric_core.specs.declared.event.Reply.{Reply}
use Rattle.cli_lines.specs.Told.{Told, IsBrokenOff, Prints}
use Rattle.cli_lines.specs.declared.failure.Failure.{Failure}
use Rattle.cli_lines.specs.declared.failure.Failure.TheVariants.{BadLine}
use Rattle.cli_lines.proofs.Printing.{prints_none, prints_then}
use Rattle.cli_session.specs.Stages.{Stage, IsStepOf, DoesPrint}
use Rattle.cli_session.specs.Reading.{HasFirst, TakesLines}
use Rattle.cli_session.specs.Running.{Does, IsLine, AreLines, IsBadLine, MeetsBadLine, StopsAt}
use Rattle.cli_session.proofs.Pieces.{first_more, has_first}
use Rattle.cli_session.proofs.Steps.{Runs, runs_none, runs_one, runs_joined}

-- no line
pub no_lines : (s : Stage) (t : Told) → DoesPrint (AreLines []) s s t t
no_lines s t = ([], [], (refl, refl, refl), prints_none t)

-- one line more
lines_then : (ls : List (List ℕ)) (l : List ℕ) (old mid new : Stage) (told more : List (Event × Reply)) (text a : List ℕ) →
    AreLines ls old told text mid → IsLine l mid more a new → AreLines (ls ++ l ∷ []) old (told ++ more) (text ++ a) new
lines_then [] l old mid new told more text a first next =
    let here : IsLine l old more a new = subst (λ (s : Stage). IsLine l s more a new) first.2 next in (
      more,
      [],
      a,
      [],
      new,
      here,
      (refl, refl, refl),
      ap (λ (xs : List (Event × Reply)). xs ++ more) first.0 ∙ sym (append-nil more),
      ap (λ (xs : List ℕ). xs ++ a) first.1 ∙ sym (append-nil a),
    )
lines_then (k ∷ ls) l old mid new told more text a first next = (
  first.0,
  first.1 ++ more,
  first.2,
  first.3 ++ a,
  first.4,
  first.5,
  lines_then ls l first.4 mid new first.1 more first.3 a first.6 next,
  ap (λ (xs : List (Event × Reply)). xs ++ more) first.7 ∙ append_assoc first.0 first.1 more,
  ap (λ (xs : List ℕ). xs ++ a) first.8 ∙ append_assoc first.2 first.3 a,
)

pub line_more : (ls : List (List ℕ)) (l : List ℕ) (old mid new : Stage) (t u v : Told) → DoesPrint (AreLines ls) old mid t u →
    DoesPrint (IsLine l) mid new u v → DoesPrint (AreLines (ls ++ l ∷ [])) old new t v
line_more ls l old mid new t u v first next = (
  first.0 ++ next.0,
  first.1 ++ next.1,
  lines_then ls l old mid new first.0 next.0 first.1 next.1 first.2 next.2,
  prints_then t u v first.1 next.1 first.3 next.3,
)

-- behind the lines that are done comes a bad one
pub meets : (a b : Option (List ℕ)) (ls : List (List ℕ)) (l : List ℕ) (old mid : Stage) (t u v : Told) (number : ℕ) (f : Failure) →
    number ≡ suc (length ls) → TakesLines a b ls → DoesPrint (AreLines ls) old mid t u → HasFirst b (l ∷ []) → f ≡ BadLine number →
    IsBadLine l mid.names → v ≡ u → MeetsBadLine a old t v f
meets a b ls l old mid t u v number f counted takes does first is bad same =
    record {
      lines = ls;
      next = l;
      told = does.0;
      text = does.1;
      end = mid;
      first = first_more a b ls l takes first;
      does = does.2;
      bad = bad;
      prints = subst (λ (w : Told). Prints t w does.1) (sym same) does.3;
      is = is ∙ ap BadLine counted;
    }

-- the same, where the next line stops the task
pub meets_or_lost : (a b c : Option (List ℕ)) (ls : List (List ℕ)) (l : List ℕ) (old mid : Stage) (t u v : Told) (number : ℕ) (f : Failure) →
    number ≡ suc (length ls) → TakesLines a b ls → DoesPrint (AreLines ls) old mid t u → TakesLines b c (l ∷ []) →
    StopsAt number (IsBadLine l mid.names) u v f → IsBrokenOff f ⊎ MeetsBadLine a old t v f
meets_or_lost a b c ls l old mid t u v number f counted takes does next (inl lost) = inl lost
meets_or_lost a b c ls l old mid t u v number f counted takes does next (inr s) =
    inr (meets a b ls l old mid t u v number f counted takes does (has_first b c (l ∷ []) next) s.0 s.1 s.2)

pub one_line_more : (number : ℕ) (ls : List (List ℕ)) (l : List ℕ) → number ≡ suc (length ls) → number + 1 ≡ suc (length (ls ++ l ∷ []))
one_line_more number ls l counted = let all = length-append ls (l ∷ []) in omega (arith, all, counted)

-- ---- their steps

step_runs : (event : Event) (said : Reply → List ℕ) (named : Reply → Bindings → Bindings → Type 0) (old new : Stage)
    (told : List (Event × Reply)) (text : List ℕ) → IsStepOf event said named old told text new → Runs old.system told new.system
step_runs event said named old new told text s =
    subst (λ (ts : List (Event × Reply)). Runs old.system ts new.system) (sym s.is) (runs_one old.system event s.answer new.system s.step)

none_runs : (old new : Stage) (told : List (Event × Reply)) → told ≡ [] → new ≡ old → Runs old.system told new.system
none_runs old new told none same =
    subst (λ (ts : List (Event × Reply)). Runs old.system ts new.system) (sym none)
    (subst (λ (s : Stage). Runs old.system [] s.system) (sym same) (runs_none old.system))

does_run : (a : Action) (old new : Stage) (told : List (Event × Reply)) (text : List ℕ) → Does a old told text new → Runs old.system told new.system
does_run (action.Begin peer seat p) old new told text d = step_runs _ _ _ old new told text d
does_run (action.Finish peer seat name) old new told text d = step_runs _ _ _ old new told text d
does_run (action.SubmitEndorsed names) old new told text d = step_runs _ _ _ old new told text d.step
does_run (action.SubmitBytes bytes) old new told text (inl d) = step_runs _ _ _ old new told text d.step
does_run (action.SubmitBytes bytes) old new told text (inr d) = none_runs old new told d.none d.same
does_run action.Take old new told text d = step_runs _ _ _ old new told text d
does_run action.Tick old new told text d = step_runs _ _ _ old new told text d
does_run (action.Commit peer) old new told text d = step_runs _ _ _ old new told text d

pub lines_run : (ls : List (List ℕ)) (old new : Stage) (told : List (Event × Reply)) (text : List ℕ) → AreLines ls old told text new →
    Runs old.system told new.system
lines_run [] old new told text d = none_runs old new told d.0 d.2
lines_run (l ∷ ls) old new told text d =
    subst (λ (ts : List (Event × Reply)). Runs old.system ts new.system) (sym d.7)
    (runs_joined old.system d.4.system new.system d.0 d.1 (does_run d.5.0 old d.4 d.0 d.2 d.5.2) (lines_run ls d.4 new d.1 d.3 d.6))
