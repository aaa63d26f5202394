-- Lines that are done one after another.
use Rattle.std.proofs.Common.{◌≡◌, ◌≤◌, inl, inr, ℕ, ◌+◌, List, [], ◌∷◌, ◌++◌, length, Option, Bool, true, false, Result, Ok, Err}
use Rattle.std.proofs.Common.{OnOk, OnErr, IfErr, refl, sym, ap, subst, ◌∙◌, append_assoc, arith}
use Rattle.std.proofs.lemmas.List.{append-nil, length-append}
use Rattle.std.specs.Io.KnownBytes.{Keeps}
use Rattle.cli_lines.specs.Texts.{line}
use Rattle.cli_lines.specs.Told.{Told, Answers, IsBrokenOff, IsMore, Prints, PrintsNothing, PrintsPart, Says, Tells}
use Rattle.cli_lines.specs.declared.failure.Failure.{Failure}
use Rattle.cli_lines.specs.declared.failure.Failure.TheVariants as failure
use Rattle.cli_lines.proofs.Answering.{prints_kept}
use Rattle.cli_lines.proofs.Printing.{part_first, part_none, part_then, part_whole, prints_none, prints_then}
use Rattle.cli_lines.proofs.Silence.{and_more}
use Rattle.cli_peer.proofs.Lines.{lines_none, lines_more, all_lines, first_lines}
use Rattle.cli_peer.specs.Input.{Input, IsNext, TakesLines}
use Rattle.cli_peer.specs.Filters.{AreDone, BeginsSo, ComesTo, DoesOrEnds, Filters, FiltersTo, IsEndedBy, PrintsSo}

-- ---- a task by its parts

-- done, by the one text that it printed
pub done_by : {A : Type 0} (Does Ends : List ℕ → Type 0) (t u : Told) (r : Result A Failure) (text : List ℕ) → OnOk r (Prints t u text)
    → IfErr r IsBrokenOff → Does text → Answers (DoesOrEnds Does Ends) t u r
done_by Does Ends t u (Ok a) text prints lost does = inr (text, does, prints)
done_by Does Ends t u (Err e) text prints lost does = inl lost

-- ended, by the line that says why
pub ended_by : (A : Type 0) (Does Ends : List ℕ → Type 0) (t u : Told) (e : Failure) (said : List ℕ) → IsEndedBy said t u e → Ends (line said)
    → Answers (DoesOrEnds {A = A} Does Ends) t u (Err e)
ended_by A Does Ends t u e said (inl lost) ends = inl lost.0
ended_by A Does Ends t u e said (inr by) ends = inr (line said, (by.0, ends), by.1)

-- what was told before is told
says_then : (t u v : Told) (e : Failure) → t.printed ≤ u.printed → Says u v e → Says t v e
says_then t u v failure.Usage more says = tt
says_then t u v failure.Memory more says = tt
says_then t u v failure.File more says = tt
says_then t u v (failure.Module refusal) more says = tt
says_then t u v (failure.Genesis refusal) more says = tt
says_then t u v failure.KeyFile more says = tt
says_then t u v failure.NoSeed more says = tt
says_then t u v (failure.Simulation refusal) more says = tt
says_then t u v failure.NoPlace more says = tt
says_then t u v failure.NotEntered more says = tt
says_then t u v (failure.Commit refusal) more says = tt
says_then t u v (failure.Flags block) more says = tt
says_then t u v (failure.Store end) more says = tt
says_then t u v (failure.BadLine number) more says = tt
says_then t u v failure.Printed more says = omega (arith, more, says)
says_then t u v failure.Output more says = says

pub tells_then : (t u v : Told) (e : Failure) → IsMore t u → IsMore u v × Says u v e → IsMore t v × Says t v e
tells_then t u v e first next = (and_more t u v first next.0, says_then t u v e first.prints next.1)

pub tells_behind : {A : Type 0} (t u v : Told) (r : Result A Failure) → IsMore t u × (u.failed ≡ t.failed) → Tells u v r → Tells t v r
tells_behind t u v (Ok a) first next = (and_more t u v first.0 next.0, next.1 ∙ first.1)
tells_behind t u v (Err e) first next = tells_then t u v e first.0 next

-- done, by some text that it printed
pub done_so : {A : Type 0} (Does Ends : List ℕ → Type 0) (t u : Told) (r : Result A Failure) → OnOk r (PrintsSo Does t u) → IfErr r IsBrokenOff
    → Answers (DoesOrEnds Does Ends) t u r
done_so Does Ends t u (Ok a) so lost = inr so
done_so Does Ends t u (Err e) so lost = inl lost

-- behind nothing, and more than that is so of the text
pub so_behind : {A : Type 0} (P Q : List ℕ → Type 0) (t u v : Told) (r : Result A Failure) → Prints t u [] → ((text : List ℕ) → P text → Q text)
    → OnOk r (PrintsSo P u v) → OnOk r (PrintsSo Q t v)
so_behind P Q t u v (Ok a) none more so = (so.0, more so.0 so.1, prints_then t u v [] so.0 none so.2)
so_behind P Q t u v (Err e) none more so = tt

-- done, by the one text that it printed, of which this is so
pub prints_so : {A : Type 0} (Is : List ℕ → Type 0) (t u : Told) (r : Result A Failure) (text : List ℕ) → OnOk r (Prints t u text) → Is text
    → OnOk r (PrintsSo Is t u)
prints_so Is t u (Ok a) text prints is = (text, is, prints)
prints_so Is t u (Err e) text prints is = tt

-- a text, and one behind it
pub told_behind : (P : List ℕ → Type 0) (a : List ℕ) (t u v : Told) → PrintsSo P t u → Prints u v a →
    PrintsSo (λ text. (front : List ℕ) × P front × (text ≡ front ++ a)) t v
told_behind P a t u v first next = (first.0 ++ a, (first.0, first.1, refl), prints_then t u v first.0 a first.2 next)

-- where it is handed on, and more than that is so of the text
pub handed_so : {A : Type 0} (P Q : List ℕ → Type 0) (t u v : Told) (r : Result A Failure) → ((text : List ℕ) → P text → Q text) → PrintsSo P t u
    → Tells u v r → Keeps u.bytes v.bytes → OnOk r (PrintsSo Q t v)
handed_so P Q t u v (Ok a) more so tells kept = (so.0, more so.0 so.1, prints_kept t u v so.0 so.2 tells.0 tells.1 kept)
handed_so P Q t u v (Err e) more so tells kept = tt

-- ---- a task whose text is begun

-- a text, and nothing behind it
pub part_ended : (t u v : Told) (text : List ℕ) → Prints t u text → PrintsNothing u v → PrintsPart t v text
part_ended t u v text prints none = record { text = text; rest = []; mid = u; parts = sym (append-nil text); prints = prints; end = none }

-- by the line that says why it ends
pub start_ended : (Is : List ℕ → Type 0) (t u : Told) (e : Failure) (said : List ℕ) → IsEndedBy said t u e → Is (line said) → BeginsSo Is t u
start_ended Is t u e said (inl lost) is = inl lost.1
start_ended Is t u e said (inr by) is = inr (line said, is, part_whole t u (line said) by.1)

-- by its one text, or not
pub start_text : {A : Type 0} (Is : List ℕ → Type 0) (t u : Told) (r : Result A Failure) (text : List ℕ) → OnOk r (Prints t u text)
    → OnErr r (PrintsNothing t u) → Is text → BeginsSo Is t u
start_text Is t u (Ok a) text prints none is = inr (text, is, part_whole t u text prints)
start_text Is t u (Err e) text prints none is = inl none

-- by some text of which more than that is so, or not
pub start_so : {A : Type 0} (P Q : List ℕ → Type 0) (t u : Told) (r : Result A Failure) → ((text : List ℕ) → P text → Q text) → OnOk r (PrintsSo P t u)
    → OnErr r (PrintsNothing t u) → BeginsSo Q t u
start_so P Q t u (Ok a) more so none = inr (so.0, more so.0 so.1, part_whole t u so.0 so.2)
start_so P Q t u (Err e) more so none = inl none

-- of which more than that is so
pub start_by : (P Q : List ℕ → Type 0) (t u : Told) → ((text : List ℕ) → P text → Q text) → BeginsSo P t u → BeginsSo Q t u
start_by P Q t u more (inl none) = inl none
start_by P Q t u more (inr part) = inr (part.0, more part.0 part.1, part.2)

-- and which is handed on, or not
pub start_handed : {A : Type 0} (P Q : List ℕ → Type 0) (t u v : Told) (r : Result A Failure) → ((text : List ℕ) → P text → Q text) → PrintsSo P t u
    → Tells u v r → Keeps u.bytes v.bytes → OnErr r (PrintsNothing u v) → BeginsSo Q t v
start_handed P Q t u v (Ok a) more so tells kept none =
    inr (so.0, more so.0 so.1, part_whole t v so.0 (prints_kept t u v so.0 so.2 tells.0 tells.1 kept))
start_handed P Q t u v (Err e) more so tells kept none = inr (so.0, more so.0 so.1, part_ended t u v so.0 so.2 none)

-- behind a text
abbrev pub Behind : (front : List ℕ) → (List ℕ → Type 0) → List ℕ → Type 0
Behind front Rest text = (rest : List ℕ) × Rest rest × (text ≡ front ++ rest)

pub start_front : (front : List ℕ) (Rest : List ℕ → Type 0) (t u : Told) → PrintsPart t u front → Rest [] → BeginsSo (Behind front Rest) t u
start_front front Rest t u part none = inr (front ++ [], ([], none, refl), part_first t u front [] part)

pub start_behind : (front : List ℕ) (Rest : List ℕ → Type 0) (t u v : Told) → Prints t u front → Rest [] → BeginsSo Rest u v
    → BeginsSo (Behind front Rest) t v
start_behind front Rest t u v prints none (inl nothing) = inr (front ++ [], ([], none, refl), part_then t u v front [] prints (part_none u v [] nothing))
start_behind front Rest t u v prints none (inr part) =
    inr (front ++ part.0, (part.0, part.1, refl), part_then t u v front part.0 prints part.2)

-- ---- lines

pub next_by : (before after : Input) (there b : Bool) → IsNext there before after → there ≡ b → IsNext b before after
next_by before after there b next is = subst (λ (k : Bool). IsNext k before after) is next

module _ {S : Type 0} (Does : ℕ → S → List ℕ → List ℕ → S → Type 0) where
  -- one line more
  pub done_more : (ls : List (List ℕ)) (number : ℕ) (old mid new : S) (l text more : List ℕ) → AreDone Does number old ls text mid
      → Does (number + length ls) mid l more new → AreDone Does number old (ls ++ l ∷ []) (text ++ more) new
  done_more [] number old mid new l text more first next =
      let at : number + 0 ≡ number = omega arith in
      let here : Does number old l more new =
      subst (λ (s : S). Does number s l more new) first.1 (subst (λ (n : ℕ). Does n mid l more new) at next) in
      (more, [], new, here, (refl, refl), ap (λ (t : List ℕ). t ++ more) first.0 ∙ sym (append-nil more))
  done_more (k ∷ ls) number old mid new l text more first next =
      let at : number + length (k ∷ ls) ≡ (number + 1) + length ls = omega arith in (
        first.0,
        first.1 ++ more,
        first.2,
        first.3,
        done_more ls (number + 1) first.2 mid new l first.1 more first.4 (subst (λ (n : ℕ). Does n mid l more new) at next),
        ap (λ (t : List ℕ). t ++ more) first.5 ∙ append_assoc first.0 first.1 more,
      )

  -- lines of an input were done, before that of this number, and what was printed
  pub record HasDone (input left : Option (List ℕ)) (old : S) (number : ℕ) (new : S) (t u : Told) : Type 0 where
    pub lines : List (List ℕ)
    pub text : List ℕ
    pub taken : TakesLines input left lines
    pub next : number ≡ length lines + 1
    pub done : AreDone Does 1 old lines text new
    pub prints : Prints t u text

  pub none_done : (input : Option (List ℕ)) (s : S) (t : Told) → HasDone input input s 1 s t t
  none_done input s t =
      record { lines = []; text = []; taken = lines_none input; next = refl; done = (refl, refl); prints = prints_none t }

  -- what was printed was handed on
  pub done_kept : (input left : Option (List ℕ)) (old : S) (number : ℕ) (new : S) (t u v : Told) → HasDone input left old number new t u
      → ((text : List ℕ) → Prints t u text → Prints t v text) → HasDone input left old number new t v
  done_kept input left old number new t u v h kept =
      record { lines = h.lines; text = h.text; taken = h.taken; next = h.next; done = h.done; prints = kept h.text h.prints }

  module _ (Ends : ℕ → S → List ℕ → List ℕ → Type 0) where
    -- one line more was done: the next one, of which these bytes are lent
    pub one_done : {A : Type 0} (input : Option (List ℕ)) (before after : Input) (there : Bool) (lent : List ℕ) (old mid new : S) (number : ℕ) (t u v : Told)
        (a : A) → HasDone input before.left old number mid t u → IsNext there before after → there ≡ true → lent ≡ after.last
        → Answers (DoesOrEnds (λ text. Does number mid lent text new) (Ends number mid lent)) u v (Ok a) → HasDone input after.left old (number + 1) new t v
    one_done input before after there lent old mid new number t u v a h next is same (inl lost) = absurd lost
    one_done input before after there lent old mid new number t u v a h next is same (inr c) =
        let l = after.last in
        let at : number ≡ 1 + length h.lines = omega (arith, h.next) in
        let count : number + 1 ≡ length (h.lines ++ l ∷ []) + 1 = omega (arith, h.next, length-append h.lines (l ∷ [])) in
        let does = subst (λ (k : List ℕ). Does number mid k c.0 new) same c.1 in
        record {
          lines = h.lines ++ l ∷ [];
          text = h.text ++ c.0;
          taken = lines_more h.lines input before after h.taken (next_by before after there true next is);
          next = count;
          done = done_more h.lines 1 old mid new l h.text c.0 h.done (subst (λ (n : ℕ). Does n mid l c.0 new) at does);
          prints = prints_then t u v h.text c.0 h.prints c.2;
        }

    -- all lines were done
    pub all_done : {A : Type 0} (input : Option (List ℕ)) (before after : Input) (there : Bool) (old new : S) (number : ℕ) (t u : Told) (a : A)
        → HasDone input before.left old number new t u → IsNext there before after → there ≡ false → Answers (Filters Does Ends old input) t u (Ok a)
    all_done input before after there old new number t u a h next is =
        inr (h.text, (h.lines, (all_lines input before.left h.lines h.taken (next_by before after there false next is), (new, h.done))), h.prints)

    -- a line ended it
    last_done : (A : Type 0) (input : Option (List ℕ)) (before after : Input) (old mid new : S) (number : ℕ) (t u v : Told) (e : Failure)
        → HasDone input before.left old number mid t u → IsNext true before after
        → Answers (DoesOrEnds {A = A} (λ text. Does number mid after.last text new) (Ends number mid after.last)) u v (Err e)
        → Answers (Filters {A = A} Does Ends old input) t v (Err e)
    last_done A input before after old mid new number t u v e h is (inl lost) = inl lost
    last_done A input before after old mid new number t u v e h is (inr c) =
        let l = after.last in
        let end : Ends (length h.lines + 1) mid l c.0 = subst (λ (n : ℕ). Ends n mid l c.0) h.next c.1.1 in
        inr (
          h.text ++ c.0,
          (
            h.lines ++ l ∷ [],
            (
              c.1.0,
              (
                first_lines input after.left (h.lines ++ l ∷ []) (lines_more h.lines input before after h.taken is),
                (mid, (h.lines, l, h.text, c.0, refl, h.done, end, refl)),
              ),
            ),
          ),
          prints_then t u v h.text c.0 h.prints c.2,
        )

    -- nothing is printed yet
    pub none_begun : (old : S) (input : Option (List ℕ)) → FiltersTo Does Ends old input [] old
    none_begun old input = ([], first_lines input input [] (lines_none input), inl (refl, refl))

    -- the next line ended it, or it was broken off there
    pub line_ended : (A : Type 0) (input : Option (List ℕ)) (before after : Input) (there : Bool) (lent : List ℕ) (old mid new : S) (number : ℕ) (t u v : Told)
        (e : Failure) → HasDone input before.left old number mid t u → IsNext there before after → there ≡ true → lent ≡ after.last → Tells {A = A} u v (Err e)
        → Answers {A = A} (DoesOrEnds (λ text. Does number mid lent text new) (Ends number mid lent)) u v (Err e)
        → Tells {A = A} t v (Err e) × Answers {A = A} (Filters Does Ends old input) t v (Err e)
    line_ended A input before after there lent old mid new number t u v e h next is same tells does =
        let here = next_by before after there true next is in (
          tells_then t u v e h.prints.more tells,
          last_done A input before after old mid new number t u v e h here
              (subst (λ (l : List ℕ). Answers {A = A} (DoesOrEnds (λ text. Does number mid l text new) (Ends number mid l)) u v (Err e)) same does),
        )

    -- ---- lines of which something was told, and what is so of what the filter has behind them

    module _ (Is : S → Type 0) where
      abbrev pub LeadSo : S → Option (List ℕ) → List ℕ → Type 0
      LeadSo old input text = (last : S) × FiltersTo Does Ends old input text last × Is last

      -- nothing was told of the next one
      pub lines_told : (input left : Option (List ℕ)) (old : S) (number : ℕ) (new : S) (t u v : Told) → HasDone input left old number new t u
          → PrintsPart u v [] → Is new → BeginsSo (LeadSo old input) t v
      lines_told input left old number new t u v h part is = inr (
        h.text,
        (new, (h.lines, first_lines input left h.lines h.taken, inl h.done), is),
        subst (λ (s : List ℕ). PrintsPart t v s) (append-nil h.text) (part_then t u v h.text [] h.prints part),
      )

      -- of the next one a beginning
      begun_line : (input : Option (List ℕ)) (before after : Input) (old mid new : S) (number : ℕ) (t u v : Told) (whole : List ℕ)
          → HasDone input before.left old number mid t u → IsNext true before after → Is mid
          → ComesTo (λ text. Does number mid after.last text new × Is new) (Ends number mid after.last) whole → PrintsPart u v whole
          → BeginsSo (LeadSo old input) t v
      begun_line input before after old mid new number t u v whole h is first (inl does) part =
          let l = after.last in
          let at : number ≡ 1 + length h.lines = omega (arith, h.next) in
          let here = subst (λ (n : ℕ). Does n mid l whole new) at does.0 in
          inr (
            h.text ++ whole,
            (
              new,
              (
                h.lines ++ l ∷ [],
                first_lines input after.left (h.lines ++ l ∷ []) (lines_more h.lines input before after h.taken is),
                inl (done_more h.lines 1 old mid new l h.text whole h.done here),
              ),
              does.1,
            ),
            part_then t u v h.text whole h.prints part,
          )
      begun_line input before after old mid new number t u v whole h is first (inr ends) part =
          let l = after.last in
          let end : Ends (length h.lines + 1) mid l whole = subst (λ (n : ℕ). Ends n mid l whole) h.next ends in
          inr (
            h.text ++ whole,
            (
              mid,
              (
                h.lines ++ l ∷ [],
                first_lines input after.left (h.lines ++ l ∷ []) (lines_more h.lines input before after h.taken is),
                inr (h.lines, l, h.text, whole, refl, h.done, end, refl),
              ),
              first,
            ),
            part_then t u v h.text whole h.prints part,
          )

      next_told : (input : Option (List ℕ)) (before after : Input) (old mid new : S) (number : ℕ) (t u v : Told)
          → HasDone input before.left old number mid t u → IsNext true before after → Is mid
          → BeginsSo (ComesTo (λ text. Does number mid after.last text new × Is new) (Ends number mid after.last)) u v → BeginsSo (LeadSo old input) t v
      next_told input before after old mid new number t u v h is first (inl none) =
          lines_told input before.left old number mid t u v h (part_none u v [] none) first
      next_told input before after old mid new number t u v h is first (inr part) =
          begun_line input before after old mid new number t u v part.0 h is first part.1 part.2

      -- of the next one, of which these bytes are lent, what is told so far
      pub line_told : (input : Option (List ℕ)) (before after : Input) (there : Bool) (lent : List ℕ) (old mid new : S) (number : ℕ) (t u v : Told)
          → HasDone input before.left old number mid t u → IsNext there before after → there ≡ true → lent ≡ after.last → Is mid
          → BeginsSo (ComesTo (λ text. Does number mid lent text new × Is new) (Ends number mid lent)) u v → BeginsSo (LeadSo old input) t v
      line_told input before after there lent old mid new number t u v h next is same first told =
          next_told input before after old mid new number t u v h (next_by before after there true next is) first
          (subst (λ (l : List ℕ). BeginsSo (ComesTo (λ text. Does number mid l text new × Is new) (Ends number mid l)) u v) same told)
