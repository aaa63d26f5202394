-- Rounds of lines.
use Rattle.std.proofs.Common.{◌≡◌, ◌<◌, ◌==◌, ℕ, List, [], ◌∷◌, ◌++◌, Option, Some, None, IfSome, option_map, true, false, length, take, drop, refl, sym, ap, ◌∙◌, subst, append_assoc, arith}
use Rattle.std.proofs.KnownBytes.{Consumes-nil, Consumes-trans}
use Rattle.std.proofs.lemmas.Bool.{eqb-false}
use Rattle.std.proofs.lemmas.List.{append-nil, take-append-drop}
use Rattle.std.proofs.lemmas.List.Concat.{flat_map-append}
use Rattle.std.proofs.lemmas.List.Elements.{All-append, All-cons, All-head, All-nil, All-push, All-tail}
use Rattle.std.specs.Global.{Vec}
use Rattle.std.specs.Io.KnownBytes.{Consumes}
use Rattle.std.specs.List.{All, AllZip, flat_map}
use Rattle.std.specs.Option.{option_flatten, option_to_list}
use Rattle.std.specs.Str.Lossy.{utf8_lossy}
use Rattle.ledger_model.specs.Chain.{Bytes, Chain}
use Rattle.cli_lines.specs.Texts.{line}
use Rattle.peer_answers.specs.Answering.{Peer, Says}
use Rattle.cli_peer.specs.Input.{HasNoEnd, Input, IsNext, IsTaken}
use Rattle.peer_answers.specs.Lines.{Asks, Said, said_in}
use Rattle.cli_peer.specs.Rounds.{AreKnown, IsFilled, IsRound, ReadsBehind, ReadsOn, left_behind}
use Rattle.peer_answers.specs.Known.{IsAnswerTo, IsKnown}
use Rattle.peer_answers.specs.Spoken.{answer_text}
use Rattle.peer_answers.specs.declared.answer.Answer.{Answer}
use Rattle.peer_answers.specs.declared.line.Request.{Request}
use Rattle.cli_peer.specs.declared.round.Round.{Round}

abbrev line_of : Vec ℕ → List ℕ
line_of l = line l.items

abbrev IsWhole : Vec ℕ → Type 0
IsWhole l = HasNoEnd l.items

-- ---- lines that are read

pub reads_none : (ls : List (Vec ℕ)) (a : Option Bytes) → ReadsOn ls a ls a
reads_none ls a = ([], sym (append-nil ls), All-nil IsWhole, Consumes-nil a)

pub reads_first : (first : Vec ℕ) (ls : List (Vec ℕ)) (a b : Option Bytes) → ls ≡ first ∷ [] → b ≡ a → ReadsOn (first ∷ []) a ls b
reads_first first ls a b is same =
    subst (λ (c : Option Bytes). ReadsOn (first ∷ []) a ls c) (sym same)
    (subst (λ (xs : List (Vec ℕ)). ReadsOn (first ∷ []) a xs a) (sym is) (reads_none (first ∷ []) a))

-- one line more
pub reads_more : (old now new : List (Vec ℕ)) (a b c : Option Bytes) (l : Vec ℕ) → ReadsOn old a now b → HasNoEnd l.items → Consumes b c (line l.items) →
    new ≡ now ++ l ∷ [] → ReadsOn old a new c
reads_more old now new a b c l on whole lost is =
    let more = on.0 in (
      more ++ l ∷ [],
      is ∙ ap (λ (ls : List (Vec ℕ)). ls ++ l ∷ []) on.1 ∙ append_assoc old more (l ∷ []),
      All-push IsWhole more l on.2 whole,
      subst (Consumes a c) (sym (flat_map-append line_of more (l ∷ []) ∙ ap (λ (bs : Bytes). flat_map line_of more ++ bs) (append-nil (line_of l))))
          (Consumes-trans a b c (flat_map line_of more) (line_of l) on.3 lost),
    )

-- whether a line was taken
pub taken_none : (taken : Option (Vec ℕ)) (old new : Input) → IsTaken (option_map (λ v. v.items) taken) old new → taken ≡ None → new ≡ old
taken_none None old new is none = is.1
taken_none (Some l) old new is none = absurd cc

pub taken_some : (taken : Option (Vec ℕ)) (l : Vec ℕ) (old new : Input) → IsTaken (option_map (λ v. v.items) taken) old new → taken ≡ Some l →
    HasNoEnd l.items × Consumes old.left new.left (line_of l)
taken_some taken l old new is some = subst (λ (t : Option (Vec ℕ)). IsTaken (option_map (λ v. v.items) t) old new) some is

-- the first of them is the next line of an input
pub filled_behind : (old new : List (Vec ℕ)) (before mid after : Input) → old ≡ [] → IsNext true before mid → ReadsBehind mid.last mid.left new after.left →
    IsFilled true old before.left new after.left
filled_behind old new before mid after none next behind =
    let first = behind.0 in
    let on = behind.2 in
    let is : new ≡ first ∷ on.0 = on.1 in
    let whole : HasNoEnd first.items = subst HasNoEnd (sym behind.1) next.0 in
    let lost : Consumes before.left mid.left (line_of first) = subst (λ (l : Bytes). Consumes before.left mid.left (line l)) (sym behind.1) next.1 in (
      subst (λ (ls : List (Vec ℕ)). 0 < length ls) (sym is) (omega arith),
      (
        first ∷ on.0,
        subst (λ (ls : List (Vec ℕ)). new ≡ ls ++ first ∷ on.0) (sym none) is,
        All-cons IsWhole first on.0 whole on.2,
        Consumes-trans before.left mid.left after.left (line_of first) (flat_map line_of on.0) lost on.3,
      ),
    )

pub none_of : (ls : List (Vec ℕ)) (n : ℕ) → n ≡ length ls → n ≡ 0 → ls ≡ []
none_of [] n long none = refl
none_of (l ∷ ls) n long none = absurd (omega (arith, long, none))

pub some_of : (ls : List (Vec ℕ)) (n : ℕ) → n ≡ length ls → (n == 0) ≡ false → 0 < length ls
some_of [] n long some = absurd (eqb-false n 0 some long)
some_of (l ∷ ls) n long some = omega arith

-- ---- what is left

pub left_none : (unread : Option Bytes) → left_behind [] unread ≡ unread
left_none None = refl
left_none (Some xs) = refl

left_next : (l : Vec ℕ) (ls : List (Vec ℕ)) (unread : Option Bytes) → Consumes (left_behind (l ∷ ls) unread) (left_behind ls unread) (line_of l)
left_next l ls None = tt
left_next l ls (Some xs) = append_assoc (line_of l) (flat_map line_of ls) xs

left_on : (old more : List (Vec ℕ)) (before after : Option Bytes) → Consumes before after (flat_map line_of more) →
    Consumes (left_behind old before) (left_behind (old ++ more) after) []
left_on old more None after lost = tt
left_on old more (Some xs) None lost = absurd lost
left_on old more (Some xs) (Some ys) lost =
    let front = flat_map line_of old in
    ap (λ (bs : Bytes). front ++ bs) lost ∙ sym (append_assoc front (flat_map line_of more) ys)
    ∙ ap (λ (bs : Bytes). bs ++ ys) (sym (flat_map-append line_of old more))

module _ (old mid rest : List (Vec ℕ)) (before after : Option Bytes) (l : Vec ℕ) (steps : mid ≡ l ∷ rest) (on : ReadsOn old before mid after) where
  whole_on : All IsWhole old → All IsWhole (l ∷ rest)
  whole_on whole = subst (All IsWhole) (sym on.1 ∙ steps) (All-append IsWhole old on.0 whole on.2)

  -- the next line of a round, and of what is left
  pub next_on : All IsWhole old → HasNoEnd l.items × Consumes (left_behind old before) (left_behind rest after) (line_of l)
  next_on whole =
      let first = subst (λ (ls : List (Vec ℕ)). Consumes (left_behind old before) (left_behind ls after) []) (sym on.1 ∙ steps)
      (left_on old on.0 before after on.3) in (
        All-head IsWhole l rest (whole_on whole),
        Consumes-trans (left_behind old before) (left_behind (l ∷ rest) after) (left_behind rest after) [] (line_of l) first (left_next l rest after),
      )

  pub rest_on : All IsWhole old → All IsWhole rest
  rest_on whole = All-tail IsWhole l rest (whole_on whole)

-- no line is left
pub none_left : (old : List (Vec ℕ)) (unread : Option Bytes) (P : Option Bytes → Type 0) → old ≡ [] → P unread → P (left_behind old unread)
none_left old unread P none is = subst (λ (ls : List (Vec ℕ)). P (left_behind ls unread)) (sym none) (subst P (sym (left_none unread)) is)

-- ---- what is known

module _ (p : Peer) (chain : Chain) where
  pub none_known : (ks : List (Option Answer)) (ls : List (Vec ℕ)) → ks ≡ [] → AreKnown p chain ks ls
  none_known ks ls none = subst (λ (known : List (Option Answer)). AreKnown p chain known ls) (sym none) tt

  known_front : (ks : List (Option Answer)) (front back : List (Vec ℕ)) → AreKnown p chain ks front → AreKnown p chain ks (front ++ back)
  known_front [] front back known = tt
  known_front (a ∷ ks) [] back known = absurd known
  known_front (a ∷ ks) (l ∷ front) back known = (known.0, known_front ks front back known.1)

  -- lines that are read behind them change nothing
  pub known_on : (ks bs : List (Option Answer)) (old new : List (Vec ℕ)) (before after : Option Bytes) → AreKnown p chain ks old → bs ≡ ks →
      ReadsOn old before new after → AreKnown p chain bs new
  known_on ks bs old new before after known same on =
      subst (λ (cs : List (Option Answer)). AreKnown p chain cs new) (sym same)
      (subst (AreKnown p chain ks) (sym on.1) (known_front ks old on.0 known))

  known_zip : (ls : List (Vec ℕ)) (ks : List (Option Answer)) → AllZip (λ l a. IsKnown p chain l.items a) ls ks → AreKnown p chain ks ls
  known_zip [] [] zip = tt
  known_zip [] (a ∷ ks) zip = absurd zip
  known_zip (l ∷ ls) [] zip = tt
  known_zip (l ∷ ls) (a ∷ ks) zip = (zip.0, known_zip ls ks zip.1)

  -- the answers to the first of them
  pub known_run : (run front back all : List (Vec ℕ)) (ks : List (Option Answer)) (n : ℕ) → run ≡ take n front → front ++ back ≡ all →
      AllZip (λ l a. IsKnown p chain l.items a) run ks → AreKnown p chain ks all
  known_run run front back all ks n taken split zip =
      let run_known = known_zip (take n front) ks (subst (λ (ls : List (Vec ℕ)). AllZip (λ l a. IsKnown p chain l.items a) ls ks) taken zip) in
      let front_known = subst (AreKnown p chain ks) (take-append-drop n front) (known_front ks (take n front) (drop n front) run_known) in
      subst (AreKnown p chain ks) split (known_front ks front back front_known)

  -- of the next line, and of those behind it
  known_next : (ks : List (Option Answer)) (found : Option (Option Answer)) (next : List (Option Answer)) (l : Vec ℕ) (rest : List (Vec ℕ)) →
      ks ≡ option_to_list found ++ next → AreKnown p chain ks (l ∷ rest) → (found ≡ None → next ≡ []) →
      IsKnown p chain l.items (option_flatten found) × AreKnown p chain next rest
  known_next ks None next l rest is known over = (tt, none_known next rest (over refl))
  known_next ks (Some a) next l rest is known over = subst (λ (bs : List (Option Answer)). AreKnown p chain bs (l ∷ rest)) is known

  pub known_step : (ks : List (Option Answer)) (found : Option (Option Answer)) (next : List (Option Answer)) (ls : List (Vec ℕ)) (l : Vec ℕ)
      (rest : List (Vec ℕ)) → ls ≡ l ∷ rest → ks ≡ option_to_list found ++ next → (found ≡ None → next ≡ []) → AreKnown p chain ks ls →
      IsKnown p chain l.items (option_flatten found) × AreKnown p chain next rest
  known_step ks found next ls l rest steps is over known =
      known_next ks found next l rest is (subst (AreKnown p chain ks) steps known) over

-- where the line asks so, it is said so
pub known_asked : (p : Peer) (chain : Chain) (l : Bytes) (known : Option Answer) (request : Request) (tag words : Bytes) → IsKnown p chain l known →
    Some (Asks request tag words) ≡ said_in (utf8_lossy l) → IfSome known (λ a. Says p chain request words (answer_text a))
known_asked p chain l None request tag words known says = tt
known_asked p chain l (Some a) request tag words known says = subst (λ (s : Option Said). IsAnswerTo p chain s a) (sym says) known

-- nothing is known any more
pub round_forgotten : (p : Peer) (old new : Chain) (before after : Round) → IsRound p old before → after.answers.items ≡ []
    → after.lines.items ≡ before.lines.items → IsRound p new after
round_forgotten p old new before after is none same = (
  subst (λ (ls : List (Vec ℕ)). All IsWhole ls) (sym same) is.0,
  subst (λ (known : List (Option Answer)). AreKnown p new known after.lines.items) (sym none) tt,
)
