-- Whole lines, one after another.
use Rattle.std.proofs.Common.{◌≡◌, ◌≢◌, ◌+◌, ◌-◌, ◌==◌, ℕ, Bool, true, false, cond, List, [], ◌∷◌, ◌++◌, Option, Some, None, IfSome, length, take, refl, sym, ap, ◌∙◌, subst, append-nil, arith}
use Rattle.std.proofs.lemmas.Bool.{eqb-true}
use Rattle.std.proofs.lemmas.List.{take_all, length_push}
use Rattle.std.proofs.Math.Seq.{take-append_seam}
use Rattle.std.proofs.lemmas.List.Elements.{All-head, All-tail, All-cons, All-nil, All-more, All-push}
use Rattle.std.proofs.lemmas.List.Concat.{flat_map-append}
use Rattle.std.proofs.KnownBytes.{Consumes-nil, Consumes-trans}
use Rattle.std.specs.Prelude.{slice_index}
use Rattle.std.specs.Io.{StopsAt}
use Rattle.std.specs.Io.BufRead.{take_through}
use Rattle.std.specs.Io.KnownBytes.{Consumes}
use Rattle.std.specs.List.{flat_map}
use Rattle.cli_lines.specs.Texts.{line}
use Rattle.cli_peer.specs.Input.{Input, HasNoEnd, TakesLines, IsNext, IsEnded, AreAll, AreFirst}

abbrev IsNoEnd : ℕ → Type 0
IsNoEnd b = b ≢ 10

-- bytes that stop at an end, and do not end with one, have none
none_at_all : (xs : List ℕ) → StopsAt xs 10 → slice_index xs (length xs - 1) ≢ 10 → HasNoEnd xs
none_at_all [] stops last = All-nil IsNoEnd
none_at_all (x ∷ xs) stops last =
    subst HasNoEnd (take_all (length (x ∷ xs) - 1 + 1) (x ∷ xs) (omega arith))
    (All-more IsNoEnd (x ∷ xs) (length (x ∷ xs) - 1) 0 (omega arith) stops last)

-- the bytes before an end have none
none_before : (l : List ℕ) → StopsAt (line l) 10 → HasNoEnd l
none_before l stops =
    let front : length (line l) - 1 ≡ length l = let n = length_push l 10 in omega arith in
    subst HasNoEnd (ap (λ (n : ℕ). take n (line l)) front ∙ take-append_seam l (10 ∷ [])) stops

none_through : (b : Bool) (x : ℕ) (xs : List ℕ) → (x == 10) ≡ b → (HasNoEnd (take_through 10 xs) → HasNoEnd xs) →
    HasNoEnd (cond b (x ∷ []) (x ∷ take_through 10 xs)) → HasNoEnd (x ∷ xs)
none_through true x xs is later none = absurd (All-head IsNoEnd x [] none (eqb-true x 10 is))
none_through false x xs is later none =
    All-cons IsNoEnd x xs (All-head IsNoEnd x (take_through 10 xs) none) (later (All-tail IsNoEnd x (take_through 10 xs) none))

-- what is taken through the first end has none: there is none at all
none_further : (xs : List ℕ) → HasNoEnd (take_through 10 xs) → HasNoEnd xs
none_further [] none = All-nil IsNoEnd
none_further (x ∷ xs) none = none_through (x == 10) x xs refl (none_further xs) none

-- what was read through the first end is a line, or no line is left
pub next_is : (there : Bool) (last kept read : List ℕ) (a c : Option (List ℕ)) (p q : List ℕ) → StopsAt read 10 → Consumes a c read →
    IfSome a (λ xs. read ≡ take_through 10 xs) → IsEnded there read kept →
    IsNext there (record { last = last; left = a; ahead = p }) (record { last = kept; left = c; ahead = q })
next_is true last kept read a c p q stops eats all ended =
    (none_before kept (subst (λ (l : List ℕ). StopsAt l 10) ended stops), subst (Consumes a c) ended eats)
next_is false last kept read None c p q stops eats all ended = tt
next_is false last kept read (Some xs) c p q stops eats all ended = none_further xs (subst HasNoEnd all (none_at_all read stops ended))

-- ---- line by line

pub lines_none : (a : Option (List ℕ)) → TakesLines a a []
lines_none a = (All-nil HasNoEnd, Consumes-nil a)

pub lines_more : (ls : List (List ℕ)) (a : Option (List ℕ)) (old new : Input) → TakesLines a old.left ls → IsNext true old new →
    TakesLines a new.left (ls ++ new.last ∷ [])
lines_more ls a old new first next = (
  All-push HasNoEnd ls new.last first.0 next.0,
  subst (Consumes a new.left) (sym (flat_map-append line ls (new.last ∷ []) ∙ ap (λ (l : List ℕ). flat_map line ls ++ l) (append-nil (line new.last))))
      (Consumes-trans a old.left new.left (flat_map line ls) (line new.last) first.1 next.1),
)

-- at the end of the input these are all its lines
pub all_lines : (a b : Option (List ℕ)) (ls : List (List ℕ)) → TakesLines a b ls → IfSome b HasNoEnd → AreAll a ls
all_lines None b ls taken none = (taken.0, ([], All-nil IsNoEnd, tt))
all_lines (Some xs) None ls taken none = absurd taken.1
all_lines (Some xs) (Some ys) ls taken none = (taken.0, (ys, none, sym taken.1))

-- before it they are its first ones
pub first_lines : (a b : Option (List ℕ)) (ls : List (List ℕ)) → TakesLines a b ls → AreFirst a ls
first_lines None b ls taken = (taken.0, ([], tt))
first_lines (Some xs) None ls taken = absurd taken.1
first_lines (Some xs) (Some ys) ls taken = (taken.0, (ys, sym taken.1))
