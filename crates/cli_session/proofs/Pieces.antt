-- Lines, read piece by piece.
use Rattle.std.proofs.Common.{◌≡◌, ◌≢◌, ◌+◌, ◌<◌, ◌==◌, ℕ, zero, suc, Bool, false, cond, List, [], ◌∷◌, ◌++◌, Option, Some, None, IfSome, get_or, length, take, refl, sym, ap, ◌∙◌, subst, append_assoc, append-nil, length-append, arith, eq-eqb}
use Rattle.std.proofs.lemmas.Bool.{ne_eqb}
use Rattle.std.proofs.lemmas.List.{take_all}
use Rattle.std.specs.Prelude.{if◌then◌else◌}
use Rattle.std.specs.Io.KnownBytes.{Consumes, Keeps, prepend_known}
use Rattle.cli_session.specs.Reading.{onto, lines_in, HasFirst, TakesLines, TakesPart, IsPiece, NoEnd, IsCut}
use Rattle.cli_session.specs.declared.reading.Piece.{Piece}
use Rattle.cli_session.specs.declared.reading.Piece.TheVariants.{More, Ended, NoneLeft}

pub onto_onto : (a b : List ℕ) (ls : List (List ℕ)) → onto a (onto b ls) ≡ onto (a ++ b) ls
onto_onto [] b ls = refl
onto_onto (x ∷ a) [] [] = ap (λ (l : List ℕ). onto l []) (sym (append-nil (x ∷ a)))
onto_onto (x ∷ a) [] (l ∷ ls) = ap (λ (m : List ℕ). onto m (l ∷ ls)) (sym (append-nil (x ∷ a)))
onto_onto (x ∷ a) (y ∷ b) [] = refl
onto_onto (x ∷ a) (y ∷ b) (l ∷ ls) = ap (λ (m : List ℕ). m ∷ ls) (sym (append_assoc (x ∷ a) (y ∷ b) l))

not_end : (x : ℕ) → x ≢ 10 → (x == 10) ≡ false
not_end x h = ne_eqb x 10 h

-- bytes without an end, before others
no_end : (xs rest : List ℕ) → NoEnd xs (length xs) → lines_in (xs ++ rest) ≡ onto xs (lines_in rest)
no_end [] rest h = refl
no_end (x ∷ xs) rest h =
    ap (λ (b : Bool). cond b ([] ∷ lines_in (xs ++ rest)) (onto (x ∷ []) (lines_in (xs ++ rest)))) (not_end x (h 0 (omega arith)))
    ∙ ap (onto (x ∷ [])) (no_end xs rest (λ k below. h (suc k) (omega arith)))
    ∙ onto_onto (x ∷ []) xs (lines_in rest)

-- bytes up to their first end, before others
one_end : (xs rest : List ℕ) (i : ℕ) → NoEnd xs i → get_or xs i 0 ≡ 10 → i < length xs → lines_in (take (i + 1) xs ++ rest) ≡ take i xs ∷ lines_in rest
one_end [] rest i h end within = absurd (omega (arith, within))
one_end (x ∷ xs) rest zero h end within =
    ap (λ (b : Bool). cond b ([] ∷ lines_in rest) (onto (x ∷ []) (lines_in rest))) (eq-eqb x 10 end)
one_end (x ∷ xs) rest (suc i) h end within =
    let more : suc i + 1 ≡ suc (i + 1) = omega arith in
    let later = lines_in (take (i + 1) xs ++ rest) in
    rw more
    (ap (λ (b : Bool). cond b ([] ∷ later) (onto (x ∷ []) later)) (not_end x (h 0 (omega arith)))
    ∙ ap (onto (x ∷ [])) (one_end xs rest i (λ k below. h (suc k) (omega arith)) end (omega arith)))

-- ---- the same of known bytes

part_taken : (a c : Option (List ℕ)) (bs : List ℕ) → NoEnd bs (length bs) → Consumes a c bs → TakesPart a c bs
part_taken None c bs h e = tt
part_taken (Some xs) None bs h e = absurd e
part_taken (Some xs) (Some ys) bs h e = ap lines_in e ∙ no_end bs ys h

line_taken : (a c : Option (List ℕ)) (bs : List ℕ) (i : ℕ) → NoEnd bs i → get_or bs i 0 ≡ 10 → i < length bs → Consumes a c (take (i + 1) bs) →
    TakesLines a c (take i bs ∷ [])
line_taken None c bs i h end within e = tt
line_taken (Some xs) None bs i h end within e = absurd e
line_taken (Some xs) (Some ys) bs i h end within e = ap lines_in e ∙ one_end bs ys i h end within

none_taken : (a c : Option (List ℕ)) → Consumes a c [] → Keeps a c
none_taken None c e = tt
none_taken (Some xs) None e = absurd e
none_taken (Some xs) (Some ys) e = sym e

-- what was taken of the bytes at hand is the piece by which they are divided
pub piece_cut : (p : Piece) (a c : Option (List ℕ)) (shown before : List ℕ) (text taken : ℕ) → IfSome a (λ xs. length shown ≡ 0 → xs ≡ []) →
    IsCut p shown text taken → Consumes a c (take taken shown) → IsPiece p a c before (before ++ take text shown)
piece_cut More a c shown before text taken end cut eats =
    let all : take text shown ≡ shown = take_all text shown (omega (arith, cut.1)) in
    let whole : take taken shown ≡ shown = ap (λ (n : ℕ). take n shown) cut.2 ∙ all in
    let none : NoEnd shown (length shown) = subst (NoEnd shown) cut.1 cut.0 in
    (take text shown, refl, subst (TakesPart a c) (sym all) (part_taken a c shown none (subst (Consumes a c) whole eats)))
piece_cut Ended a c shown before text taken end cut eats =
    (take text shown, refl, line_taken a c shown text cut.0 cut.1 cut.2 (subst (λ (n : ℕ). Consumes a c (take n shown)) cut.3 eats))
piece_cut NoneLeft a c shown before text taken end cut eats =
    let none : take text shown ≡ [] = ap (λ (n : ℕ). take n shown) cut.1 in (
      ap (λ (bs : List ℕ). before ++ bs) none ∙ append-nil before,
      at_end a end,
      none_taken a c (subst (λ (n : ℕ). Consumes a c (take n shown)) cut.2 eats),
    )
  where
    at_end : (o : Option (List ℕ)) → IfSome o (λ xs. length shown ≡ 0 → xs ≡ []) → IfSome o (λ xs. xs ≡ [])
    at_end None h = tt
    at_end (Some xs) h = h cut.0

-- nothing was taken
pub part_none : (a c : Option (List ℕ)) → Keeps a c → TakesPart a c []
part_none None c kept = tt
part_none (Some xs) None kept = absurd kept
part_none (Some xs) (Some ys) kept = ap lines_in (sym kept)

-- ---- piece by piece

part_joined : (a b c : Option (List ℕ)) (front part : List ℕ) → TakesPart a b front → TakesPart b c part → TakesPart a c (front ++ part)
part_joined None b c front part p q = tt
part_joined (Some xs) None c front part p q = absurd p
part_joined (Some xs) (Some ys) None front part p q = absurd q
part_joined (Some xs) (Some ys) (Some zs) front part p q = p ∙ ap (onto front) q ∙ onto_onto front part (lines_in zs)

line_joined : (a b c : Option (List ℕ)) (front part : List ℕ) → TakesPart a b front → TakesLines b c (part ∷ []) → TakesLines a c ((front ++ part) ∷ [])
line_joined None b c front part p q = tt
line_joined (Some xs) None c front part p q = absurd p
line_joined (Some xs) (Some ys) None front part p q = absurd q
line_joined (Some xs) (Some ys) (Some zs) front part p q = p ∙ ap (onto front) q ∙ at front
  where
    at : (f : List ℕ) → onto f (part ∷ lines_in zs) ≡ (f ++ part) ∷ lines_in zs
    at [] = refl
    at (y ∷ f) = refl

pub piece_more : (a b c : Option (List ℕ)) (before after : List ℕ) → TakesPart a b before → IsPiece More b c before after → TakesPart a c after
piece_more a b c before after p piece = subst (TakesPart a c) (sym piece.1) (part_joined a b c before piece.0 p piece.2)

pub piece_ended : (a b c : Option (List ℕ)) (before after : List ℕ) → TakesPart a b before → IsPiece Ended b c before after → TakesLines a c (after ∷ [])
piece_ended a b c before after p piece =
    subst (λ (l : List ℕ). TakesLines a c (l ∷ [])) (sym piece.1) (line_joined a b c before piece.0 p piece.2)

pub file_ended : (a b c : Option (List ℕ)) (before after : List ℕ) → TakesPart a b before → IsPiece NoneLeft b c before after → after ≡ [] →
    IfSome a (λ xs. lines_in xs ≡ [])
file_ended None b c before after p piece none = tt
file_ended (Some xs) None c before after p piece none = absurd p
file_ended (Some xs) (Some ys) c before after p piece none =
    p ∙ ap (onto before) (ap lines_in piece.1) ∙ ap (λ (f : List ℕ). onto f []) (sym piece.0 ∙ none)

pub last_line : (a b c : Option (List ℕ)) (before after : List ℕ) → TakesPart a b before → IsPiece NoneLeft b c before after → 0 < length after →
    TakesLines a c (after ∷ [])
last_line None b c before after p piece some = tt
last_line (Some xs) None c before after p piece some = absurd p
last_line (Some xs) (Some ys) None before after p piece some = absurd piece.2
last_line (Some xs) (Some ys) (Some zs) before after p piece some =
    p ∙ ap (onto before) (ap lines_in piece.1) ∙ ap (λ (f : List ℕ). onto f []) (sym piece.0) ∙ at after some
    ∙ ap (λ (ls : List (List ℕ)). after ∷ ls) (sym (ap lines_in (piece.2 ∙ piece.1)))
  where
    at : (l : List ℕ) → 0 < length l → onto l [] ≡ l ∷ []
    at [] h = absurd (omega (arith, h))
    at (y ∷ l) h = refl

pub has_first : (a b : Option (List ℕ)) (ls : List (List ℕ)) → TakesLines a b ls → HasFirst a ls
has_first None b ls p = tt
has_first (Some xs) None ls p = absurd p
has_first (Some xs) (Some ys) ls p = (lines_in ys, p)

-- ---- a line that is too long

-- a line that has so many bytes
abbrev pub Longer : ℕ → Option (List ℕ) → Type 0
Longer n held = (l : List ℕ) × (n < length l) × HasFirst held (l ∷ [])

part_longer : (n : ℕ) (a c : Option (List ℕ)) (part : List ℕ) → TakesPart a c part → n < length part → Longer n a
part_longer n None c part p long = (part, long, tt)
part_longer n (Some xs) None part p long = absurd p
part_longer n (Some xs) (Some ys) part p long = at part (lines_in ys) long p
  where
    at : (f : List ℕ) (ks : List (List ℕ)) → n < length f → lines_in xs ≡ onto f ks → Longer n (Some xs)
    at [] ks long e = absurd (omega (arith, long))
    at (b ∷ bs) [] long e = (b ∷ bs, long, ([], e))
    at (b ∷ bs) (k ∷ ks) long e = let all = length-append (b ∷ bs) k in ((b ∷ bs) ++ k, omega (arith, all, long), (ks, e))

pub too_long : (n : ℕ) (p : Piece) (a b c : Option (List ℕ)) (before after : List ℕ) → TakesPart a b before → IsPiece p b c before after →
    n < length after → Longer n a
too_long n More a b c before after part piece long = part_longer n a c after (piece_more a b c before after part piece) long
too_long n Ended a b c before after part piece long = (after, long, has_first a c (after ∷ []) (piece_ended a b c before after part piece))
too_long n NoneLeft a b c before after part piece long =
    part_longer n a b before part (subst (λ (l : List ℕ). n < length l) piece.0 long)

-- ---- line by line

pub lines_none : (a : Option (List ℕ)) → TakesLines a a []
lines_none None = tt
lines_none (Some xs) = refl

pub lines_more : (a b c : Option (List ℕ)) (ls : List (List ℕ)) (l : List ℕ) → TakesLines a b ls → TakesLines b c (l ∷ []) → TakesLines a c (ls ++ l ∷ [])
lines_more None b c ls l p q = tt
lines_more (Some xs) None c ls l p q = absurd p
lines_more (Some xs) (Some ys) None ls l p q = absurd q
lines_more (Some xs) (Some ys) (Some zs) ls l p q = p ∙ ap (λ (ks : List (List ℕ)). ls ++ ks) q ∙ sym (append_assoc ls (l ∷ []) (lines_in zs))

pub first_more : (a b : Option (List ℕ)) (ls : List (List ℕ)) (l : List ℕ) → TakesLines a b ls → HasFirst b (l ∷ []) → HasFirst a (ls ++ l ∷ [])
first_more None b ls l p q = tt
first_more (Some xs) None ls l p q = absurd p
first_more (Some xs) (Some ys) ls l p q =
    (q.0, p ∙ ap (λ (ks : List (List ℕ)). ls ++ ks) q.1 ∙ sym (append_assoc ls (l ∷ []) q.0))

pub lines_all : (a b : Option (List ℕ)) (ls : List (List ℕ)) → TakesLines a b ls → IfSome b (λ ys. lines_in ys ≡ []) → IfSome a (λ xs. ls ≡ lines_in xs)
lines_all None b ls p none = tt
lines_all (Some xs) None ls p none = absurd p
lines_all (Some xs) (Some ys) ls p none = sym (p ∙ ap (λ (ks : List (List ℕ)). ls ++ ks) none ∙ append-nil ls)

prepend_none : (o : Option (List ℕ)) → prepend_known [] o ≡ o
prepend_none None = refl
prepend_none (Some xs) = refl

-- a reader with nothing at hand has what stands behind it
pub fresh_reader : (room : ℕ) (at_hand : List ℕ) (behind held : Option (List ℕ)) → room ≡ 8192 → at_hand ≡ [] → behind ≡ held →
    (if room == 0 then None else prepend_known at_hand behind) ≡ held
fresh_reader room at_hand behind held some none is =
    ap (λ (n : ℕ). cond (n == 0) None (prepend_known at_hand behind)) some ∙ ap (λ (bs : List ℕ). prepend_known bs behind) none
    ∙ prepend_none behind ∙ is
