-- Reading each token gives what its text spells, and nothing else.
use Rattle.std.proofs.Common.{◌≡◌, ℕ, take, drop, Bool, true, false, cond, eqb, List, [], ◌∷◌, ◌++◌, length, Option, Some, None, refl, sym, ap, ap₂, ◌∙◌, subst}
use Rattle.std.proofs.Common.{append_assoc, arith}
use Rattle.std.specs.Prelude.{◌&&◌, nat_eq, nat_le, not, codes}
use Rattle.std.specs.List.{list_all, prefix_len}
use Rattle.std.specs.Cmp.Lexicographic.{pointwise}
use Rattle.std.proofs.lemmas.Bool.{eqb-true, eq-eqb, leb-true, le-leb}
use Rattle.std.proofs.lemmas.Option.{some_pair_parts}
use Rattle.std.proofs.lemmas.List.{take_at, drop_at, take-append-drop}
use Rattle.fab_types.specs.Limits.{is_digit, is_org_name_byte}
use Rattle.grammar.specs.Spelling.{IsByte, IsText}
use Rattle.grammar.specs.Reading.{◌>>=◌, byte_at}
use Rattle.grammar.specs.Laws.Steps.{bind_some, guarded, byte_taken}
use Rattle.policy_language.specs.Tree.{Rule, And, Or, OutOf}
use Rattle.policy_language.specs.GoodSets.{Name}
use Rattle.policy_language.specs.Spelling.{IsSpaces, ◌⋯◌, IsLeaf, IsThreshold, decimal_after, leads_with_zero, IsOpening}
use Rattle.policy_language.specs.Reading.{after_spaces, tag_at, token_at, quoted_at, is_org_name, leaf_at, threshold_at, bracket_at, out_of_at, opening_at}
use Rattle.policy_language.specs.Reading.{by_delimiter, comma_at}
use Rattle.policy_language.specs.declared.policy.Policy.{Policy}
use Rattle.policy_language.specs.declared.policy.Policy.TheVariants as policy
use Rattle.std.proofs.lemmas.List.Folds.{length-prefix_len}
use Rattle.std.proofs.lemmas.Bool.Decides.{nat_tests}
use Rattle.policy_language.proofs.Fronts.{front_passes, front_len, front_taken, front_left, front_ends, front_stops}

-- ---- spaces

pub is_space : ℕ → Bool
is_space b = eqb b 32

-- what begins with another byte is left after spaces
pub spaces_left : (spaces : List ℕ) (b : ℕ) (rest : List ℕ) → IsSpaces spaces → eqb b 32 ≡ false → after_spaces (spaces ++ b ∷ rest) ≡ b ∷ rest
spaces_left spaces b rest h e = front_left (λ b. eqb b 32) spaces b rest h e

pub spaces_taken : (bytes : List ℕ) → (spaces : List ℕ) × IsSpaces spaces × (bytes ≡ spaces ++ after_spaces bytes)
spaces_taken bytes =
    let n = prefix_len (λ b. eqb b 32) bytes in
    (take n bytes, front_passes (λ b. eqb b 32) bytes, sym (take-append-drop n bytes))

-- ---- tags and tokens

pub tag_taken : (b : ℕ) (bytes rest : List ℕ) → tag_at b bytes ≡ Some rest → bytes ≡ b ∷ rest
tag_taken b [] rest e = absurd cc
tag_taken b (c ∷ bytes) rest e = let g = guarded (eqb c b) (Some bytes) rest e in let same : bytes ≡ rest =
    cc in ap₂ (λ (x : ℕ) (xs : List ℕ). x ∷ xs) (eqb-true c b g.0) same

pub tag_passed : (b : ℕ) (rest : List ℕ) → tag_at b (b ∷ rest) ≡ Some rest
tag_passed b rest = rw (eq-eqb b b refl) refl

pub token_passed : (spaces : List ℕ) (b : ℕ) (rest : List ℕ) → IsSpaces spaces → eqb b 32 ≡ false → token_at b (spaces ++ b ∷ rest) ≡ Some rest
unfolding token_at
token_passed spaces b rest h e = ap (tag_at b) (spaces_left spaces b rest h e) ∙ tag_passed b rest

pub token_taken : (b : ℕ) (bytes rest : List ℕ) → token_at b bytes ≡ Some rest → (spaces : List ℕ) × IsSpaces spaces × (bytes ≡ spaces ++ b ∷ rest)
unfolding token_at
token_taken b bytes rest e =
    let s = spaces_taken bytes in
    (s.0, s.1, s.2 ∙ ap (λ (x : List ℕ). s.0 ++ x) (tag_taken b (after_spaces bytes) rest e))

-- ---- leaves

pub both : (a b : Bool) → (a && b) ≡ true → (a ≡ true) × (b ≡ true)
both true b e = (refl, e)
both false b e = absurd cc

pub quoted_read : (name rest : List ℕ) → list_all is_org_name_byte name ≡ true → quoted_at (39 ∷ (name ++ 39 ∷ rest)) ≡ Some (name, rest)
unfolding quoted_at
quoted_read name rest all = rw (front_taken is_org_name_byte name 39 rest all refl, front_left is_org_name_byte name 39 rest all refl) refl

pub quoted_taken : (bytes name rest : List ℕ) → quoted_at bytes ≡ Some (name, rest) → bytes ≡ 39 ∷ (name ++ 39 ∷ rest)
unfolding quoted_at
quoted_taken bytes name rest e =
    let s = bind_some (tag_at 39 bytes) (λ r. let n = prefix_len is_org_name_byte r in tag_at 39 (drop n r) >>= λ s. Some (take n r, s)) (name, rest) e in
    let n = prefix_len is_org_name_byte s.0 in
    let t = bind_some (tag_at 39 (drop n s.0)) (λ s₁. Some (take n s.0, s₁)) (name, rest) s.2 in
    let parts = some_pair_parts (take n s.0) name t.0 rest t.2 in
    tag_taken 39 bytes s.0 s.1
    ∙ ap (λ (x : List ℕ). 39 ∷ x)
    (sym (take-append-drop n s.0) ∙ ap₂ (λ (x y : List ℕ). x ++ y) parts.0 (tag_taken 39 (drop n s.0) t.0 t.1 ∙ ap (λ (y : List ℕ). 39 ∷ y) parts.1))

module _ (is_known : Name → Bool) where
  pub leaf_read : (name text rest : List ℕ) → IsLeaf name text → is_known name ≡ true → leaf_at is_known (text ++ rest) ≡ Some (policy.Org name, rest)
  unfolding leaf_at
  leaf_read name text rest h known =
      let front : text ++ rest ≡ 39 ∷ (name ++ 39 ∷ rest) =
      ap (λ (x : List ℕ). x ++ rest) h.1 ∙ ap (λ (x : List ℕ). 39 ∷ x) (append_assoc name (39 ∷ []) rest) in
      rw (front, quoted_read name rest h.0.2, le-leb 1 (length name) h.0.0, le-leb (length name) 32 h.0.1, h.0.2, known) refl

  pub leaf_taken : (bytes rest : List ℕ) (p : Policy) → leaf_at is_known bytes ≡ Some (p, rest)
      → (name : List ℕ) × (p ≡ policy.Org name) × (is_known name ≡ true) × (text : List ℕ) × IsLeaf name text × (bytes ≡ text ++ rest)
  unfolding leaf_at
  leaf_taken bytes rest p e =
      let s = bind_some (quoted_at bytes) (λ q. cond (is_org_name q.0 && is_known q.0) (Some (policy.Org q.0, q.1)) None) (p, rest) e in
      let name = s.0.0 in
      let g = guarded (is_org_name name && is_known name) (Some (policy.Org name, s.0.1)) (p, rest) s.2 in
      let parts = some_pair_parts (policy.Org name) p s.0.1 rest g.1 in
      let tests = both (is_org_name name) (is_known name) g.0 in
      let more = both (nat_le 1 (length name) && nat_le (length name) 32) (list_all is_org_name_byte name) tests.0 in
      let bounds = both (nat_le 1 (length name)) (nat_le (length name) 32) more.0 in (
        name,
        sym parts.0,
        tests.1,
        39 ∷ (name ++ 39 ∷ []),
        ((leb-true _ _ bounds.0, leb-true _ _ bounds.1, more.1), refl),
        quoted_taken bytes name s.0.1 s.1 ∙ ap (λ (x : List ℕ). 39 ∷ (name ++ 39 ∷ x)) parts.1 ∙
            ap (λ (x : List ℕ). 39 ∷ x) (sym (append_assoc name (39 ∷ []) rest)),
      )

-- ---- thresholds

pub threshold_read : (n : ℕ) (text : List ℕ) (b : ℕ) (rest : List ℕ) → IsThreshold n text → is_digit b ≡ false →
    threshold_at (text ++ b ∷ rest) ≡ Some (n, b ∷ rest)
unfolding threshold_at
threshold_read n text b rest h stops =
    rw (
      front_len is_digit text b rest h.digits stops,
      take_at text (b ∷ rest) (length text) refl,
      drop_at text (b ∷ rest) (length text) refl,
      le-leb 1 (length text) h.least,
      le-leb (length text) 4 h.greatest,
      h.plain,
      h.value,
    ) refl

-- digits are a threshold as far as they go
pub threshold_found : (n : ℕ) (text rest : List ℕ) → IsThreshold n text → prefix_len is_digit rest ≡ 0 → threshold_at (text ++ rest) ≡ Some (n, rest)
unfolding threshold_at
threshold_found n text rest h stops =
    rw (
      front_ends is_digit text rest h.digits stops,
      take_at text rest (length text) refl,
      drop_at text rest (length text) refl,
      le-leb 1 (length text) h.least,
      le-leb (length text) 4 h.greatest,
      h.plain,
      h.value,
    ) refl

pub threshold_ends : (bytes rest : List ℕ) (n : ℕ) → threshold_at bytes ≡ Some (n, rest) → prefix_len is_digit rest ≡ 0
unfolding threshold_at
threshold_ends bytes rest n e =
    let k = prefix_len is_digit bytes in
    let text = take k bytes in
    let g = guarded (nat_le 1 k && nat_le k 4 && not (leads_with_zero text)) (Some (decimal_after 0 text, drop k bytes)) (n, rest) e in
    let parts = some_pair_parts (decimal_after 0 text) n (drop k bytes) rest g.1 in
    subst (λ (left : List ℕ). prefix_len is_digit left ≡ 0) parts.1 (front_stops is_digit bytes)

is_false : (b : Bool) → not b ≡ true → b ≡ false
is_false true e = absurd cc
is_false false e = refl

pub threshold_taken : (bytes rest : List ℕ) (n : ℕ) → threshold_at bytes ≡ Some (n, rest) → (text : List ℕ) × IsThreshold n text × (bytes ≡ text ++ rest)
unfolding threshold_at
threshold_taken bytes rest n e =
    let k = prefix_len is_digit bytes in
    let text = take k bytes in
    let g = guarded (nat_le 1 k && nat_le k 4 && not (leads_with_zero text)) (Some (decimal_after 0 text, drop k bytes)) (n, rest) e in
    let parts = some_pair_parts (decimal_after 0 text) n (drop k bytes) rest g.1 in
    let tests = both (nat_le 1 k && nat_le k 4) (not (leads_with_zero text)) g.0 in
    let bounds = both (nat_le 1 k) (nat_le k 4) tests.0 in
    let len : length text ≡ k = length-prefix_len is_digit bytes in (
      text,
      record {
        least = rw len (leb-true _ _ bounds.0);
        greatest = rw len (leb-true _ _ bounds.1);
        digits = front_passes is_digit bytes;
        plain = is_false (leads_with_zero text) tests.1;
        value = sym parts.0;
      },
      sym (take-append-drop k bytes) ∙ ap (λ (x : List ℕ). text ++ x) parts.1,
    )

-- ---- words

-- a word at the front
pub word_taken : (word bytes : List ℕ) → pointwise nat_eq (take (length word) bytes) word ≡ true → bytes ≡ word ++ drop (length word) bytes
word_taken [] bytes e = refl
word_taken (w ∷ word) [] e = absurd cc
word_taken (w ∷ word) (b ∷ bytes) e =
    let parts = both (nat_eq b w) (pointwise nat_eq (take (length word) bytes) word) e in
    ap₂ (λ (x : ℕ) (xs : List ℕ). x ∷ xs) (eqb-true b w parts.0) (word_taken word bytes parts.1)

-- ---- operators up to their first child

regroup : (a b c d e f g rest : List ℕ) → (a ++ (b ++ (c ++ (d ++ (e ++ (f ++ g)))))) ++ rest ≡ a ++ (b ++ (c ++ (d ++ (e ++ (f ++ (g ++ rest))))))
regroup a b c d e f g rest = simp append_assoc

-- two tokens and the spaces between them
pub joined : (front spaces back rest : List ℕ) → (front ++ (spaces ++ back)) ++ rest ≡ front ++ (spaces ++ (back ++ rest))
joined front spaces back rest = simp append_assoc

and_read : (spaces rest : List ℕ) → IsSpaces spaces → opening_at (codes "AND" ++ (spaces ++ 40 ∷ rest)) ≡ Some (And, rest)
unfolding opening_at
and_read spaces rest h = rw (token_passed spaces 40 rest h refl) refl

or_read : (spaces rest : List ℕ) → IsSpaces spaces → opening_at (codes "OR" ++ (spaces ++ 40 ∷ rest)) ≡ Some (Or, rest)
unfolding opening_at
or_read spaces rest h = rw (token_passed spaces 40 rest h refl) refl

-- a threshold begins with a digit, which is no space
digits_left : (n : ℕ) (spaces text rest : List ℕ) → IsSpaces spaces → IsThreshold n text → after_spaces (spaces ++ (text ++ rest)) ≡ text ++ rest
digits_left n spaces [] rest s h = absurd (let l = h.least in omega arith)
digits_left n spaces (d ∷ ds) rest s h = spaces_left spaces d (ds ++ rest) s (digit_is_no_space d (both (is_digit d) (list_all is_digit ds) h.digits).0)
  where
    digit_is_no_space : (d : ℕ) → is_digit d ≡ true → eqb d 32 ≡ false
    digit_is_no_space d e = grind (arith, nat_tests)

-- what follows a threshold begins with no digit
threshold_before : (n : ℕ) (text spaces rest : List ℕ) → IsThreshold n text → IsSpaces spaces →
    threshold_at (text ++ (spaces ++ 44 ∷ rest)) ≡ Some (n, spaces ++ 44 ∷ rest)
threshold_before n text [] rest h s = threshold_read n text 44 rest h refl
threshold_before n text (b ∷ spaces) rest h s =
    threshold_read n text b (spaces ++ 44 ∷ rest) h (space_is_no_digit b (both (eqb b 32) (list_all (λ b. eqb b 32) spaces) s).0)
  where
    space_is_no_digit : (b : ℕ) → eqb b 32 ≡ true → is_digit b ≡ false
    space_is_no_digit b e = rw (eqb-true b 32 e) refl

out_of_read : (n : ℕ) (one two text three rest : List ℕ) → IsSpaces one → IsSpaces two → IsThreshold n text → IsSpaces three
    → opening_at (codes "OutOf" ++ (one ++ 40 ∷ (two ++ (text ++ (three ++ 44 ∷ rest))))) ≡ Some (OutOf n, rest)
unfolding opening_at
out_of_read n one two text three rest s t h u =
    rw (
      token_passed one 40 (two ++ (text ++ (three ++ 44 ∷ rest))) s refl,
      digits_left n two text (three ++ 44 ∷ rest) t h,
      threshold_before n text three rest h u,
      token_passed three 44 rest u refl,
    ) refl

pub opening_read : (rule : Rule) (text rest : List ℕ) → IsOpening rule text → opening_at (text ++ rest) ≡ Some (rule, rest)
opening_read And text rest h =
    let is : text ++ rest ≡ codes "AND" ++ (h.3.0 ++ 40 ∷ rest) = rw (h.4, h.3.4, h.2, h.3.3) (joined (codes "AND") h.3.0 (40 ∷ []) rest) in
    ap opening_at is ∙ and_read h.3.0 rest h.3.2
opening_read Or text rest h =
    let is : text ++ rest ≡ codes "OR" ++ (h.3.0 ++ 40 ∷ rest) = rw (h.4, h.3.4, h.2, h.3.3) (joined (codes "OR") h.3.0 (40 ∷ []) rest) in
    ap opening_at is ∙ or_read h.3.0 rest h.3.2
opening_read (OutOf n) text rest h =
    let a = h.3.3 in
    let b = a.3.3 in
    let is : text ++ rest ≡ codes "OutOf" ++ (h.3.0 ++ 40 ∷ (a.3.0 ++ (b.0 ++ (b.3.0 ++ 44 ∷ rest)))) =
    rw (h.4, h.3.4, h.2, a.4, a.3.4, a.2, b.4, b.3.4, b.3.3) (regroup (codes "OutOf") h.3.0 (40 ∷ []) a.3.0 b.0 b.3.0 (44 ∷ []) rest) in
    ap opening_at is ∙ out_of_read n h.3.0 a.3.0 b.0 b.3.0 rest h.3.2 a.3.2 b.2 b.3.2

-- two parts and spaces between them
pub seq : (P Q : List ℕ → Type 0) (front spaces back : List ℕ) → P front → IsSpaces spaces → Q back → (P ⋯ Q) (front ++ (spaces ++ back))
seq P Q front spaces back p s q = (front, spaces ++ back, p, (spaces, back, s, q, refl), refl)

plain_taken : (rule found : Rule) (word bytes rest : List ℕ) → ((text : List ℕ) → (IsText word ⋯ IsByte 40) text → IsOpening rule text) →
    pointwise nat_eq (take (length word) bytes) word ≡ true
    → bracket_at rule (drop (length word) bytes) ≡ Some (found, rest) → (text : List ℕ) × IsOpening found text × (bytes ≡ text ++ rest)
plain_taken rule found word bytes rest opens is e =
    let s = bind_some (token_at 40 (drop (length word) bytes)) (λ r. Some (rule, r)) (found, rest) e in
    let parts = some_pair_parts rule found s.0 rest s.2 in
    let t = token_taken 40 (drop (length word) bytes) s.0 s.1 in (
      word ++ (t.0 ++ 40 ∷ []),
      subst (λ r. IsOpening r (word ++ (t.0 ++ 40 ∷ []))) parts.0
          (opens (word ++ (t.0 ++ 40 ∷ [])) (seq (IsText word) (IsByte 40) word t.0 (40 ∷ []) refl t.1 refl)),
      word_taken word bytes is ∙ ap (λ (x : List ℕ). word ++ x) (t.2 ∙ ap (λ (x : List ℕ). t.0 ++ 40 ∷ x) parts.1) ∙ sym (joined word t.0 (40 ∷ []) rest),
    )

out_of_taken : (found : Rule) (bytes rest : List ℕ) → pointwise nat_eq (take 5 bytes) (codes "OutOf") ≡ true
    → out_of_at (drop 5 bytes) ≡ Some (found, rest)
    → (text : List ℕ) × IsOpening found text × (bytes ≡ text ++ rest)
out_of_taken found bytes rest is e =
    let word = codes "OutOf" in
    let s = bind_some (token_at 40 (drop 5 bytes)) (λ r. threshold_at (after_spaces r) >>= λ n. (token_at 44 n.1 >>= λ s. Some (OutOf n.0, s))) (found, rest) e
    in
    let t = bind_some (threshold_at (after_spaces s.0)) (λ n. token_at 44 n.1 >>= λ s. Some (OutOf n.0, s)) (found, rest) s.2 in
    let u = bind_some (token_at 44 t.0.1) (λ s. Some (OutOf t.0.0, s)) (found, rest) t.2 in
    let parts = some_pair_parts (OutOf t.0.0) found u.0 rest u.2 in
    let one = token_taken 40 (drop 5 bytes) s.0 s.1 in
    let two = spaces_taken s.0 in
    let digits = threshold_taken (after_spaces s.0) t.0.1 t.0.0 t.1 in
    let three = token_taken 44 t.0.1 u.0 u.1 in
    let text = word ++ (one.0 ++ ((40 ∷ []) ++ (two.0 ++ (digits.0 ++ (three.0 ++ 44 ∷ []))))) in
    let opens : IsOpening (OutOf t.0.0) text =
    seq (IsText word) (IsByte 40 ⋯ IsThreshold t.0.0 ⋯ IsByte 44) word one.0 ((40 ∷ []) ++ (two.0 ++ (digits.0 ++ (three.0 ++ 44 ∷ [])))) refl one.1
    (seq (IsByte 40) (IsThreshold t.0.0 ⋯ IsByte 44) (40 ∷ []) two.0 (digits.0 ++ (three.0 ++ 44 ∷ [])) refl two.1
    (seq (IsThreshold t.0.0) (IsByte 44) digits.0 three.0 (44 ∷ []) digits.1 three.1 refl)) in
    let left : drop 5 bytes ≡ one.0 ++ 40 ∷ (two.0 ++ (digits.0 ++ (three.0 ++ 44 ∷ rest))) =
    one.2 ∙ ap (λ (x : List ℕ). one.0 ++ 40 ∷ x)
    (two.2 ∙ ap (λ (x : List ℕ). two.0 ++ x) (digits.2 ∙ ap (λ (x : List ℕ). digits.0 ++ x) (three.2 ∙ ap (λ (x : List ℕ). three.0 ++ 44 ∷ x) parts.1))) in (
      text,
      subst (λ r. IsOpening r text) parts.0 opens,
      word_taken word bytes is ∙ ap (λ (x : List ℕ). word ++ x) left ∙
          sym (regroup word one.0 (40 ∷ []) two.0 digits.0 three.0 (44 ∷ []) rest),
    )

pub opening_taken : (bytes rest : List ℕ) (rule : Rule) → opening_at bytes ≡ Some (rule, rest) → (text : List ℕ) × IsOpening rule text × (bytes ≡ text ++ rest)
unfolding opening_at
opening_taken bytes rest rule e =
    first (pointwise nat_eq (take 3 bytes) (codes "AND")) (pointwise nat_eq (take 2 bytes) (codes "OR"))
    (pointwise nat_eq (take 5 bytes) (codes "OutOf")) refl refl refl e
  where
    first : (a o n : Bool) → pointwise nat_eq (take 3 bytes) (codes "AND") ≡ a → pointwise nat_eq (take 2 bytes) (codes "OR") ≡ o →
        pointwise nat_eq (take 5 bytes) (codes "OutOf") ≡ n
        → cond a (bracket_at And (drop 3 bytes)) (cond o (bracket_at Or (drop 2 bytes)) (cond n (out_of_at (drop 5 bytes)) None)) ≡ Some (rule, rest)
        → (text : List ℕ) × IsOpening rule text × (bytes ≡ text ++ rest)
    first true o n a_is o_is n_is e = plain_taken And rule (codes "AND") bytes rest (λ text h. h) a_is e
    first false true n a_is o_is n_is e = plain_taken Or rule (codes "OR") bytes rest (λ text h. h) o_is e
    first false false true a_is o_is n_is e = out_of_taken rule bytes rest n_is e
    first false false false a_is o_is n_is e = absurd cc

-- ---- what follows a child

pub comma_more : (spaces rest : List ℕ) → IsSpaces spaces → comma_at (spaces ++ 44 ∷ rest) ≡ Some (true, rest)
unfolding comma_at
comma_more spaces rest h = rw (spaces_left spaces 44 rest h refl) refl

pub comma_ends : (spaces rest : List ℕ) → IsSpaces spaces → comma_at (spaces ++ 41 ∷ rest) ≡ Some (false, rest)
unfolding comma_at
comma_ends spaces rest h = rw (spaces_left spaces 41 rest h refl) refl

abbrev pub delimiter : Bool → ℕ
delimiter true = 44
delimiter false = 41

abbrev chosen : Bool → Bool → List ℕ → Option (Bool × List ℕ)
chosen c d left = cond c (Some (true, left)) (cond d (Some (false, left)) None)

pub comma_taken : (bytes rest : List ℕ) (more : Bool) → comma_at bytes ≡ Some (more, rest) →
    (spaces : List ℕ) × IsSpaces spaces × (bytes ≡ spaces ++ delimiter more ∷ rest)
unfolding comma_at
comma_taken bytes rest more e =
    let s = spaces_taken bytes in
    let t = bind_some (byte_at (after_spaces bytes)) (λ t. by_delimiter t.0 t.1) (more, rest) e in (
      s.0,
      s.1,
      s.2 ∙ ap (λ (x : List ℕ). s.0 ++ x)
          (byte_taken (after_spaces bytes) t.0.0 t.0.1 t.1 ∙ delimited t.0.0 t.0.1 (eqb t.0.0 44) (eqb t.0.0 41) refl refl t.2),
    )
  where
    delimited : (b : ℕ) (left : List ℕ) (c d : Bool) → eqb b 44 ≡ c → eqb b 41 ≡ d → chosen c d left ≡ Some (more, rest) → b ∷ left ≡ delimiter more ∷ rest
    delimited b left true d c_is d_is e = let parts =
        some_pair_parts true more left rest e in ap₂ (λ (x : ℕ) (xs : List ℕ). x ∷ xs) (eqb-true b 44 c_is ∙ ap delimiter parts.0) parts.1
    delimited b left false true c_is d_is e = let parts =
        some_pair_parts false more left rest e in ap₂ (λ (x : ℕ) (xs : List ℕ). x ∷ xs) (eqb-true b 41 d_is ∙ ap delimiter parts.0) parts.1
    delimited b left false false c_is d_is e = absurd cc
