-- Each name of a policy stands in the text that spells it.
use Rattle.std.proofs.Common.{◌≡◌, ℕ, Bool, true, false, cond, eqb, List, [], ◌∷◌, ◌++◌, length, Option, Some, None, refl, sym, ap, subst, ◌∙◌, append_assoc}
use Rattle.std.specs.Prelude.{nat_eq}
use Rattle.std.specs.Cmp.Lexicographic.{pointwise}
use Rattle.std.proofs.Math.Bool.{or-true}
use Rattle.std.proofs.lemmas.Bool.{le-leb}
use Rattle.std.proofs.lemmas.List.{append-nil}
use Rattle.std.proofs.lemmas.Slice.Eq.{bytes_eq-Decides}
use Rattle.fab_types.specs.Limits.{is_org_name_byte}
use Rattle.grammar.specs.Spelling.{IsByte}
use Rattle.policy_language.specs.Tree.{Policies, End, Org, Of}
use Rattle.policy_language.specs.View.{alone}
use Rattle.policy_language.specs.GoodSets.{Name, Names, is_among}
use Rattle.policy_language.specs.Spelling.{◌⋯◌, IsLeaf, IsOpening, IsBefore, IsEach}
use Rattle.policy_language.specs.Limits.{IsText, HasKnown}
use Rattle.policy_language.specs.Names.{name_in_front, names_in_text, with_name}
use Rattle.policy_language.specs.declared.policy.Policy.{Policy}
use Rattle.policy_language.proofs.Fronts.{front_taken}

-- ---- names in texts

more_names : (o : Option Name) (names : Names) (name : Name) → is_among names name ≡ true → is_among (with_name o names) name ≡ true
more_names None names name h = h
more_names (Some other) names name h = rw h (or-true (pointwise nat_eq other name))

behind_one : (b : ℕ) (text : List ℕ) (name : Name) → is_among (names_in_text text) name ≡ true → is_among (names_in_text (b ∷ text)) name ≡ true
behind_one b text name h = by_quote (eqb b 39)
  where
    by_quote : (q : Bool) → is_among (cond q (with_name (name_in_front text) (names_in_text text)) (names_in_text text)) name ≡ true
    by_quote true = more_names (name_in_front text) (names_in_text text) name h
    by_quote false = h

-- what stands in a text stands in it behind others
behind : (front text : List ℕ) (name : Name) → is_among (names_in_text text) name ≡ true → is_among (names_in_text (front ++ text)) name ≡ true
behind [] text name h = h
behind (b ∷ front) text name h = behind_one b (front ++ text) name (behind front text name h)

leaf_named : (name text rest : List ℕ) → IsLeaf name text → is_among (names_in_text (text ++ rest)) name ≡ true
leaf_named name text rest h =
    let front : text ++ rest ≡ 39 ∷ (name ++ 39 ∷ rest) =
    ap (λ (x : List ℕ). x ++ rest) h.1 ∙ ap (λ (x : List ℕ). 39 ∷ x) (append_assoc name (39 ∷ []) rest) in
    let itself : pointwise nat_eq name name ≡ true = (bytes_eq-Decides name name).1 refl in
    rw (front, front_taken is_org_name_byte name 39 rest h.0.2 refl, le-leb 1 (length name) h.0.0, le-leb (length name) 32 h.0.1, h.0.2, itself) refl

-- ---- policies

-- each name that stands in the text is one of these
abbrev Covers : Names → List ℕ → Type 0
Covers names text = (name : Name) → is_among (names_in_text text) name ≡ true → is_among names name ≡ true

back_covered : (names : Names) (front back text : List ℕ) → text ≡ front ++ back → Covers names text → Covers names back
back_covered names front back text e covers = λ name h. covers name (rw e (behind front back name h))

-- the first policy, before whatever follows
first_of : (IsFirst : List ℕ → Type 0) (after : Policies) (text rest : List ℕ) → IsBefore IsFirst after (IsEach after) text →
    (front back : List ℕ) × IsFirst front × (text ++ rest ≡ front ++ back)
first_of IsFirst End text rest h = (text, rest, h, refl)
first_of IsFirst (Org name after) text rest h = (h.0, h.1 ++ rest, h.2, rw h.4 (append_assoc h.0 h.1 rest))
first_of IsFirst (Of rule children after) text rest h = (h.0, h.1 ++ rest, h.2, rw h.4 (append_assoc h.0 h.1 rest))

behind_comma : (P Q : List ℕ → Type 0) (text rest : List ℕ) → (P ⋯ IsByte 44 ⋯ Q) text → (front back : List ℕ) × Q back × (text ++ rest ≡ front ++ (back ++ rest))
behind_comma P Q text rest h =
    let u = h.3.3 in (h.0 ++ (h.3.0 ++ (u.0 ++ u.3.0)), u.3.1, u.3.3, rw (h.4, h.3.4, u.4, u.3.4) (simp append_assoc))

-- what is known of the policies behind the first
after_known : (names : Names) (IsFirst : List ℕ → Type 0) (after : Policies) (text rest : List ℕ) → IsBefore IsFirst after (IsEach after) text →
    Covers names (text ++ rest) → ((back : List ℕ) → IsEach after back → Covers names (back ++ rest) → HasKnown names after) → HasKnown names after
after_known names IsFirst End text rest h covers known = tt
after_known names IsFirst (Org name after) text rest h covers known =
    let s = behind_comma IsFirst (IsEach (Org name after)) text rest h in
    known s.1 s.2 (back_covered names s.0 (s.1 ++ rest) (text ++ rest) s.3 covers)
after_known names IsFirst (Of rule children after) text rest h covers known =
    let s = behind_comma IsFirst (IsEach (Of rule children after)) text rest h in
    known s.1 s.2 (back_covered names s.0 (s.1 ++ rest) (text ++ rest) s.3 covers)

each_known : (names : Names) (ps : Policies) (text rest : List ℕ) → IsEach ps text → Covers names (text ++ rest) → HasKnown names ps
each_known names End text rest h covers = absurd h
each_known names (Org name after) text rest h covers =
    let f = first_of (IsLeaf name) after text rest h in (
      covers name (rw f.3 (leaf_named name f.0 f.1 f.2)),
      after_known names (IsLeaf name) after text rest h covers (λ back each more. each_known names after back rest each more),
    )
each_known names (Of rule children after) text rest h covers =
    let f = first_of (IsOpening rule ⋯ IsEach children ⋯ IsByte 41) after text rest h in
    let o = f.2 in
    let u = o.3.3 in
    let inside : f.0 ++ f.1 ≡ (o.0 ++ o.3.0) ++ (u.0 ++ (u.1 ++ f.1)) = rw (o.4, o.3.4, u.4) (simp append_assoc) in (
      each_known names children u.0 (u.1 ++ f.1) u.2
          (back_covered names (o.0 ++ o.3.0) (u.0 ++ (u.1 ++ f.1)) (text ++ rest) (f.3 ∙ inside) covers),
      after_known names (IsOpening rule ⋯ IsEach children ⋯ IsByte 41) after text rest h covers (λ back each more. each_known names after back rest each more),
    )

pub own_names : (orgs : Names) (p : Policy) (text : List ℕ) → IsText orgs p text → IsText (names_in_text text) p text
own_names orgs p text h =
    let covers : Covers (names_in_text text) (text ++ []) = subst (Covers (names_in_text text)) (sym (append-nil text)) (λ name m. m) in
    record {
      spelled = h.spelled;
      length = h.length;
      organisations = each_known (names_in_text text) (alone p) text [] h.spelled covers;
      thresholds = h.thresholds;
      depth = h.depth;
    }
