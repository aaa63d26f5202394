-- What is known of the tags on records that come one after another.
use Rattle.std.proofs.Common.{◌≡◌, ℕ, ◌≤◌, List, [], ◌∷◌, ◌++◌, length, map, take, drop, Option, Some, None, Bor, IfSome, option_map, subst, sym, ap, ◌∙◌}
use Rattle.std.specs.Option.{MatchOption, option_to_list}
use Rattle.std.specs.Global.{Vec}
use Rattle.std.proofs.lemmas.List.{append-nil, drop_all, take-append-drop}
use Rattle.fab_types.specs.Committed.{Committed}
use Rattle.org_keys.specs.declared.organisation.Organisation.{Organisation}
use Rattle.policy_language.specs.GoodSets.{Names}
use Rattle.store_replay.specs.Tags.{AreRightTags, right_in_record}
use Rattle.store_replay.proofs.Going.{none_left}

-- where none is left, all were looked at
pub all_of : {A B C : Type 0} (g : B → C) (f : A → C) (done : List B) (xs : List A) (i : ℕ) → length xs ≤ i → map g done ++ map f (drop i xs) ≡ map f xs →
    map g done ≡ map f xs
all_of g f done xs i over so_far = sym (append-nil (map g done)) ∙ ap (λ l. map g done ++ map f l) (sym (drop_all i xs over)) ∙ so_far

-- what was found of all records
pub are_right : (orgs : List Organisation) (vs : List (Vec Names)) (cs : List Committed) → map (λ (v : Vec Names). v.items) vs ≡ map (right_in_record orgs) cs →
    AreRightTags orgs vs cs
are_right orgs [] cs same = tt
are_right orgs (v ∷ vs) [] same = cc
are_right orgs (v ∷ vs) (c ∷ cs) same = (cc, are_right orgs vs cs (cc))

-- what was found of those in front is known of all
in_front : (orgs : List Organisation) (vs : List (Vec Names)) (front back : List Committed) → AreRightTags orgs vs front → AreRightTags orgs vs (front ++ back)
in_front orgs [] front back known = tt
in_front orgs (v ∷ vs) [] back known = absurd known
in_front orgs (v ∷ vs) (c ∷ front) back known = (known.0, in_front orgs vs front back known.1)

pub of_front : (orgs : List Organisation) (vs : List (Vec Names)) (front back cs : List Committed) → AreRightTags orgs vs front → front ++ back ≡ cs →
    AreRightTags orgs vs cs
of_front orgs vs front back cs known split = subst (AreRightTags orgs vs) split (in_front orgs vs front back known)

pub of_taken : (orgs : List Organisation) (vs : List (Vec Names)) (n : ℕ) (front cs : List Committed) → front ≡ take n cs →
    map (λ (v : Vec Names). v.items) vs ≡ map (right_in_record orgs) front → AreRightTags orgs vs cs
of_taken orgs vs n front cs taken found =
    of_front orgs vs (take n cs) (drop n cs) cs
    (are_right orgs vs (take n cs) (found ∙ ap (λ (x : List Committed). map (right_in_record orgs) x) taken)) (take-append-drop n cs)

-- nothing is known of them
pub of_none : (orgs : List Organisation) (vs : List (Vec Names)) (cs : List Committed) → vs ≡ [] → AreRightTags orgs vs cs
of_none orgs vs cs none = subst (λ (x : List (Vec Names)). AreRightTags orgs x cs) (sym none) tt

-- of the next record it is the next
module _ (orgs : List Organisation) (vs next : List (Vec Names)) (c : Committed) (cs left : List Committed) (here : AreRightTags orgs vs cs)
    (steps : cs ≡ c ∷ left) where
  at_next : AreRightTags orgs vs (c ∷ left)
  at_next = subst (AreRightTags orgs vs) steps here

  pub of_next : (found : Option (Vec Names)) → vs ≡ option_to_list found ++ next → IfSome found (λ v. v.items ≡ right_in_record orgs c)
  of_next None split = tt
  of_next (Some v) split = (subst (λ (x : List (Vec Names)). AreRightTags orgs x (c ∷ left)) split at_next).0

  pub of_rest : (n : ℕ) (Q : Type 0) (P : Vec Names → Type 0) (found : Option (Vec Names)) → vs ≡ option_to_list found ++ next → n ≡ length next →
      MatchOption found (Q × (n ≡ 0)) P → AreRightTags orgs next left
  of_rest n Q P None split count over = subst (λ (x : List (Vec Names)). AreRightTags orgs x left) (sym (none_left next n count over.1)) tt
  of_rest n Q P (Some v) split count over = (subst (λ (x : List (Vec Names)). AreRightTags orgs x (c ∷ left)) split at_next).1

-- and what is lent of it
pub of_lent : (orgs : List Organisation) (c : Committed) (found : Option (Vec Names)) (lent : Option (Bor (List Names))) →
    IfSome found (λ v. v.items ≡ right_in_record orgs c) → option_map (λ (s : Bor (List Names)). s.now) lent ≡ option_map (λ (v : Vec Names). v.items) found →
    IfSome lent (λ s. s.now ≡ right_in_record orgs c)
of_lent orgs c found None is same = tt
of_lent orgs c None (Some s) is same = cc
of_lent orgs c (Some v) (Some s) is same = let shown : s.now ≡ v.items = cc in shown ∙ is
