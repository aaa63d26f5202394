-- Reading children one after another, as a loop does.
use Rattle.std.proofs.Common.{◌≡◌, ℕ, zero, suc, ◌-◌, ◌+◌, ◌≤◌, ◌<◌, Bool, true, false, cond, List, [], ◌∷◌, ◌++◌, length, Option, Some, None, refl, sym, ap}
use Rattle.std.proofs.Common.{subst, ◌∙◌, append_assoc, arith}
use Rattle.std.proofs.lemmas.Option.{some_pair_parts}
use Rattle.grammar.specs.Reading.{◌>>=◌}
use Rattle.grammar.specs.Laws.Steps.{bind_some}
use Rattle.policy_language.specs.Reading.{after_spaces, before, comma_at, children_at}
use Rattle.policy_language.specs.declared.policy.Policy.{Policy}
use Rattle.policy_language.specs.declared.fault.PolicyFault.{PolicyFault}
use Rattle.policy_language.specs.declared.fault.PolicyFault.TheVariants.{Memory, Syntax, UnknownOrganisation, Threshold, TooDeep}
use Rattle.policy_language.specs.Faults.{Fails}

-- what was read before, and what is still read
abbrev pub with_front : List Policy → Option (List Policy × List ℕ) → Option (List Policy × List ℕ)
with_front front read = read >>= λ x. Some (front ++ x.0, x.1)

pub Fails-weaker : (e : PolicyFault) (P Q : Type 0) → (P → Q) → Fails e P → Fails e Q
Fails-weaker Memory P Q f h = tt
Fails-weaker (Syntax o) P Q f h = f h
Fails-weaker UnknownOrganisation P Q f h = f h
Fails-weaker Threshold P Q f h = f h
Fails-weaker TooDeep P Q f h = f h

regroup : (front : List Policy) (p : Policy) (read : Option (List Policy × List ℕ)) →
    with_front front (read >>= λ x. Some (p ∷ x.0, x.1)) ≡ with_front (front ++ p ∷ []) read
regroup front p (Some x) = ap (λ (ps : List Policy). Some (ps, x.1)) (simp append_assoc)
regroup front p None = refl

pub nothing_before : (read : Option (List Policy × List ℕ)) → with_front [] read ≡ read
nothing_before (Some x) = refl
nothing_before None = refl

module _ (read : List ℕ → Option (Policy × List ℕ)) (front : List Policy) (i : ℕ) (bytes : List ℕ) (total : Option (List Policy × List ℕ)) (lt : i < 1024)
    (so_far : with_front front (children_at read (1024 - i) bytes) ≡ total) where
  one : 1024 - i ≡ suc (1024 - (i + 1))
  one = omega arith

  pub goes_on : (p : Policy) (middle after : List ℕ) → read (after_spaces bytes) ≡ Some (p, middle) → comma_at middle ≡ Some (true, after) →
      with_front (front ++ p ∷ []) (children_at read (1024 - (i + 1)) after) ≡ total
  unfolding children_at
  goes_on p middle after first more =
      let e : with_front front (children_at read (1024 - i) bytes) ≡ with_front (front ++ p ∷ []) (children_at read (1024 - (i + 1)) after) =
      rw (one, first, more) (regroup front p (children_at read (1024 - (i + 1)) after)) in
      sym e ∙ so_far

  pub ends : (p : Policy) (middle after : List ℕ) → read (after_spaces bytes) ≡ Some (p, middle) → comma_at middle ≡ Some (false, after) →
      total ≡ Some (front ++ p ∷ [], after)
  unfolding children_at
  ends p middle after first more =
      let e : with_front front (children_at read (1024 - i) bytes) ≡ Some (front ++ p ∷ [], after) = rw (one, first, more) refl in
      sym so_far ∙ e

  pub refused : read (after_spaces bytes) ≡ None → total ≡ None
  unfolding children_at
  refused first =
      let e : with_front front (children_at read (1024 - i) bytes) ≡ None = rw (one, first) refl in
      sym so_far ∙ e

  pub broken : (p : Policy) (middle : List ℕ) → read (after_spaces bytes) ≡ Some (p, middle) → comma_at middle ≡ None → total ≡ None
  unfolding children_at
  broken p middle first more =
      let e : with_front front (children_at read (1024 - i) bytes) ≡ None = rw (one, first, more) refl in
      sym so_far ∙ e

pub too_many : (read : List ℕ → Option (Policy × List ℕ)) (front : List Policy) (i : ℕ) (bytes : List ℕ) (total : Option (List Policy × List ℕ)) → 1024 ≤ i →
    with_front front (children_at read (1024 - i) bytes) ≡ total → total ≡ None
unfolding children_at
too_many read front i bytes total le so_far =
    let none : 1024 - i ≡ 0 = omega arith in
    let e : with_front front (children_at read (1024 - i) bytes) ≡ None = rw none refl in
    sym so_far ∙ e

pub fails_of : (e : PolicyFault) (P : Type 0) → P → Fails e P
fails_of Memory P h = tt
fails_of (Syntax o) P h = h
fails_of UnknownOrganisation P h = h
fails_of Threshold P h = h
fails_of TooDeep P h = h

-- what begins with a child is not empty
not_empty : (p : Policy) (others : Option (List Policy × List ℕ)) (ps : List Policy) (rest : List ℕ) → before p others ≡ Some (ps, rest) → 1 ≤ length ps
not_empty p (Some qs) ps rest e = subst (λ (all : List Policy). 1 ≤ length all) (some_pair_parts (p ∷ qs.0) ps qs.1 rest e).0 (omega arith)
not_empty p None ps rest e = absurd cc

-- where children are read, there is one or more
pub some_child : (read : List ℕ → Option (Policy × List ℕ)) (n : ℕ) (bytes rest : List ℕ) (ps : List Policy) → children_at read n bytes ≡ Some (ps, rest) →
    1 ≤ length ps
unfolding children_at
some_child read zero bytes rest ps e = absurd cc
some_child read (suc n) bytes rest ps e =
    let others = λ (c : Bool × List ℕ). cond c.0 (children_at read n c.1) (Some ([], c.1)) in
    let p = bind_some (read (after_spaces bytes)) (λ p. comma_at p.1 >>= λ c. before p.0 (others c)) (ps, rest) e in
    let c = bind_some (comma_at p.0.1) (λ c. before p.0.0 (others c)) (ps, rest) p.2 in
    not_empty p.0.0 (others c.0) ps rest c.2
