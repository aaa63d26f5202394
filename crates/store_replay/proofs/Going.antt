-- How a replay goes on, and how it stops.
use Rattle.std.proofs.Common.{◌≡◌, ◌≢◌, arith, ℕ, ◌+◌, ◌++◌, Bool, true, false, inl, inr, Option, Some, None, Result, Ok, Err, OnOk, List, [], ◌∷◌, length, refl, sym, ap, subst, ◌∙◌}
use Rattle.fab_types.specs.Committed.{Committed}
use Rattle.ledger_model.specs.Chain.{Chain}
use Rattle.ledger_model.specs.Judged.{BlockRule}
use Rattle.committer.specs.declared.refusal.CommitRefusal.{CommitRefusal}
use Rattle.ledger_setting.specs.Judging.{next_by}
use Rattle.store_replay.specs.Replay.{IsUnfit, first_of, earlier, IsPushed, Replays}
use Rattle.store_replay.proofs.Pushed.{one_more}

earlier_none : (d : Option ℕ) → earlier d None ≡ d
earlier_none None = refl
earlier_none (Some n) = refl

earlier_first : (is_same : Bool) (n : ℕ) (found later : Option ℕ) → earlier (first_of is_same n found) later ≡ first_of is_same n (earlier found later)
earlier_first true n found later = refl
earlier_first false n found later = refl

-- records that all fit, and more behind them
joined : (rule : BlockRule) (start : Chain) (cs more : List Committed) (chain last : Chain) (d later : Option ℕ) (refused : Option CommitRefusal) →
    Replays rule start cs chain d None → Replays rule chain more last later refused → Replays rule start (cs ++ more) last (earlier d later) refused
joined rule start [] more chain last d later refused h k =
    subst (λ (x : Option ℕ). Replays rule start more last (earlier x later) refused) (sym h.1)
    (subst (λ (s : Chain). Replays rule s more last later refused) h.0 k)
joined rule start (c ∷ cs) more chain last d later refused (inl h) k =
    let rest = joined rule (start ++ next_by rule start c.block ∷ []) cs more chain last h.1.1 later refused h.1.4 k in
    let first = ap (λ (x : Option ℕ). earlier x later) h.1.3 in
    inl (h.0, (h.1.0, earlier h.1.1 later, h.1.2, first ∙ earlier_first h.1.0 (length start + 1) h.1.1 later, rest))
joined rule start (c ∷ cs) more chain last d later refused (inr h) k = let wrong : None ≡ Some h.0 = h.2 in cc

-- one that fits
pub one_pushed : (rule : BlockRule) (cs : List Committed) (chain last : Chain) (d : Option ℕ) (c : Committed) (is_same : Bool) →
    Replays rule [] cs chain d None → IsPushed rule chain c is_same last →
    Replays rule [] (cs ++ c ∷ []) last (earlier d (first_of is_same (length last) None)) None
one_pushed rule cs chain last d c is_same h is =
    let n = length chain + 1 in
    let step : Replays rule chain (c ∷ []) last (first_of is_same n None) None = inl (is.fits, (is_same, None, is.flags, refl, (is.grown, refl, refl))) in
    subst (λ (m : ℕ). Replays rule [] (cs ++ c ∷ []) last (earlier d (first_of is_same m None)) None) (sym (one_more rule chain c is_same last is))
    (joined rule [] cs (c ∷ []) chain last d (first_of is_same n None) None h step)

-- one that does not
pub one_unfit : (rule : BlockRule) (cs : List Committed) (chain last : Chain) (d : Option ℕ) (c : Committed) (cause : CommitRefusal) →
    Replays rule [] cs chain d None → IsUnfit chain c cause → last ≡ chain → Replays rule [] (cs ++ c ∷ []) last d (Some cause)
one_unfit rule cs chain last d c cause h unfit same =
    let step : Replays rule chain (c ∷ []) last None (Some cause) = inr (cause, unfit, refl, same, refl) in
    subst (λ (x : Option ℕ). Replays rule [] (cs ++ c ∷ []) last x (Some cause)) (earlier_none d)
    (joined rule [] cs (c ∷ []) chain last d None (Some cause) h step)

stopped : (rule : BlockRule) (start : Chain) (cs more : List Committed) (last : Chain) (d : Option ℕ) (cause : CommitRefusal) →
    Replays rule start cs last d (Some cause) → Replays rule start (cs ++ more) last d (Some cause)
stopped rule start [] more last d cause h = let wrong : Some cause ≡ None = h.2 in cc
stopped rule start (c ∷ cs) more last d cause (inl h) =
    inl (h.0, (h.1.0, h.1.1, h.1.2, h.1.3, stopped rule (start ++ next_by rule start c.block ∷ []) cs more last h.1.1 cause h.1.4))
stopped rule start (c ∷ cs) more last d cause (inr h) = inr h

-- one did not fit before more of them came
pub stopped_before : (rule : BlockRule) (cs more : List Committed) (last : Chain) (d : Option ℕ) (refused : Option CommitRefusal) → refused ≢ None →
    Replays rule [] cs last d refused → Replays rule [] (cs ++ more) last d refused
stopped_before rule cs more last d None some h = absurd (some refl)
stopped_before rule cs more last d (Some cause) some h = stopped rule [] cs more last d cause h

-- none are left
pub none_left : {X : Type 0} (xs : List X) (n : ℕ) → n ≡ length xs → n ≡ 0 → xs ≡ []
none_left [] n h e = refl
none_left (x ∷ xs) n h e = let wrong : ⊥ = omega (arith, h, e) in absurd wrong

-- what is so whatever came of a call
pub anyway : {A E : Type 0} (r : Result A E) (P : Type 0) → P → OnOk r P
anyway (Ok x) P is = is
anyway (Err e) P is = tt
