-- Each move keeps the rule of the mail.
use Rattle.std.specs.List.{All as Each}
use Rattle.std.proofs.Common.{◌≡◌, ◌≢◌, ◌⊎◌, ℕ, zero, suc, ◌<◌, ◌≤◌, ◌+◌, ◌==◌, Bool, true, false, true≢false, List, [], ◌∷◌, ◌++◌, length, set, sym, refl, ap}
use Rattle.std.proofs.Common.{◌∙◌, subst, inl, inr, ⊎_elim, append_assoc, eq-eqb, ne_eqb, lt_of_not-le, le_refl, arith, slice_get, Some}
use Rattle.std.specs.Prelude.{if◌then◌else◌}
use Rattle.std.proofs.lemmas.List.{append-nil}
use mathlib.Core.Option.{Option, some, none, some-ne-none, some-injective}
use lib.ListN.{get_elem?}
use Rattle.crossbeam_queue.specs.Fifo.{Pushes, Pops, Forks, Merges, Learns, Held}
use Rattle.crossbeam_queue.proofs.Lists.{at_set}
use Rattle.fab_types.specs.declared.envelope.Envelope.{Envelope}
use Rattle.intake.specs.declared.rule.Parcel.{Parcel}
use Rattle.intake.specs.declared.rule.View.{View}
use Rattle.intake.specs.Mail.{of, receiver, sender, idle, FitsSender, FitsReceiver, Delivers, HoldsMine, HoldsRest, NoneMissing}

pub at_new : {A : Type 0} (l : List A) (a b : A) (j : ℕ) → get_elem? (l ++ a ∷ []) j ≡ some b → (get_elem? l j ≡ some b) ⊎ ((j ≡ length l) × (a ≡ b))
at_new [] a b zero e = inr (refl, some-injective a b e)
at_new [] a b (suc j) e = absurd (some-ne-none b (sym e))
at_new (x ∷ xs) a b zero e = inl e
at_new (x ∷ xs) a b (suc j) e = ⊎_elim (λ h. inl h) (λ h. inr (ap suc h.0, h.1)) (at_new xs a b j e)

pick : (b : Bool) (e : Envelope) (l m n : List Envelope) → l ≡ m ++ n → (if b then e ∷ l else l) ≡ (if b then e ∷ m else m) ++ n
pick true e l m n h = ap (λ z. e ∷ z) h
pick false e l m n h = h

pub of-append : (p : ℕ) (xs ys : List Parcel) → of p (xs ++ ys) ≡ of p xs ++ of p ys
of-append p [] ys = refl
of-append p (x ∷ xs) ys = pick (p == x.from) x.envelope _ _ _ (of-append p xs ys)

joined : (b : Bool) (l : List Envelope) (e : Envelope) → l ++ (if b then e ∷ [] else []) ≡ (if b then l ++ e ∷ [] else l)
joined true l e = refl
joined false l e = append-nil l

front_empty : {A : Type 0} (xs ys : List A) → xs ++ ys ≡ [] → xs ≡ []
front_empty [] ys e = refl
front_empty (x ∷ xs) ys e = absurd cc

back_empty : {A : Type 0} (xs ys : List A) → xs ++ ys ≡ [] → ys ≡ []
back_empty [] ys e = e
back_empty (x ∷ xs) ys e = absurd cc

-- what is sent, once q has sent e too
abbrev bump : (ℕ → List Envelope) → ℕ → Envelope → ℕ → List Envelope
bump sent q e p = if p == q then sent p ++ e ∷ [] else sent p

-- the function f, with y at q
abbrev put_at : {B : Type 0} → (ℕ → B) → ℕ → B → ℕ → B
put_at f q y p = if p == q then y else f p

bump_here : (sent : ℕ → List Envelope) (q : ℕ) (e : Envelope) → bump sent q e q ≡ sent q ++ e ∷ []
bump_here sent q e = ap (λ (b : Bool). if b then sent q ++ e ∷ [] else sent q) (eq-eqb q q refl)

bump_else : (sent : ℕ → List Envelope) (q : ℕ) (e : Envelope) (p : ℕ) → p ≢ q → bump sent q e p ≡ sent p
bump_else sent q e p n = ap (λ (b : Bool). if b then sent p ++ e ∷ [] else sent p) (ne_eqb p q n)

put_here : {B : Type 0} (f : ℕ → B) (q : ℕ) (y : B) → put_at f q y q ≡ y
put_here f q y = ap (λ (b : Bool). if b then y else f q) (eq-eqb q q refl)

put_else : {B : Type 0} (f : ℕ → B) (q : ℕ) (y : B) (p : ℕ) → p ≢ q → put_at f q y p ≡ f p
put_else f q y p n = ap (λ (b : Bool). if b then y else f p) (ne_eqb p q n)

vacant : (b : Bool) (o : Option ℕ) → o ≡ none → (if b then none else o) ≡ none
vacant true o e = refl
vacant false o e = e

abbrev Fits : (reader senders : ℕ) → (ℕ → Option ℕ) → (ℕ → List Envelope) → List Parcel → ℕ → View → Type 0
Fits reader senders seat sent got pass v = FitsSender senders seat sent pass v × FitsReceiver reader senders seat sent got pass v

abbrev All : (ℕ → View → Type 0) → List View → Type 0
All F views = (port : ℕ) (v : View) → get_elem? views port ≡ some v → F port v

all_set : (F : ℕ → View → Type 0) (views : List View) (port : ℕ) (w : View) → F port w → ((j : ℕ) (u : View) → j ≢ port → get_elem? views j ≡ some u → F j u) →
    All F (set views port w)
all_set F views port w mine others j u e = ⊎_elim (λ (x : (j ≡ port) × (w ≡ u)). subst (λ (y : ℕ × View). F y.0 y.1) (λ i. (sym x.0 i, x.1 i)) mine)
    (λ (x : (j ≢ port) × (get_elem? views j ≡ some u)). others j u x.0 x.1) (at_set views port j w u e)

-- two numbers with seats of their own are two
apart : (seat : ℕ → Option ℕ) (p q i j : ℕ) → seat p ≡ some i → seat q ≡ some j → i ≢ j → p ≢ q
apart seat p q i j a b n e = n (some-injective i j (sym a ∙ (ap seat e ∙ b)))

free : (seat : ℕ → Option ℕ) (p q i : ℕ) → seat p ≡ none → seat q ≡ some i → p ≢ q
free seat p q i a b e = some-ne-none i (sym b ∙ (ap seat (sym e) ∙ a))

pub begins : Delivers [] (receiver 0 0 [] [] ∷ [])
begins =
    let r : View = receiver 0 0 [] [] in let F : ℕ → View → Type 0 = Fits 0 0 (λ _. none) (λ _. []) [] in (
      0,
      0,
      (λ _. none),
      (λ _. []),
      [],
      (λ p. refl),
      (λ p _. (refl, refl)),
      λ j v e. ⊎_elim (λ (x : get_elem? [] j ≡ some v). absurd (some-ne-none v (sym x)))
          (λ (x : (j ≡ 0) × (r ≡ v)).
          subst (λ (y : View). F j y) x.1
          ((λ s. absurd (true≢false (sym s))), λ _. (x.0, refl, refl, (λ p _. (refl, refl)), λ k p all at. absurd (some-ne-none (p, all) (sym at)))))
          (at_new [] r v j e),
    )

pub submits : (n pass : ℕ) (v : View) (x : Parcel) → v.sends ≡ true → x.from ≡ v.from →
    Pushes Delivers n pass v x (λ w. w ≡ sender v.senders v.from (v.put ++ x.envelope ∷ []))
submits n pass v x may is items views _ h at =
    let w : View = sender v.senders v.from (v.put ++ x.envelope ∷ []) in let mine = (h.7 pass v at).0 may in let sent = bump h.3 v.from x.envelope in
    let else_same : (p : ℕ) → h.2 p ≡ none → sent p ≡ h.3 p = λ p e. bump_else h.3 v.from x.envelope p (free h.2 p v.from pass e mine.1) in (
      w,
      (
        h.0,
        h.1,
        h.2,
        sent,
        h.4,
        (λ p. ap (of p) (sym (append_assoc h.4 items (x ∷ []))) ∙ (of-append p (h.4 ++ items) (x ∷ []) ∙ (ap (λ l. l ++ of p (x ∷ [])) (h.5 p)
            ∙ (ap (λ (k : ℕ). h.3 p ++ (if p == k then x.envelope ∷ [] else [])) is ∙ joined (p == v.from) (h.3 p) x.envelope)))),
        (λ p le. let t = h.6 p le in (t.0, else_same p t.0 ∙ t.1)),
        all_set (Fits h.0 h.1 h.2 sent h.4) views pass w
            ((λ _. (mine.0, mine.1, ap (λ l. l ++ x.envelope ∷ []) mine.2 ∙ sym (bump_here h.3 v.from x.envelope))), λ g. absurd (true≢false (sym g)))
            (λ j u other e. let old = h.7 j u e in (
              (λ s. let o = old.0 s in (o.0, o.1, o.2 ∙ sym (bump_else h.3 v.from x.envelope u.from (apart h.2 u.from v.from j pass o.1 mine.1 other)))),
              λ g. let o = old.1 g in (
                o.0,
                o.1,
                o.2,
                (λ p le. let t = o.3 p le in (t.0, else_same p t.0 ∙ t.1)),
                λ k p all k_at. let t = o.4 k p all k_at in (t.0, t.1, t.2 ∙ sym (else_same p t.1)),
              ),
            )),
      ),
      refl,
    )

pub takes : (pass : ℕ) (v : View) → v.gets ≡ true → Pops Delivers pass v (λ x w. w ≡ receiver v.senders v.made (v.got ++ x ∷ []) v.known)
takes pass v may x items views h at = let w : View = receiver v.senders v.made (v.got ++ x ∷ []) v.known in let mine = (h.7 pass v at).1 may in let got =
    h.4 ++ x ∷ [] in (
      w,
      (
        h.0,
        h.1,
        h.2,
        h.3,
        got,
        (λ p. ap (of p) (append_assoc h.4 (x ∷ []) items) ∙ h.5 p),
        h.6,
        all_set (Fits h.0 h.1 h.2 h.3 got) views pass w
            ((λ s. absurd (true≢false (sym s))), λ _. (mine.0, mine.1, ap (λ l. l ++ x ∷ []) mine.2, mine.3, mine.4))
            (λ j u other e. ((h.7 j u e).0, λ g. absurd (other (((h.7 j u e).1 g).0 ∙ sym mine.0)))),
      ),
      refl,
    )

-- before any seat is made, one sender more is counted
pub counts : (pass : ℕ) (v : View) → v.gets ≡ true → v.made ≡ 0 → Forks Delivers pass v (receiver (v.senders + 1) v.made v.got v.known) idle
counts pass v may new items views h at =
    let l : View = receiver (v.senders + 1) v.made v.got v.known in let mine = (h.7 pass v at).1 may in let vs : List View = set views pass l in
    let F : ℕ → View → Type 0 = Fits h.0 (h.1 + 1) h.2 h.3 h.4 in
    let none_made : (p : ℕ) → h.2 p ≡ none = λ p. (mine.3 p (omega arith)).0 in
    let old : All F vs = all_set F views pass l ((λ s. absurd (true≢false (sym s))), λ _. (mine.0, ap (λ (k : ℕ). k + 1) mine.1, mine.2, mine.3, mine.4))
    (λ j u other e. (
      (λ s. absurd (some-ne-none j (sym ((h.7 j u e).0 s).1 ∙ none_made u.from))),
      λ g. absurd (other (((h.7 j u e).1 g).0 ∙ sym mine.0)),
    )) in (
      h.0,
      h.1 + 1,
      h.2,
      h.3,
      h.4,
      h.5,
      (λ p le. h.6 p (omega arith)),
      λ j u e. ⊎_elim (λ (x : get_elem? vs j ≡ some u). old j u x)
          (λ (x : (j ≡ length vs) × (idle ≡ u)). subst (λ (y : View). F j y) x.1 ((λ s. absurd (true≢false (sym s))), λ g. absurd (true≢false (sym g))))
          (at_new vs idle u j e),
    )

pub hires : (pass : ℕ) (v : View) → v.gets ≡ true → v.made < v.senders
    → Forks Delivers pass v (receiver v.senders (v.made + 1) v.got v.known) (sender v.senders v.made [])
hires pass v may room items views h at =
    let l : View = receiver v.senders (v.made + 1) v.got v.known in let r : View = sender v.senders v.made [] in let mine =
    (h.7 pass v at).1 may in let vs : List View = set views pass l in
    let new = mine.3 v.made (le_refl v.made) in
    let within : v.made < h.1 = omega (arith, mine.1) in
    let seat : ℕ → Option ℕ = put_at h.2 v.made (some (length vs)) in
    let same : (p : ℕ) → p ≢ v.made → seat p ≡ h.2 p = put_else h.2 v.made (some (length vs)) in
    let F : ℕ → View → Type 0 = Fits h.0 h.1 seat h.3 h.4 in
    let old : All F vs = all_set F views pass l (
      (λ s. absurd (true≢false (sym s))),
      λ _. (
        mine.0,
        mine.1,
        mine.2,
        (λ p le. let t = mine.3 p (omega arith) in (same p (λ e. omega arith) ∙ t.0, t.1)),
        λ k p all k_at. let t = mine.4 k p all k_at in (omega (arith, t.0), same p (λ e. omega (arith, t.0)) ∙ t.1, t.2),
      ),
    )
    (λ j u other e. (
      (λ s. let o = (h.7 j u e).0 s in (o.0, same u.from (λ is. free h.2 v.made u.from j new.0 o.1 (sym is)) ∙ o.1, o.2)),
      λ g. absurd (other (((h.7 j u e).1 g).0 ∙ sym mine.0)),
    )) in (
      h.0,
      h.1,
      seat,
      h.3,
      h.4,
      h.5,
      (λ p le. let t = h.6 p le in (same p (λ e. omega (arith, within)) ∙ t.0, t.1)),
      λ j u e. ⊎_elim (λ (x : get_elem? vs j ≡ some u). old j u x)
          (λ (x : (j ≡ length vs) × (r ≡ u)).
          subst (λ (y : View). F j y) x.1
          ((λ _. (mine.1, put_here h.2 v.made (some (length vs)) ∙ ap some (sym x.0), sym new.1)), λ g. absurd (true≢false (sym g))))
          (at_new vs r u j e),
    )

below_made : (seat : ℕ → Option ℕ) (made p i : ℕ) → ((q : ℕ) → made ≤ q → seat q ≡ none) → seat p ≡ some i → p < made
below_made seat made p i none_there at = lt_of_not-le (λ le. some-ne-none i (sym at ∙ none_there p le))

pub retires : (pass : ℕ) (v : View) (other : ℕ) (u : View) → v.gets ≡ true → u.sends ≡ true
    → Merges Delivers pass v other u (receiver v.senders v.made v.got (v.known ++ (u.from, u.put) ∷ [])) idle
retires pass v other u a b items views h at two at' =
    let both : View = receiver v.senders v.made v.got (v.known ++ (u.from, u.put) ∷ []) in let mine = (h.7 pass v at).1 a in let vs : List View =
    set views pass both in
    let was : get_elem? views other ≡ some u = ⊎_elim (λ x. absurd (two x.0)) (λ x. x.1) (at_set views pass other both u at') in
    let theirs = (h.7 other u was).0 b in
    let seat : ℕ → Option ℕ = put_at h.2 u.from none in
    let empty : (p : ℕ) → h.2 p ≡ none → seat p ≡ none = λ p e. vacant (p == u.from) (h.2 p) e in
    let F : ℕ → View → Type 0 = Fits h.0 h.1 seat h.3 h.4 in
    let Now : ℕ → View → Type 0 = λ j y. j ≢ other → F j y in
    let now : All Now vs = all_set Now views pass both
    (λ _. (
      (λ s. absurd (true≢false (sym s))),
      λ _. (
        mine.0,
        mine.1,
        mine.2,
        (λ p le. let t = mine.3 p le in (empty p t.0, t.1)),
        λ k p all k_at. ⊎_elim (λ (x : get_elem? v.known k ≡ some (p, all)). let t = mine.4 k p all x in (t.0, empty p t.1, t.2))
            (λ (x : (k ≡ length v.known) × ((u.from, u.put) ≡ (p, all))).
            subst (λ (y : ℕ × List Envelope). (y.0 < v.made) × (seat y.0 ≡ none) × (y.1 ≡ h.3 y.0)) x.1
            (below_made h.2 v.made u.from other (λ q le. (mine.3 q le).0) theirs.1, put_here h.2 u.from none, theirs.2))
            (at_new v.known (u.from, u.put) (p, all) k k_at),
      ),
    ))
    (λ j y away e not_other. (
      (λ s. let o = (h.7 j y e).0 s in (o.0, put_else h.2 u.from none y.from (apart h.2 y.from u.from j other o.1 theirs.1 not_other) ∙ o.1, o.2)),
      λ g. absurd (away (((h.7 j y e).1 g).0 ∙ sym mine.0)),
    )) in (
      h.0,
      h.1,
      seat,
      h.3,
      h.4,
      h.5,
      (λ p le. let t = h.6 p le in (empty p t.0, t.1)),
      all_set F vs other idle ((λ s. absurd (true≢false (sym s))), λ g. absurd (true≢false (sym g))) (λ j y not_other e. now j y e not_other),
    )

pub learns_mine : (pass : ℕ) (v : View) → v.sends ≡ true → Learns Delivers pass v (HoldsMine v)
learns_mine pass v may items views h at = let mine = (h.7 pass v at).0 may in
    let all_of : (p : ℕ) → of p h.4 ++ of p items ≡ h.3 p = λ p. sym (of-append p h.4 items) ∙ h.5 p in (
      (λ p le. back_empty (of p h.4) (of p items) (all_of p ∙ (h.6 p (omega (arith, mine.0))).1)),
      (of v.from h.4, mine.2 ∙ sym (all_of v.from)),
    )

pub learns_rest : (pass : ℕ) (v : View) → v.gets ≡ true → Learns Delivers pass v (HoldsRest v)
learns_rest pass v may items views h at = let mine = (h.7 pass v at).1 may in
    let all_of : (p : ℕ) → of p v.got ++ of p items ≡ h.3 p = λ p. ap (λ l. of p l ++ of p items) mine.2 ∙ (sym (of-append p h.4 items) ∙ h.5 p) in
    ((λ k p all k_at. (mine.4 k p all k_at).2 ∙ sym (all_of p)), λ p le. front_empty (of p v.got) (of p items) (all_of p ∙ (h.6 p (omega (arith, mine.1))).1))

pub none_missing : (v : View) → Held 0 (HoldsRest v) → NoneMissing v
none_missing v ([], e, rest) = ((λ k p all k_at. sym (rest.0 k p all k_at ∙ append-nil (of p v.got))), rest.1)
none_missing v (x ∷ xs, e, rest) = absurd (omega arith)

pub last_or : {A : Type 0} (xs : List A) (x y : A) (k : ℕ) → slice_get (xs ++ x ∷ []) k ≡ Some y → (slice_get xs k ≡ Some y) ⊎ ((k ≡ length xs) × (x ≡ y))
last_or [] x y zero e = inr (refl, cc e)
last_or [] x y (suc k) e = absurd (cc e)
last_or (z ∷ xs) x y zero e = inl e
last_or (z ∷ xs) x y (suc k) e = ⊎_elim (λ h. inl h) (λ h. inr (ap suc h.0, h.1)) (last_or xs x y k e)

pub all_at : {A : Type 0} (P : A → Type 0) (xs : List A) → ((k : ℕ) (x : A) → slice_get xs k ≡ Some x → P x) → Each P xs
all_at P [] h k d lt = absurd (omega arith)
all_at P (x ∷ xs) h zero d lt = h 0 x refl
all_at P (x ∷ xs) h (suc k) d lt = all_at P xs (λ j y e. h (suc j) y e) k d (omega arith)
