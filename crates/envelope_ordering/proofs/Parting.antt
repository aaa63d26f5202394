-- One envelope more that an orderer was given, and how many it was given.
use Rattle.std.proofs.Common.{◌≡◌, ◌+◌, ◌≤◌, ◌++◌, Bool, List, [], ◌∷◌, length, append_assoc, append-nil, refl, sym, ◌∙◌, subst, arith}
use Rattle.fab_types.specs.Size.{envelope_size}
use Rattle.fab_types.specs.declared.edition.Edition.{Edition}
use Rattle.fab_types.specs.declared.envelope.Envelope.{Envelope}
use Rattle.batch_cutter.specs.Division.{Limits}
use Rattle.envelope_ordering.specs.Given.{AcceptsEach, IsRejected, ends, takes, refuses}

pub push_taken : {a : Edition} {l : Limits} {r : Bool} {taken given ordered refused : List Envelope} (e : Envelope) → envelope_size e ≤ l.absolute →
    AcceptsEach a l r taken given ordered refused → AcceptsEach a l r taken (given ++ e ∷ []) (ordered ++ e ∷ []) refused
push_taken e fits ends = takes fits ends
push_taken e fits (takes size h) = takes size (push_taken e fits h)
push_taken e fits (refuses why h) = refuses why (push_taken e fits h)

next_in : {X : Type 0} (xs : List X) (x : X) (ys : List X) → xs ++ x ∷ ys ≡ (xs ++ x ∷ []) ++ ys
next_in xs x ys = sym (append_assoc xs (x ∷ []) ys)

-- where `whole` is all that was taken in the end
pub push_refused : (a : Edition) (l : Limits) (r : Bool) (taken whole : List Envelope) (e : Envelope) {given ordered refused : List Envelope}
    → whole ≡ taken ++ ordered → IsRejected a l r whole e → AcceptsEach a l r taken given ordered refused
    → AcceptsEach a l r taken (given ++ e ∷ []) ordered (refused ++ e ∷ [])
push_refused a l r taken whole e is why ends = refuses (subst (λ (es : List Envelope). IsRejected a l r es e) (is ∙ append-nil taken) why) ends
push_refused a l r taken whole e is why (takes size h) = takes size (push_refused a l r _ whole e (is ∙ next_in taken _ _) why h)
push_refused a l r taken whole e is why (refuses first h) = refuses first (push_refused a l r taken whole e is why h)

pub parted_length : {a : Edition} {l : Limits} {r : Bool} {taken given ordered refused : List Envelope} → AcceptsEach a l r taken given ordered refused →
    length given ≡ length ordered + length refused
parted_length ends = refl
parted_length (takes size h) = omega (arith, parted_length h)
parted_length (refuses why h) = omega (arith, parted_length h)

pub by_same : (a b : Edition) (l m : Limits) (r s : Bool) (given ordered refused : List Envelope) → b ≡ a → m ≡ l → s ≡ r →
    AcceptsEach a l r [] given ordered refused → AcceptsEach b m s [] given ordered refused
by_same a b l m r s given ordered refused edition limits reorder h =
    subst (λ (p : Bool). AcceptsEach b m p [] given ordered refused) (sym reorder)
    (subst (λ (k : Limits). AcceptsEach b k r [] given ordered refused) (sym limits)
    (subst (λ (e : Edition). AcceptsEach e l r [] given ordered refused) (sym edition) h))
