-- A line spells at most one action, and that of a begun call no other.
use Rattle.std.proofs.Common.{◌≡◌, ℕ, List, [], Bool, ◌||◌, codes, refl, sym, ap, subst, ◌∙◌, if◌then◌else◌}
use Rattle.std.specs.Str.{bytes_eq}
use Rattle.serde_json.specs.Data.{Data, array, null, object, number, unsigned, Members, member, no_members}
use Rattle.json_fields.proofs.Rests.{members_in, rest, first, text_in}
use Rattle.fab_types.specs.declared.proposal.Call.{Call}
use Rattle.fab_types.specs.declared.proposal.Proposal.{Proposal}
use Rattle.fab_types.specs.declared.proposal.Proposal.TheVariants as proposal
use Rattle.json_events.specs.declared.action.Action.{Action}
use Rattle.json_events.specs.declared.action.Action.TheVariants.{Begin, Finish, SubmitEndorsed, SubmitBytes, Take, Tick, Commit}
use Rattle.json_events.specs.Same.{AsksSame}
use Rattle.json_events.specs.Spelling.{AreTexts, IsAction, IsCall, IsHex, IsProposal, Spells, begin_object, call_members}
use Rattle.json_events.proofs.Memberships.{same_ok}
use Rattle.json_events.proofs.OneProposal.{no_call, one_proposal, one_data}
use Rattle.json_events.proofs.Texts.{one_texts}

abbrev key : Members → List ℕ
key no_members = []
key (member k d ms) = k

-- the form of a line, by the names of its first fields and its word
abbrev form_by : List ℕ → List ℕ → List ℕ → ℕ
form_by first word second =
    if bytes_eq first (codes "arg") || bytes_eq first (codes "args") then 0 else if bytes_eq first (codes "as") then 1
    else if bytes_eq word (codes "begin") then 0
    else if bytes_eq word (codes "submit") then (if bytes_eq second (codes "use") then 2 else 3)
    else if bytes_eq word (codes "take") then 4 else if bytes_eq word (codes "tick") then 5 else 6

abbrev form_in : Data → ℕ
form_in d = form_by (key (members_in d)) (text_in (first (members_in d))) (key (rest (members_in d)))

-- whether a begin has a member of this name beside those of its proposal
abbrev is_added : List ℕ → Bool
is_added k = bytes_eq k (codes "do") || bytes_eq k (codes "peer") || bytes_eq k (codes "seat")

abbrev not_added : Members → Members
not_added no_members = no_members
not_added (member k d ms) = if is_added k then not_added ms else member k d (not_added ms)

abbrev at : List ℕ → Members → Data
at k no_members = null
at k (member l d ms) = if bytes_eq k l then d else at k ms

abbrev Begun : Type 0
Begun = ℕ × Members × Data × Data

-- the form of a line, the members of the proposal, the peer and the seat
abbrev begun_in : Data → Begun
begun_in d = (form_in d, not_added (members_in d), at (codes "peer") (members_in d), at (codes "seat") (members_in d))

of_a_call : (peer seat : ℕ) (arg : Data) (chaincode nonce : List ℕ) → begun_in (begin_object peer seat (call_members arg chaincode nonce))
    ≡ (0, call_members arg chaincode nonce, number (unsigned peer), number (unsigned seat))
of_a_call peer seat (array texts) chaincode nonce = refl
of_a_call peer seat arg chaincode nonce = refl

of_a_begin : (peer seat : ℕ) (ms : Members) (p : Proposal) → IsProposal (object ms) p
    → begun_in (begin_object peer seat ms) ≡ (0, ms, number (unsigned peer), number (unsigned seat))
of_a_begin peer seat ms (proposal.Call c) h = rw (ap members_in h.3) (of_a_call peer seat h.0 h.1 h.2)
of_a_begin peer seat ms (proposal.Upgrade u) h = rw (ap members_in h.6) refl
of_a_begin peer seat ms (proposal.Amend a) h = rw (ap members_in h.4) refl

begun : (d : Data) (peer seat : ℕ) (p : Proposal) (h : IsAction d (Begin peer seat p))
    → begun_in d ≡ (0, h.0, number (unsigned peer), number (unsigned seat))
begun d peer seat p h = ap begun_in h.1 ∙ of_a_begin peer seat h.0 p h.2

one_begin : (d : Data) (p q s t : ℕ) (a b : Proposal) → IsAction d (Begin p s a) → IsAction d (Begin q t b) → Begin p s a ≡ Begin q t b
one_begin d p q s t a b h k =
    let e = sym (begun d p s a h) ∙ begun d q t b k in
    let members : h.0 ≡ k.0 = ap (λ x. x.1) e in
    let peers = ap (λ x. x.2) e in
    let seats = ap (λ x. x.3) e in
    let same = one_proposal (object k.0) a b (subst (λ ms. IsProposal (object ms) a) members h.2) k.2 in
    cc

abbrev form_of : Action → ℕ
form_of (Begin peer seat p) = 0
form_of (Finish peer seat name) = 1
form_of (SubmitEndorsed names) = 2
form_of (SubmitBytes bytes) = 3
form_of Take = 4
form_of Tick = 5
form_of (Commit peer) = 6

of_its_form : (d : Data) (a : Action) → IsAction d a → form_in d ≡ form_of a
of_its_form d (Begin peer seat p) h = ap (λ b. b.0) (begun d peer seat p h)
of_its_form d (Finish peer seat name) h = ap form_in h
of_its_form d (SubmitEndorsed names) h = ap form_in h.1
of_its_form d (SubmitBytes bytes) h = ap form_in h.1
of_its_form d Take h = ap form_in h
of_its_form d Tick h = ap form_in h
of_its_form d (Commit peer) h = ap form_in h

-- where the fields of a begun call hold none, the data spell no action
pub no_begun_call : (d : Data) (peer seat : ℕ) (arg : Data) (chaincode nonce : List ℕ) → d ≡ begin_object peer seat (call_members arg chaincode nonce)
    → ((c : Call) → ¬ IsCall arg chaincode nonce c) → (a : Action) → ¬ IsAction d a
no_begun_call d peer seat arg chaincode nonce is none (Begin p s q) h =
    let e = sym (begun d p s q h) ∙ ap begun_in is ∙ of_a_call peer seat arg chaincode nonce in
    let members : h.0 ≡ call_members arg chaincode nonce = ap (λ x. x.1) e in
    no_call (object h.0) arg chaincode nonce (ap object members) none q h.2
no_begun_call d peer seat arg chaincode nonce is none a h =
    let begins = ap (λ b. b.0) (ap begun_in is ∙ of_a_call peer seat arg chaincode nonce) in
    let same = sym begins ∙ of_its_form d a h in
    cc

one_action : (d : Data) (a b : Action) → IsAction d a → IsAction d b → form_of a ≡ form_of b → AsksSame a b
one_action d (Begin p s a) (Begin q t b) h k same = one_begin d p q s t a b h k
one_action d (Finish p s a) (Finish q t b) h k same = let e = sym h ∙ k in (a, cc, cc)
one_action d (SubmitEndorsed a) (SubmitEndorsed b) h k same =
    let e = sym h.1 ∙ k.1 in
    let texts : h.0 ≡ k.0 = cc in
    (a, refl, one_texts k.0 a.items b.items (subst (λ ds. AreTexts ds a.items) texts h.2.0) k.2.0)
one_action d (SubmitBytes a) (SubmitBytes b) h k same =
    let e = sym h.1 ∙ k.1 in
    let text : h.0 ≡ k.0 = cc in
    (a, refl, same_ok _ _ _ (subst (λ x. IsHex x a.items) text h.2) k.2)
one_action d Take Take h k same = refl
one_action d Tick Tick h k same = refl
one_action d (Commit p) (Commit q) h k same = let e = sym h ∙ k in cc
one_action d a b h k same = cc

pub one : (line : List ℕ) (a b : Action) → Spells line a → Spells line b → AsksSame a b
one line a b h k =
    let other = subst (λ d. IsAction d b) (sym (one_data line h.0 k.0 h.1 k.1)) k.2 in
    one_action h.0 a b h.2 other (sym (of_its_form h.0 a h.2) ∙ of_its_form h.0 b other)
