-- What is handed out in a run was made on a chain that the run's chain begins, or that begins it.
use Rattle.std.proofs.Common.{◌≡◌, ℕ, zero, suc, ◌+◌, Bool, true, false, cond, List, [], ◌∷◌, ◌++◌, take, drop, length, Option, Some, None, Result, Ok}
use Rattle.std.proofs.Common.{Err, option_map, refl, sym, ap, ◌∙◌, subst, ◌⊎◌, inl, inr, append_assoc, append-nil, slice_get, nat_lt, ◌≤◌, ◌<◌, arith, OnOk}
use Rattle.std.proofs.Common.{OnErr, is_err}
use Rattle.std.proofs.lemmas.List.{take-append-drop}
use Rattle.fab_types.specs.declared.proposal.Proposal.{Proposal}
use Rattle.fab_types.specs.Payloads.{Payload}
use Rattle.ledger_model.specs.Chain.{Bytes, Envelope, Committed, Chain, Placed, history}
use Rattle.ledger_model.specs.Views.{Versioned, values_of}
use Rattle.mvcc_validate.specs.Current.{is_current}
use Rattle.ledger_model.specs.State.{state}
use Rattle.ledger_model.specs.Execution.{Unknown, NotInstalled, BadPolicy, BadMembership, Trapped, Spent, Status, Done, Exec, ReadsAlone, payload_of}
use Rattle.ledger_model.specs.Serial.{IsPrefix, IsHandedOut}
use Rattle.ledger_model.specs.Judged.{BlockRule, judged_chain}
use Rattle.fab_types.specs.declared.block.Block.{Block}
use Rattle.fab_types.specs.declared.envelope.Endorsement.{Endorsement}
use Rattle.wire.specs.Ids.{id_of}
use Rattle.org_keys.specs.Signers.{Seeds}
use Rattle.endorsement_policy.specs.Endorsed.{Listed, is_endorsed}
use Rattle.ledger_setting.specs.Rule.{right_of, table_of}
use Rattle.ledger_model.proofs.Judged.{flags_judged, judged_onto-append, judged_grows, judged_current, judged_endorsed}
use Rattle.ledger_model.proofs.Reruns.{reruns_and_map, reruns_same}
use Rattle.simulator.specs.Answers.{done_or_refusal, payload_or_refusal}
use Rattle.batch_cutter.specs.Division.{Limits, Mark, message, timeout}
use Rattle.orderer.specs.Ordering.{Ordering, IsOrdered, Takes}
use Rattle.orderer.specs.declared.report.BatchReport.{BatchReport}
use Rattle.orderer.proofs.Refusing.{takes_begins}
use Rattle.simulator.specs.declared.refusal.SimRefusal.TheVariants as refusal
use Rattle.fabric_core.specs.System.{Rules, Noted, PeerState, World, Event, Begin, Finish, Submit, Take, Tick, Commit, Reply, fresh_orderer, opening, Refused}
use Rattle.fabric_core.specs.System.{Endorsed, Queued, QueueFull, Nothing, Ordered, Cut, TooLarge, NoBlockLeft, chain_at, begin_seat, begin, finish_reply}
use Rattle.fabric_core.specs.System.{finish_seat, finish, commit_next, commit, at_peer, submit, IsTakenIn, TakesFront, IsTicked, IsStep, AreSteps, chain_of}
use Rattle.fabric_core.specs.Inside.{rules_of}
use Rattle.fabric_core.specs.Headline.{IsRun, queue_after, marks_in, marks_of, IsAmong, IsHonest}
use Rattle.fabric_core.proofs.Genuine.{DoCarry, all_genuine, all_handed}
use Rattle.fabric_core.proofs.Lists.{take_next}

-- one list begins another
abbrev Begins : {X : Type 0} → List X → List X → Type 0
Begins {X} front whole = (rest : List X) × (front ++ rest ≡ whole)

cons_head : {X : Type 0} (x y : X) (xs ys : List X) → x ∷ xs ≡ y ∷ ys → x ≡ y
cons_head x y xs ys e = cc

cons_tail : {X : Type 0} (x y : X) (xs ys : List X) → x ∷ xs ≡ y ∷ ys → xs ≡ ys
cons_tail x y xs ys e = cc

both_begin : {X : Type 0} (a b r s : List X) → a ++ r ≡ b ++ s → Begins a b ⊎ Begins b a
both_begin [] b r s e = inl (b, refl)
both_begin (x ∷ a) [] r s e = inr (x ∷ a, refl)
both_begin {X} (x ∷ a) (y ∷ b) r s e =
    let h = cons_head x y _ _ e in
    elim (both_begin a b r s (cons_tail x y _ _ e)) [
      | inl f ↦ inl (f.0, λ i. h i ∷ f.1 i)
      | inr g ↦ inr (g.0, λ i. sym h i ∷ g.1 i)
    ]

chain_grows : (rule : BlockRule) (front whole : List Block) → Begins front whole → IsPrefix (judged_chain rule front) (judged_chain rule whole)
chain_grows rule front whole h =
    let more = judged_grows rule (judged_chain rule front) h.0 in
    (more.0, more.1 ∙ sym (judged_onto-append rule [] front h.0) ∙ ap (judged_chain rule) h.1)

-- two chains of beginnings of the same blocks
chains_joined : (rule : BlockRule) (a b whole : List Block) → Begins a whole → Begins b whole →
    IsPrefix (judged_chain rule a) (judged_chain rule b) ⊎ IsPrefix (judged_chain rule b) (judged_chain rule a)
chains_joined rule a b whole f g =
    elim (both_begin a b f.0 g.0 (f.1 ∙ sym g.1)) [ inl h ↦ inl (chain_grows rule a b h) | inr h ↦ inr (chain_grows rule b a h) ]

begins_trans : {X : Type 0} (a b c : List X) → Begins a b → Begins b c → Begins a c
begins_trans a b c f g = (f.0 ++ g.0, sym (append_assoc a f.0 g.0) ∙ ap (λ xs. xs ++ g.0) f.1 ∙ g.1)

begins_same : {X : Type 0} (a b : List X) → a ≡ b → Begins a b
begins_same a b e = ([], append-nil a ∙ e)

-- the orderer's blocks are only appended to
pub at_peer_orderer : (w : World) (p : ℕ) (o : Option (Reply × PeerState)) → w.orderer ≡ (at_peer w p o).1.orderer
at_peer_orderer w p None = refl
at_peer_orderer w p (Some s) = refl

peer_blocks : (w : World) (p : ℕ) (o : Option (Reply × PeerState)) (reply : Reply) (new : World) → at_peer w p o ≡ (reply, new) →
    Begins w.orderer.chain new.orderer.chain
peer_blocks w p o reply new is =
    begins_same _ _ (ap (λ x. x.chain) (at_peer_orderer w p o ∙ ap (λ s. s.1.orderer) is))

pub submit_orderer : (r : Rules) (w : World) (e : Envelope) → w.orderer ≡ (submit r w e).1.orderer
submit_orderer r w e =
    elim (nat_lt (length w.queue) r.capacity)
    as (λ b. w.orderer ≡ (cond {A = Reply × World} b (Queued, record w { queue = w.queue ++ e ∷ [] }) (QueueFull, w)).1.orderer) [ true ↦ refl | false ↦ refl ]

mark_blocks : (w : World) (mark : Mark Envelope) (reports : List BatchReport) (orderer : Ordering) (new : World) → Takes w.orderer mark reports orderer →
    orderer ≡ new.orderer → Begins w.orderer.chain new.orderer.chain
mark_blocks w mark reports orderer new takes is =
    let begins = takes_begins w.orderer mark reports orderer takes in
    (begins.0, sym begins.1 ∙ ap (λ x. x.chain) is)

taken_blocks : (w : World) (e : Envelope) (es : List Envelope) (reply : Reply) (new : World) → IsTakenIn w e es reply new →
    Begins w.orderer.chain new.orderer.chain
taken_blocks w e es (Ordered reports) new t = mark_blocks w (message e) reports t.0 new t.1 (ap (λ x. x.orderer) (sym t.4))
taken_blocks w e es (TooLarge given) new t = begins_same _ _ (ap (λ x. x.orderer.chain) (sym t.2))
taken_blocks w e es (NoBlockLeft given) new t = begins_same _ _ (ap (λ x. x.orderer.chain) (sym t.2))
taken_blocks w e es reply new t = absurd t

take_blocks : (w : World) (es : List Envelope) (reply : Reply) (new : World) → TakesFront w es reply new → Begins w.orderer.chain new.orderer.chain
take_blocks w [] reply new t = begins_same _ _ (ap (λ x. x.orderer.chain) (sym t.1))
take_blocks w (e ∷ es) reply new t = taken_blocks w e es reply new t

tick_blocks : (w : World) (reply : Reply) (new : World) → IsTicked w reply new → Begins w.orderer.chain new.orderer.chain
tick_blocks w Nothing new t = mark_blocks w timeout [] t.0 new t.1 (ap (λ x. x.orderer) (sym t.3))
tick_blocks w (Cut report) new t = mark_blocks w timeout (report ∷ []) t.0 new t.1 (ap (λ x. x.orderer) (sym t.3))
tick_blocks w (NoBlockLeft given) new t = begins_same _ _ (ap (λ x. x.orderer.chain) (sym t.2))
tick_blocks w reply new t = absurd t

-- all that is used of the orderer from here on
step_blocks : (r : Rules) (w : World) (e : Event) (reply : Reply) (new : World) → IsStep r w e reply new → Begins w.orderer.chain new.orderer.chain
step_blocks r w (Begin p s proposal) reply new is = peer_blocks w p (option_map (λ q. begin q s proposal) (slice_get w.peers p)) reply new is
step_blocks r w (Finish p s) reply new is = peer_blocks w p (option_map (λ q. finish r.exec r.seal (chain_at r w) q s) (slice_get w.peers p)) reply new is
step_blocks r w (Submit e) reply new is = begins_same _ _ (ap (λ x. x.chain) (submit_orderer r w e ∙ ap (λ s. s.1.orderer) is))
step_blocks r w Take reply new is = take_blocks w w.queue reply new is
step_blocks r w Tick reply new is = tick_blocks w reply new is
step_blocks r w (Commit p) reply new is = peer_blocks w p (option_map (λ q. commit (chain_at r w) q) (slice_get w.peers p)) reply new is

run_blocks : (r : Rules) (w : World) (es : List Event) (replies : List Reply) (new : World) → AreSteps r w es replies new →
    Begins w.orderer.chain new.orderer.chain
run_blocks r w [] replies new steps = begins_same _ _ (ap (λ x. x.orderer.chain) (sym steps.1))
run_blocks r w (e ∷ es) replies new steps =
    begins_trans _ _ _ (step_blocks r w e steps.0 steps.1 steps.4) (run_blocks r steps.1 es steps.2 new steps.5)

-- a payload made on a chain
record IsMade (exec : Exec) (chain : Chain) (p : Payload) : Type 0 where
  done : (exec p.proposal (values_of (state (history chain)))).ending ≡ Done
  payload : p ≡ payload_of p.proposal (state (history chain)) (exec p.proposal (values_of (state (history chain)))).seen

same_endorsed : (p q : Payload) (x y : Endorsement) → Endorsed p x ≡ Endorsed q y → p ≡ q
same_endorsed p q x y e = cc

current_endorsed : (b : Bool) (p q : Payload) (x y : Endorsement) → cond {A = Reply} b (Endorsed p x) (Refused refusal.Stale) ≡ Endorsed q y →
    Endorsed p x ≡ Endorsed q y
current_endorsed true p q x y e = e
current_endorsed false p q x y e = absurd (cc)

-- what is answered with a payload was made on that chain
answered : (exec : Exec) (seal : Payload → Endorsement) (proposal : Proposal) (now : Versioned) (chain : Chain) (p : Payload) (x : Endorsement) →
    finish_reply now seal (payload_or_refusal exec proposal chain) ≡ Endorsed p x → IsMade exec chain p
answered exec seal proposal now chain p x e =
    let m = state (history chain) in
    let o = exec proposal (values_of m) in
    let made = payload_of proposal m o.seen in
    elim o.ending as (λ y. o.ending ≡ y → finish_reply now seal (done_or_refusal y made) ≡ Endorsed p x → IsMade exec chain p) [
      | Done ↦ λ d f. subst (IsMade exec chain) (same_endorsed made p (seal made) x (current_endorsed (is_current now made) made p (seal made) x f))
          (record { done = d; payload = refl })
      | Unknown ↦ λ d f. absurd (cc)
      | NotInstalled ↦ λ d f. absurd (cc)
      | BadPolicy ↦ λ d f. absurd (cc)
      | BadMembership ↦ λ d f. absurd (cc)
      | Trapped k u ↦ λ d f. absurd (cc)
      | Spent ↦ λ d f. absurd (cc)
      | Status n ↦ λ d f. absurd (cc)
    ] refl e

-- a step that answers with a payload made it on the chain of some height
record IsMadeAt (r : Rules) (w : World) (p : Payload) : Type 0 where
  height : ℕ
  made : IsMade r.exec (chain_at r w height) p

at_peer_gives : {X : Type 0} (w : World) (i : ℕ) (f : PeerState → Reply × PeerState) (p : Payload) (x : Endorsement) (o : Option PeerState) →
    ((q : PeerState) → (f q).0 ≡ Endorsed p x → X) → (at_peer w i (option_map f o)).0 ≡ Endorsed p x → X
at_peer_gives w i f p x None k e = absurd (cc)
at_peer_gives w i f p x (Some q) k e = k q e

begin_gives : {X : Type 0} (q : PeerState) (s : ℕ) (proposal : Proposal) (p : Payload) (x : Endorsement) (o : Option (Option Noted)) →
    (begin_seat q s proposal o).0 ≡ Endorsed p x → X
begin_gives q s proposal p x None e = absurd (cc)
begin_gives q s proposal p x (Some None) e = absurd (cc)
begin_gives q s proposal p x (Some (Some b)) e = absurd (cc)

finish_gives : (r : Rules) (w : World) (q : PeerState) (s : ℕ) (p : Payload) (x : Endorsement) (o : Option (Option Noted)) →
    (finish_seat r.exec r.seal (chain_at r w) q s o).0 ≡ Endorsed p x → IsMadeAt r w p
finish_gives r w q s p x None e = absurd (cc)
finish_gives r w q s p x (Some None) e = absurd (cc)
finish_gives r w q s p x (Some (Some b)) e =
    let now = state (history (chain_at r w q.height)) in
    record { height = b.height; made = answered r.exec (r.seal (values_of now) q.org) b.proposal now (chain_at r w b.height) p x e }

nothing_endorsed : (p : Payload) (x : Endorsement) → Endorsed p x ≡ Nothing → ⊥
nothing_endorsed p x e = cc

take_gives : {X : Type 0} (w : World) (p : Payload) (x : Endorsement) (es : List Envelope) (new : World) → TakesFront w es (Endorsed p x) new → X
take_gives w p x [] new t = absurd (nothing_endorsed p x t.0)
take_gives w p x (q ∷ es) new t = absurd t

commit_gives : {X : Type 0} (q : PeerState) (p : Payload) (x : Endorsement) (o : Option Committed) → (commit_next q o).0 ≡ Endorsed p x → X
commit_gives q p x None e = absurd (cc)
commit_gives q p x (Some b) e = absurd (cc)

submit_gives : {X : Type 0} (w : World) (p : Payload) (x : Endorsement) (q : Envelope) (b : Bool) →
    (cond {A = Reply × World} b (Queued, record w { queue = w.queue ++ q ∷ [] }) (QueueFull, w)).0 ≡ Endorsed p x → X
submit_gives w p x q true e = absurd (cc)
submit_gives w p x q false e = absurd (cc)

step_gives : (r : Rules) (w : World) (e : Event) (p : Payload) (x : Endorsement) (new : World) → IsStep r w e (Endorsed p x) new → IsMadeAt r w p
step_gives r w (Begin i s proposal) p x new h =
    at_peer_gives w i (λ q. begin q s proposal) p x (slice_get w.peers i) (λ q. begin_gives q s proposal p x (slice_get q.seats s)) (ap (λ y. y.0) h)
step_gives r w (Finish i s) p x new h =
    at_peer_gives w i (λ q. finish r.exec r.seal (chain_at r w) q s) p x (slice_get w.peers i) (λ q. finish_gives r w q s p x (slice_get q.seats s))
    (ap (λ y. y.0) h)
step_gives r w (Submit q) p x new h = submit_gives w p x q (nat_lt (length w.queue) r.capacity) (ap (λ y. y.0) h)
step_gives r w Take p x new h = take_gives w p x w.queue new h
step_gives r w Tick p x new h = absurd h
step_gives r w (Commit i) p x new h =
    at_peer_gives w i (commit (chain_at r w)) p x (slice_get w.peers i) (λ q. commit_gives q p x (slice_get (chain_at r w (q.height + 1)) q.height))
    (ap (λ y. y.0) h)

-- the same over a run, on the chain of a beginning of the blocks
record IsMadeOn (r : Rules) (blocks : List Block) (p : Payload) : Type 0 where
  front : List Block
  begins : Begins front blocks
  made : IsMade r.exec (judged_chain r.rule front) p

made_on : (r : Rules) (w : World) (blocks : List Block) (p : Payload) → Begins w.orderer.chain blocks → IsMadeAt r w p → IsMadeOn r blocks p
made_on r w blocks p h m =
    record {
      front = take m.height w.orderer.chain;
      begins = begins_trans _ w.orderer.chain blocks (drop m.height w.orderer.chain, take-append-drop m.height w.orderer.chain) h;
      made = m.made;
    }

same_Some : {X : Type 0} (x y : X) → Some x ≡ Some y → x ≡ y
same_Some x y e = cc

no_reply : {A : Type 0} (i : ℕ) (x : Reply) → slice_get [] i ≡ Some x → A
no_reply i x e = absurd (cc)

run_gives : (r : Rules) (w : World) (es : List Event) (replies : List Reply) (new : World) → AreSteps r w es replies new →
    (i : ℕ) (p : Payload) (x : Endorsement) → slice_get replies i ≡ Some (Endorsed p x) → IsMadeOn r new.orderer.chain p
run_gives r w [] replies new steps i p x h = no_reply i (Endorsed p x) (ap (λ rs. slice_get rs i) (sym steps.0) ∙ h)
run_gives r w (e ∷ es) replies new steps zero p x h =
    let is : steps.0 ≡ Endorsed p x = same_Some _ _ (ap (λ rs. slice_get rs 0) (sym steps.3) ∙ h) in
    made_on r w _ p (run_blocks r w (e ∷ es) replies new steps) (step_gives r w e p x steps.1 (subst (λ (y : Reply). IsStep r w e y steps.1) is steps.4))
run_gives r w (e ∷ es) replies new steps (suc i) p x h =
    run_gives r steps.1 es steps.2 new steps.5 i p x (ap (λ rs. slice_get rs (suc i)) (sym steps.3) ∙ h)

handed_out : (r : Rules) (w : World) (n : ℕ) (p : Payload) → IsMadeOn r w.orderer.chain p → IsHandedOut r.exec (chain_at r w n) p
handed_out r w n p h =
    record {
      begun = judged_chain r.rule h.front;
      joined = chains_joined r.rule h.front (take n w.orderer.chain) w.orderer.chain h.begins (drop n w.orderer.chain, take-append-drop n w.orderer.chain);
      done = h.made.done;
      payload = h.made.payload;
    }

-- the chain of a height is honest
honest_at : (exec : Exec) → ReadsAlone exec → (listed : Listed) → DoCarry listed →
    (seeds : Seeds) (capacity : ℕ) (w : World) (es : List Event) (replies : List Reply) (new : World) →
    AreSteps (rules_of exec listed seeds capacity) w es replies new → (n : ℕ) →
    IsHonest exec (table_of listed) (right_of listed) replies (chain_at (rules_of exec listed seeds capacity) new n)
honest_at exec alone listed carries seeds capacity w es replies new steps n =
    let r = rules_of exec listed seeds capacity in
    let blocks = new.orderer.chain in
    let chain = chain_at r new n in
    let flags = flags_judged (table_of listed) (take n blocks) in
    let endorsed : List Placed → Envelope → Bool = λ before. is_endorsed listed (state before) in
    let given : (p : Payload) (x : Endorsement) → IsAmong (Endorsed p x) replies → IsHandedOut exec chain p =
    λ p x among. handed_out r new n p (run_gives r w es replies new steps among.0 p x among.1) in
    record {
      flags = flags;
      handed = all_handed exec (right_of listed) replies chain given [] chain;
      serial = λ genuine.
          let handed = all_handed exec (right_of listed) replies chain given [] chain genuine in
          let now = judged_current listed.edition id_of endorsed chain flags in
          let both = reruns_and_map exec chain alone now handed in
          record { agree = both.0; same = reruns_same exec chain alone now handed; map = both.1 };
      genuine = λ unforged.
          let all = judged_endorsed listed.edition id_of endorsed [] chain flags in
          all_genuine listed replies [] chain carries all unforged;
    }

honest_if : (exec : Exec) → ReadsAlone exec → (listed : Listed) → DoCarry listed →
    (seeds : Seeds) (capacity : ℕ) (w : World) (es : List Event) (replies : List Reply) (new : World) →
    AreSteps (rules_of exec listed seeds capacity) w es replies new →
    (o : Option PeerState) (chain : Chain) → option_map (λ q. chain_at (rules_of exec listed seeds capacity) new q.height) o ≡ Some chain →
    IsHonest exec (table_of listed) (right_of listed) replies chain
honest_if exec alone listed carries seeds capacity w es replies new steps None chain e = absurd (cc)
honest_if exec alone listed carries seeds capacity w es replies new steps (Some q) chain e =
    subst (IsHonest exec (table_of listed) (right_of listed) replies) (same_Some _ _ e)
    (honest_at exec alone listed carries seeds capacity w es replies new steps q.height)

-- one step more
pub steps_more : (r : Rules) (w : World) (es : List Event) (replies : List Reply) (mid : World) (e : Event) (reply : Reply) (new : World) →
    AreSteps r w es replies mid → IsStep r mid e reply new → AreSteps r w (es ++ e ∷ []) (replies ++ reply ∷ []) new
steps_more r w [] replies mid e reply new steps step =
    (reply, new, [], ap (λ (rs : List Reply). rs ++ reply ∷ []) steps.0, subst (λ (u : World). IsStep r u e reply new) steps.1 step, (refl, refl))
steps_more r w (d ∷ es) replies mid e reply new steps step = (
  steps.0,
  steps.1,
  steps.2 ++ reply ∷ [],
  ap (λ (rs : List Reply). rs ++ reply ∷ []) steps.3,
  steps.4,
  steps_more r steps.1 es steps.2 mid e reply new steps.5 step,
)

pub ok_of : {T E : Type 0} (P : Type 0) (r : Result T E) → is_err r ≡ false → OnOk r P → P
ok_of P (Ok x) e h = h
ok_of P (Err x) e h = absurd (cc)

pub err_of : {T E : Type 0} (P : Type 0) (r : Result T E) → is_err r ≡ true → OnErr r P → P
err_of P (Ok x) e h = absurd (cc)
err_of P (Err x) e h = h

-- a run of one step more
pub run_more : (r : Rules) (start w new : World) (events : List Event) (i : ℕ) (e : Event) (reply : Reply) (given more : List Reply) →
    slice_get events i ≡ Some e → AreSteps r start (take i events) given w → IsStep r w e reply new → more ≡ given ++ reply ∷ [] →
    AreSteps r start (take (i + 1) events) more new
run_more r start w new events i e reply given more here steps step grown =
    let one : suc i ≡ i + 1 = omega arith in
    let longer : take i events ++ e ∷ [] ≡ take (i + 1) events = sym (take_next events i e here) ∙ ap (λ k. take k events) one in
    subst (λ (rs : List Reply). AreSteps r start (take (i + 1) events) rs new) (sym grown)
    (subst (λ (es : List Event). AreSteps r start es (given ++ reply ∷ []) new) longer (steps_more r start (take i events) given w e reply new steps step))

-- ---- the marks of a run

-- what the orderer makes of one mark more
abbrev StepLaw : Type 0
StepLaw = (marks : List (Mark Envelope)) (old new : Ordering) (mark : Mark Envelope) (reports : List BatchReport) → IsOrdered marks old →
    Takes old mark reports new → IsOrdered (marks ++ mark ∷ []) new

same_ordered : (marks : List (Mark Envelope)) (old new : Ordering) → IsOrdered marks old → old ≡ new → IsOrdered (marks ++ []) new
same_ordered marks old new is same =
    subst (λ (ms : List (Mark Envelope)). IsOrdered ms new) (sym (append-nil marks)) (subst (IsOrdered marks) same is)

peer_ordered : (marks : List (Mark Envelope)) (w : World) (p : ℕ) (o : Option (Reply × PeerState)) (reply : Reply) (new : World) → IsOrdered marks w.orderer →
    at_peer w p o ≡ (reply, new) → IsOrdered (marks ++ []) new.orderer
peer_ordered marks w p o reply new was is = same_ordered marks w.orderer new.orderer was (at_peer_orderer w p o ∙ ap (λ s. s.1.orderer) is)

mark_ordered : StepLaw → (marks : List (Mark Envelope)) (w : World) (mark : Mark Envelope) (reports : List BatchReport) (orderer : Ordering) (new : World) →
    IsOrdered marks w.orderer → Takes w.orderer mark reports orderer → orderer ≡ new.orderer → IsOrdered (marks ++ mark ∷ []) new.orderer
mark_ordered law marks w mark reports orderer new was takes is =
    subst (IsOrdered (marks ++ mark ∷ [])) is (law marks w.orderer orderer mark reports was takes)

taken_ordered : StepLaw → (marks : List (Mark Envelope)) (w : World) (e : Envelope) (es : List Envelope) (reply : Reply) (new : World) →
    IsOrdered marks w.orderer → IsTakenIn w e es reply new → IsOrdered (marks ++ marks_in Take (e ∷ es) reply) new.orderer
taken_ordered law marks w e es (Ordered reports) new was t = mark_ordered law marks w (message e) reports t.0 new was t.1 (ap (λ x. x.orderer) (sym t.4))
taken_ordered law marks w e es (TooLarge given) new was t = same_ordered marks w.orderer new.orderer was (ap (λ x. x.orderer) (sym t.2))
taken_ordered law marks w e es (NoBlockLeft given) new was t = same_ordered marks w.orderer new.orderer was (ap (λ x. x.orderer) (sym t.2))
taken_ordered law marks w e es reply new was t = absurd t

take_ordered : StepLaw → (marks : List (Mark Envelope)) (w : World) (es : List Envelope) (reply : Reply) (new : World) → IsOrdered marks w.orderer →
    TakesFront w es reply new → IsOrdered (marks ++ marks_in Take es reply) new.orderer
take_ordered law marks w [] reply new was t = same_ordered marks w.orderer new.orderer was (ap (λ x. x.orderer) (sym t.1))
take_ordered law marks w (e ∷ es) reply new was t = taken_ordered law marks w e es reply new was t

tick_ordered : StepLaw → (marks : List (Mark Envelope)) (w : World) (reply : Reply) (new : World) → IsOrdered marks w.orderer → IsTicked w reply new →
    IsOrdered (marks ++ marks_in Tick w.queue reply) new.orderer
tick_ordered law marks w Nothing new was t = mark_ordered law marks w timeout [] t.0 new was t.1 (ap (λ x. x.orderer) (sym t.3))
tick_ordered law marks w (Cut report) new was t = mark_ordered law marks w timeout (report ∷ []) t.0 new was t.1 (ap (λ x. x.orderer) (sym t.3))
tick_ordered law marks w (NoBlockLeft given) new was t = same_ordered marks w.orderer new.orderer was (ap (λ x. x.orderer) (sym t.2))
tick_ordered law marks w reply new was t = absurd t

step_ordered : StepLaw → (r : Rules) (marks : List (Mark Envelope)) (w : World) (e : Event) (reply : Reply) (new : World) → IsOrdered marks w.orderer →
    IsStep r w e reply new → IsOrdered (marks ++ marks_in e w.queue reply) new.orderer
step_ordered law r marks w (Begin p s proposal) reply new was is =
    peer_ordered marks w p (option_map (λ q. begin q s proposal) (slice_get w.peers p)) reply new was is
step_ordered law r marks w (Finish p s) reply new was is =
    peer_ordered marks w p (option_map (λ q. finish r.exec r.seal (chain_at r w) q s) (slice_get w.peers p)) reply new was is
step_ordered law r marks w (Submit e) reply new was is = same_ordered marks w.orderer new.orderer was (submit_orderer r w e ∙ ap (λ s. s.1.orderer) is)
step_ordered law r marks w Take reply new was is = take_ordered law marks w w.queue reply new was is
step_ordered law r marks w Tick reply new was is = tick_ordered law marks w reply new was is
step_ordered law r marks w (Commit p) reply new was is =
    peer_ordered marks w p (option_map (λ q. commit (chain_at r w) q) (slice_get w.peers p)) reply new was is

-- the queue of a step's end
at_peer_queue : (w : World) (p : ℕ) (o : Option (Reply × PeerState)) → w.queue ≡ (at_peer w p o).1.queue
at_peer_queue w p None = refl
at_peer_queue w p (Some s) = refl

submit_queue : (b : Bool) (w : World) (e : Envelope) (reply : Reply) (new : World) →
    cond {A = Reply × World} b (Queued, record w { queue = w.queue ++ e ∷ [] }) (QueueFull, w) ≡ (reply, new) → queue_after (Submit e) w.queue reply ≡ new.queue
submit_queue true w e reply new is = ap (λ (y : Reply). queue_after (Submit e) w.queue y) (sym (ap (λ s. s.0) is)) ∙ ap (λ s. s.1.queue) is
submit_queue false w e reply new is = ap (λ (y : Reply). queue_after (Submit e) w.queue y) (sym (ap (λ s. s.0) is)) ∙ ap (λ s. s.1.queue) is

taken_queue : (w : World) (e : Envelope) (es : List Envelope) (reply : Reply) (new : World) → IsTakenIn w e es reply new → es ≡ new.queue
taken_queue w e es (Ordered reports) new t = ap (λ x. x.queue) (sym t.4)
taken_queue w e es (TooLarge given) new t = ap (λ x. x.queue) (sym t.2)
taken_queue w e es (NoBlockLeft given) new t = ap (λ x. x.queue) (sym t.2)
taken_queue w e es reply new t = absurd t

take_queue : (w : World) (es : List Envelope) (reply : Reply) (new : World) → w.queue ≡ es → TakesFront w es reply new → queue_after Take es reply ≡ new.queue
take_queue w [] reply new is t = sym is ∙ ap (λ x. x.queue) (sym t.1)
take_queue w (e ∷ es) reply new is t = taken_queue w e es reply new t

tick_queue : (w : World) (reply : Reply) (new : World) → IsTicked w reply new → w.queue ≡ new.queue
tick_queue w Nothing new t = ap (λ x. x.queue) (sym t.3)
tick_queue w (Cut report) new t = ap (λ x. x.queue) (sym t.3)
tick_queue w (NoBlockLeft given) new t = ap (λ x. x.queue) (sym t.2)
tick_queue w reply new t = absurd t

step_queue : (r : Rules) (w : World) (e : Event) (reply : Reply) (new : World) → IsStep r w e reply new → queue_after e w.queue reply ≡ new.queue
step_queue r w (Begin p s proposal) reply new is = at_peer_queue w p (option_map (λ q. begin q s proposal) (slice_get w.peers p)) ∙ ap (λ s. s.1.queue) is
step_queue r w (Finish p s) reply new is =
    at_peer_queue w p (option_map (λ q. finish r.exec r.seal (chain_at r w) q s) (slice_get w.peers p)) ∙ ap (λ s. s.1.queue) is
step_queue r w (Submit e) reply new is = submit_queue (nat_lt (length w.queue) r.capacity) w e reply new is
step_queue r w Take reply new is = take_queue w w.queue reply new refl is
step_queue r w Tick reply new is = tick_queue w reply new is
step_queue r w (Commit p) reply new is = at_peer_queue w p (option_map (λ q. commit (chain_at r w) q) (slice_get w.peers p)) ∙ ap (λ s. s.1.queue) is

run_ordered : StepLaw → (r : Rules) (marks : List (Mark Envelope)) (w : World) (es : List Event) (replies : List Reply) (new : World) →
    IsOrdered marks w.orderer → AreSteps r w es replies new → IsOrdered (marks ++ marks_of w.queue es replies) new.orderer
run_ordered law r marks w [] replies new was steps = same_ordered marks w.orderer new.orderer was (ap (λ x. x.orderer) (sym steps.1))
run_ordered law r marks w (e ∷ es) replies new was steps =
    let here = marks_in e w.queue steps.0 in
    let next = step_ordered law r marks w e steps.0 steps.1 was steps.4 in
    let all = run_ordered law r (marks ++ here) steps.1 es steps.2 new next steps.5 in
    let queue = step_queue r w e steps.0 steps.1 steps.4 in
    let same : (marks ++ here) ++ marks_of steps.1.queue es steps.2 ≡ marks ++ marks_of w.queue (e ∷ es) replies =
    append_assoc marks here (marks_of steps.1.queue es steps.2)
    ∙ ap (λ (q : List Envelope). marks ++ (here ++ marks_of q es steps.2)) (sym queue)
    ∙ ap (λ (rs : List Reply). marks ++ marks_of w.queue (e ∷ es) rs) (sym steps.3)
    in
    subst (λ (ms : List (Mark Envelope)). IsOrdered ms new.orderer) same all

pub drop_end : {X : Type 0} (i : ℕ) (xs : List X) → length xs ≤ i → drop i xs ≡ []
drop_end zero [] h = refl
drop_end (suc i) [] h = refl
drop_end zero (x ∷ xs) h = absurd (omega arith)
drop_end (suc i) (x ∷ xs) h = drop_end i xs (omega arith)

drop_left : {X : Type 0} {A : Type 0} (i : ℕ) (xs : List X) → i < length xs → drop i xs ≡ [] → A
drop_left i [] h e = absurd (omega arith)
drop_left zero (x ∷ xs) h e = absurd (cc)
drop_left (suc i) (x ∷ xs) h e = drop_left i xs (omega arith) e

-- a run of all events
pub run_all : (r : Rules) (orgs : List Bytes) (seats : ℕ) (limits : Limits) (reorder : Bool) (events : List Event) (replies : List Reply) (w : World)
    (refused : Bool) (i : ℕ) → StepLaw → IsOrdered [] (fresh_orderer r.edition limits reorder) →
    AreSteps r (opening r.edition orgs seats limits reorder) (take i events) replies w → refused ≡ false → length events ≤ i →
    IsRun r orgs seats limits reorder events replies w refused
run_all r orgs seats limits reorder events replies w refused i law start steps fine end =
    record {
      done = take i events;
      rest = drop i events;
      order = take-append-drop i events;
      steps = steps;
      whole = (λ h. drop_end i events end, λ h. fine);
      ordered = run_ordered law r [] (opening r.edition orgs seats limits reorder) (take i events) replies w start steps;
    }

true_false : true ≡ false → ⊥
true_false e = cc

-- a run that ended where memory was refused
pub run_part : (r : Rules) (orgs : List Bytes) (seats : ℕ) (limits : Limits) (reorder : Bool) (events : List Event) (replies : List Reply) (w : World)
    (refused : Bool) (i : ℕ) → StepLaw → IsOrdered [] (fresh_orderer r.edition limits reorder) →
    AreSteps r (opening r.edition orgs seats limits reorder) (take i events) replies w → refused ≡ true → i < length events →
    IsRun r orgs seats limits reorder events replies w refused
run_part r orgs seats limits reorder events replies w refused i law start steps bad more =
    record {
      done = take i events;
      rest = drop i events;
      order = take-append-drop i events;
      steps = steps;
      whole = (λ h. absurd (true_false (sym bad ∙ h)), λ h. drop_left i events more h);
      ordered = run_ordered law r [] (opening r.edition orgs seats limits reorder) (take i events) replies w start steps;
    }

-- the chains of a run are honest
pub honest_of : (exec : Exec) → ReadsAlone exec → (listed : Listed) → DoCarry listed →
    (seeds : Seeds) (capacity : ℕ) (orgs : List Bytes) (seats : ℕ) (limits : Limits) (reorder : Bool) (events : List Event) (replies : List Reply) (w : World)
    (refused : Bool) → IsRun (rules_of exec listed seeds capacity) orgs seats limits reorder events replies w refused → (peer : ℕ) (chain : Chain) →
    chain_of (rules_of exec listed seeds capacity) w peer ≡ Some chain → IsHonest exec (table_of listed) (right_of listed) replies chain
honest_of exec alone listed carries seeds capacity orgs seats limits reorder events replies w refused run peer chain is =
    honest_if exec alone listed carries seeds capacity (opening listed.edition orgs seats limits reorder) run.done replies w run.steps
    (slice_get w.peers peer) chain is
