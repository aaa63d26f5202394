-- Where blocks are of legal order, conflicts are with what stood before the block.
use Rattle.std.proofs.Common.{◌≡◌, ℕ, zero, suc, ◌+◌, ◌≤◌, ◌<◌, Bool, true, List, [], ◌∷◌, ◌++◌, take, length, Option, Some, None, option_map, refl, sym}
use Rattle.std.proofs.Common.{ap, ◌∙◌, subst, slice_get, inl, inr, arith}
use Rattle.std.specs.List.{AllByRecursion}
use Rattle.std.proofs.lemmas.Bool.{cases_lt}
use Rattle.std.proofs.lemmas.List.{take-append-le, take_all}
use Rattle.fab_types.specs.declared.block.Block.{Block}
use Rattle.fab_types.specs.declared.edition.Edition.{Edition}
use Rattle.fab_types.specs.declared.proposal.Proposal.{Proposal}
use Rattle.batch_cutter.specs.Division.{Limits, Mark, message, timeout}
use Rattle.ledger_model.specs.Chain.{Bytes, Envelope, Committed, Chain, Placed, transactions_from, history}
use Rattle.ledger_model.specs.State.{state}
use Rattle.ledger_model.specs.Judged.{BlockRule, table, judge, judge_onto}
use Rattle.ledger_model.specs.Legal.{DiffersBefore}
use Rattle.ledger_model.proofs.Kept.{block_legal}
use Rattle.orderer.specs.Arranged.{arranges_by}
use Rattle.orderer.specs.Blocks.{AddsEach, AreLegal}
use Rattle.orderer.specs.Ordering.{Ordering, Takes}
use Rattle.orderer.specs.declared.report.BatchReport.{BatchReport}
use Rattle.orderer.proofs.Arranging.{takes_legal}
use Rattle.fabric_core.specs.System.{Rules, PeerState, World, Event, Begin, Finish, Submit, Take, Tick, Commit, Reply, opening}
use Rattle.fabric_core.specs.System.{Nothing, Ordered, Cut, TooLarge, NoBlockLeft, chain_at, chain_of_first, begin, finish, commit, at_peer}
use Rattle.fabric_core.specs.System.{IsTakenIn, TakesFront, IsTicked, IsStep, AreSteps, chain_of}
use Rattle.fabric_core.specs.Headline.{IsRun, ConflictsAreOlder}
use Rattle.fabric_core.proofs.Runs.{at_peer_orderer, submit_orderer}

-- ---- what each mark keeps, a run keeps

abbrev IsKept : (Ordering → Type 0) → Type 0
IsKept P = (old : Ordering) (mark : Mark Envelope) (reports : List BatchReport) (new : Ordering) → P old → Takes old mark reports new → P new

peer_keeps : (P : Ordering → Type 0) (w : World) (p : ℕ) (o : Option (Reply × PeerState)) (reply : Reply) (new : World) → P w.orderer →
    at_peer w p o ≡ (reply, new) → P new.orderer
peer_keeps P w p o reply new was is = subst P (at_peer_orderer w p o ∙ ap (λ s. s.1.orderer) is) was

taken_keeps : (P : Ordering → Type 0) → IsKept P → (w : World) (e : Envelope) (es : List Envelope) (reply : Reply) (new : World) → P w.orderer →
    IsTakenIn w e es reply new → P new.orderer
taken_keeps P kept w e es (Ordered reports) new was t = subst P (ap (λ x. x.orderer) (sym t.4)) (kept w.orderer (message e) reports t.0 was t.1)
taken_keeps P kept w e es (TooLarge given) new was t = subst P (ap (λ x. x.orderer) (sym t.2)) was
taken_keeps P kept w e es (NoBlockLeft given) new was t = subst P (ap (λ x. x.orderer) (sym t.2)) was
taken_keeps P kept w e es reply new was t = absurd t

take_keeps : (P : Ordering → Type 0) → IsKept P → (w : World) (es : List Envelope) (reply : Reply) (new : World) → P w.orderer → TakesFront w es reply new →
    P new.orderer
take_keeps P kept w [] reply new was t = subst P (ap (λ x. x.orderer) (sym t.1)) was
take_keeps P kept w (e ∷ es) reply new was t = taken_keeps P kept w e es reply new was t

tick_keeps : (P : Ordering → Type 0) → IsKept P → (w : World) (reply : Reply) (new : World) → P w.orderer → IsTicked w reply new → P new.orderer
tick_keeps P kept w Nothing new was t = subst P (ap (λ x. x.orderer) (sym t.3)) (kept w.orderer timeout [] t.0 was t.1)
tick_keeps P kept w (Cut report) new was t = subst P (ap (λ x. x.orderer) (sym t.3)) (kept w.orderer timeout (report ∷ []) t.0 was t.1)
tick_keeps P kept w (NoBlockLeft given) new was t = subst P (ap (λ x. x.orderer) (sym t.2)) was
tick_keeps P kept w reply new was t = absurd t

step_keeps : (P : Ordering → Type 0) → IsKept P → (r : Rules) (w : World) (e : Event) (reply : Reply) (new : World) → P w.orderer → IsStep r w e reply new →
    P new.orderer
step_keeps P kept r w (Begin p s proposal) reply new was is = peer_keeps P w p (option_map (λ q. begin q s proposal) (slice_get w.peers p)) reply new was is
step_keeps P kept r w (Finish p s) reply new was is =
    peer_keeps P w p (option_map (λ q. finish r.exec r.seal (chain_at r w) q s) (slice_get w.peers p)) reply new was is
step_keeps P kept r w (Submit e) reply new was is = subst P (submit_orderer r w e ∙ ap (λ s. s.1.orderer) is) was
step_keeps P kept r w Take reply new was is = take_keeps P kept w w.queue reply new was is
step_keeps P kept r w Tick reply new was is = tick_keeps P kept w reply new was is
step_keeps P kept r w (Commit p) reply new was is = peer_keeps P w p (option_map (λ q. commit (chain_at r w) q) (slice_get w.peers p)) reply new was is

run_keeps : (P : Ordering → Type 0) → IsKept P → (r : Rules) (w : World) (es : List Event) (replies : List Reply) (new : World) → P w.orderer →
    AreSteps r w es replies new → P new.orderer
run_keeps P kept r w [] replies new was steps = subst P (ap (λ x. x.orderer) (sym steps.1)) was
run_keeps P kept r w (e ∷ es) replies new was steps =
    run_keeps P kept r steps.1 es steps.2 new (step_keeps P kept r w e steps.0 steps.1 was steps.4) steps.5

-- ---- legal order

abbrev IsArranging : Ordering → Type 0
IsArranging o = (o.reorder ≡ true) × AreLegal o.chain

arranging_kept : IsKept IsArranging
arranging_kept old mark reports new was takes = (
  takes.reorder ∙ was.0,
  takes_legal old.chain takes.batches reports new.chain
      (subst (λ (b : Bool). AddsEach (arranges_by b) old.chain takes.batches reports new.chain) was.0 takes.added) was.1,
)

take_legal : (n : ℕ) (blocks : List Block) → AreLegal blocks → AreLegal (take n blocks)
take_legal zero blocks are = tt
take_legal (suc n) [] are = tt
take_legal (suc n) (b ∷ blocks) are = (are.0, take_legal n blocks are.1)

get_front : {X : Type 0} (xs ys : List X) (i : ℕ) → i < length xs → slice_get (xs ++ ys) i ≡ slice_get xs i
get_front [] ys i h = absurd (omega arith)
get_front (x ∷ xs) ys zero h = refl
get_front (x ∷ xs) ys (suc i) h = get_front xs ys i (omega arith)

get_last : {X : Type 0} (xs : List X) (y : X) (i : ℕ) (c : X) → length xs ≤ i → slice_get (xs ++ y ∷ []) i ≡ Some c → (i ≡ length xs) × (y ≡ c)
get_last [] y zero c h e = (refl, let f : y ≡ c = cc in f)
get_last [] y (suc i) c h e = absurd (cc)
get_last (x ∷ xs) y zero c h e = absurd (omega arith)
get_last (x ∷ xs) y (suc i) c h e = let rest = get_last xs y i c (omega arith) e in (ap suc rest.0, rest.1)

-- the conflicts of one block are with the chain before it
abbrev IsOlderAt : Chain → ℕ → Committed → Type 0
IsOlderAt before number c = AllByRecursion (DiffersBefore (state (history before))) (transactions_from number 0 c.block.envelopes c.flags)

older_more : (before : Chain) (next : Committed) → ConflictsAreOlder before → IsOlderAt before (length before + 1) next →
    ConflictsAreOlder (before ++ next ∷ [])
older_more before next old here k c there =
    elim (cases_lt k (length before)) as (λ _. IsOlderAt (take k (before ++ next ∷ [])) (k + 1) c) [
      | inl less ↦
          subst (λ (front : Chain). IsOlderAt front (k + 1) c) (sym (take-append-le k before (next ∷ []) (omega arith)))
          (old k c (sym (get_front before (next ∷ []) k less) ∙ there))
      | inr past ↦
          let last = get_last before next k c past there in
          let most : k ≤ length before = omega (arith, last.0) in
          let front : take k (before ++ next ∷ []) ≡ before = take-append-le k before (next ∷ []) most ∙ take_all k before past in
          subst (λ (b : Chain). IsOlderAt b (k + 1) c) (sym front)
          (subst (λ (d : Committed). IsOlderAt before (k + 1) d) last.1 (subst (λ (n : ℕ). IsOlderAt before (n + 1) next) (sym last.0) here))
    ]

onto_older : (edition : Edition) (id : Proposal → Bytes) (endorsed : List Placed → Envelope → Bool) (before : Chain) (blocks : List Block) → AreLegal blocks →
    ConflictsAreOlder before → ConflictsAreOlder (judge_onto (table edition id endorsed) before blocks)
onto_older edition id endorsed before [] are old = old
onto_older edition id endorsed before (b ∷ blocks) are old =
    let ts = history before in
    let next : Committed = record { block = b; flags = judge (table edition id endorsed ts) ts (length before + 1) 0 b.envelopes } in
    onto_older edition id endorsed (before ++ next ∷ []) blocks are.1
    (older_more before next old (block_legal edition id (endorsed (history before)) (history before) (length before + 1) b.envelopes are.0))

no_block : {A : Type 0} (k : ℕ) (c : Committed) → slice_get [] k ≡ Some c → A
no_block k c e = absurd (cc)

none_older : ConflictsAreOlder []
none_older k c there = no_block k c there

same_Some : {X : Type 0} (x y : X) → Some x ≡ Some y → x ≡ y
same_Some x y e = cc

older_if : (edition : Edition) (id : Proposal → Bytes) (endorsed : List Placed → Envelope → Bool) (r : Rules) (w : World) (o : Option PeerState)
    (chain : Chain) →
    r.rule ≡ table edition id endorsed → AreLegal w.orderer.chain → option_map (λ q. chain_at r w q.height) o ≡ Some chain → ConflictsAreOlder chain
older_if edition id endorsed r w None chain rule are is = absurd (cc)
older_if edition id endorsed r w (Some q) chain rule are is =
    subst ConflictsAreOlder (same_Some _ _ is)
    (subst (λ (u : BlockRule). ConflictsAreOlder (chain_of_first u w.orderer.chain q.height)) (sym rule)
    (onto_older edition id endorsed [] (take q.height w.orderer.chain) (take_legal q.height w.orderer.chain are) none_older))

-- so it is with each chain of a run
pub older_run : (edition : Edition) (id : Proposal → Bytes) (endorsed : List Placed → Envelope → Bool) (r : Rules) (orgs : List Bytes) (seats : ℕ)
    (limits : Limits) (reorder : Bool) (events : List Event) (replies : List Reply) (w : World) (refused : Bool) → r.rule ≡ table edition id endorsed →
    IsRun r orgs seats limits reorder events replies w refused → reorder ≡ true → (peer : ℕ) (chain : Chain) → chain_of r w peer ≡ Some chain →
    ConflictsAreOlder chain
older_run edition id endorsed r orgs seats limits reorder events replies w refused rule run on peer chain is =
    let legal = run_keeps IsArranging arranging_kept r (opening r.edition orgs seats limits reorder) run.done replies w (on, tt) run.steps in
    older_if edition id endorsed r w (slice_get w.peers peer) chain rule legal.1 is
