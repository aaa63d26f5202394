-- What a machine does by itself are steps of a peer of a system whose orderer has the log's chain.
use Rattle.std.proofs.Common.{◌≡◌, ℕ, zero, suc, ◌+◌, ◌<◌, List, [], ◌∷◌, ◌++◌, length, take, Option, Some, None, Result, replicate, refl, sym, ap, subst}
use Rattle.std.proofs.Common.{◌∙◌, slice_get, arith, length-append}
use Rattle.std.specs.List.{flat_map}
use Rattle.fab_types.specs.declared.block.Block.{Block}
use Rattle.fab_types.specs.declared.envelope.Endorsement.{Endorsement}
use Rattle.fab_types.specs.Payloads.{Payload}
use Rattle.fab_types.specs.declared.proposal.Proposal.{Proposal}
use Rattle.orderer.specs.Adding.{BeginsWith}
use Rattle.orderer.specs.Ordering.{Ordering}
use Rattle.orderer.specs.declared.report.BatchReport.{BatchReport}
use Rattle.ledger_model.specs.Chain.{Bytes, Chain, Committed, history}
use Rattle.ledger_model.specs.Judged.{BlockRule, judge_onto, judged_chain}
use Rattle.ledger_model.specs.State.{state}
use Rattle.ledger_model.specs.Views.{values_of}
use Rattle.ledger_model.proofs.Judged.{judged_onto-append}
use Rattle.ledger_setting.specs.Rule.{table_of}
use Rattle.simulator.specs.Answers.{payload_or_refusal}
use Rattle.simulator.specs.Execution.{exec_of}
use Rattle.simulator.specs.declared.refusal.SimRefusal.{SimRefusal}
use Rattle.log_orderer.specs.Log.{ReadsEach}
use Rattle.log_committer.specs.Committing.{Commits}
use Rattle.endorser.specs.Endorsing.{endorsed_on}
use Rattle.fabric_core.specs.System.{Noted, PeerState, World, chain_of_first, begin, finish, finish_reply, commit, commit_next, AreSteps}
use Rattle.fabric_core.specs.declared.event.Event.TheVariants.{Begin, Finish, Commit}
use Rattle.fabric_core.specs.declared.event.Reply.{Reply}
use Rattle.fabric_core.specs.declared.event.Reply.TheVariants.{Begun, Committed as IsCommitted}
use Rattle.log_system.specs.Machines.{Setting, Act, Joins, Endorses, Does, DoesEach, IsRead, endorsing_at, unread}
use Rattle.log_system.specs.OneSystem.{rules_by, events_of_act, replies_of_act, replies_of_acts, height_after, reply_of}
use Rattle.log_system.proofs.Current.{finished}
use Rattle.log_system.proofs.Stepping.{one_step, two_steps, steps_joined, among, at_among, at_seam}

-- who has read less of the log has a beginning of the chain
abbrev pub IsBehind : Type 0
IsBehind =
    (old new behind : Ordering) (front back : List (List ℕ)) (answers some : List (Option (List BatchReport))) →
    ReadsEach old (front ++ back) answers new → ReadsEach old front some behind → BeginsWith behind.chain new.chain

-- ---- chains

pub get_front : {X : Type 0} (xs ys : List X) (i : ℕ) (x : X) → slice_get xs i ≡ Some x → slice_get (xs ++ ys) i ≡ Some x
get_front [] ys i x e = absurd (cc)
get_front (z ∷ xs) ys zero x e = e
get_front (z ∷ xs) ys (suc i) x e = get_front xs ys i x e

take_next : {X : Type 0} (xs : List X) (n : ℕ) (x : X) → slice_get xs n ≡ Some x → take (suc n) xs ≡ take n xs ++ x ∷ []
take_next [] n x e = absurd (cc)
take_next (y ∷ xs) zero x e = let f : y ≡ x = cc in ap (λ z. z ∷ []) f
take_next (y ∷ xs) (suc n) x e = ap (λ zs. y ∷ zs) (take_next xs n x e)

-- a chain of the first blocks of the log's
abbrev pub IsFirstOf : BlockRule → List Block → Chain → Type 0
IsFirstOf rule blocks chain = chain ≡ chain_of_first rule blocks (length chain)

-- the chain with the next block
next_chain : (rule : BlockRule) (blocks : List Block) (chain : Chain) (b : Block) → IsFirstOf rule blocks chain → slice_get blocks (length chain) ≡ Some b →
    chain_of_first rule blocks (length chain + 1) ≡ judge_onto rule chain (b ∷ [])
next_chain rule blocks chain b is there =
    let n = length chain in
    let one : n + 1 ≡ suc n = omega arith in
    ap (λ k. judged_chain rule (take k blocks)) one
    ∙ ap (judged_chain rule) (take_next blocks n b there)
    ∙ judged_onto-append rule [] (take n blocks) (b ∷ [])
    ∙ ap (λ (d : Chain). judge_onto rule d (b ∷ [])) (sym is)

-- what a part of the log has at a place, the whole has there
block_there : IsBehind → (s : Setting) (lines : List (List ℕ)) (answers : List (Option (List BatchReport))) (log : Ordering) (place : ℕ) (block : Block) →
    ReadsEach (unread s) lines answers log → IsRead s lines place block → slice_get log.chain place ≡ Some block
block_there behind s lines answers log place block reads is =
    let all = subst (λ (l : List (List ℕ)). ReadsEach (unread s) l answers log) (sym is.parts) reads in
    let begins = behind (unread s) log is.replica is.front is.back answers is.answers all is.reads in
    ap (λ (blocks : List Block). slice_get blocks place) begins.1 ∙ get_front is.replica.chain begins.0 place block is.there

-- ---- one act

-- a peer of an organisation with a chain, and free seats
abbrev pub peer_at : ℕ → Bytes → Chain → PeerState
peer_at seats org chain = record { org = org; height = length chain; seats = replicate seats None }

-- a commit, where the chain of one block more is this one
committed : (chains : ℕ → Chain) (seats : ℕ) (org : Bytes) (chain new : Chain) (c : Committed) → chains (length chain + 1) ≡ new → new ≡ chain ++ c ∷ [] →
    commit chains (peer_at seats org chain) ≡ (IsCommitted (length chain + 1) c.flags, peer_at seats org new)
committed chains seats org chain new c is made =
    let there : slice_get (chains (length chain + 1)) (length chain) ≡ Some c =
    ap (λ (d : Chain). slice_get d (length chain)) (is ∙ made) ∙ at_seam chain c [] in
    let tall : length chain + 1 ≡ length new = sym (ap (λ (d : Chain). length d) made ∙ length-append chain (c ∷ [])) in
    ap (commit_next (peer_at seats org chain)) there
    ∙ (λ i. (IsCommitted (length chain + 1) c.flags, record { org = org; height = tall i; seats = replicate seats None }))

-- a peer with a proposal at its first seat
abbrev busy_at : ℕ → Bytes → Chain → Proposal → PeerState
busy_at others org chain p =
    let noted : Noted = record { proposal = p; height = length chain } in
    record { org = org; height = length chain; seats = Some noted ∷ replicate others None }

begun : (others : ℕ) (org : Bytes) (chain : Chain) (p : Proposal) →
    begin (peer_at (suc others) org chain) 0 p ≡ (Begun (length chain), busy_at others org chain p)
begun others org chain p = refl

ended : (s : Setting) (chains : ℕ → Chain) (others : ℕ) (org : Bytes) (chain : Chain) (p : Proposal) → chain ≡ chains (length chain) →
    finish (exec_of s.book) s.seal chains (busy_at others org chain p) 0 ≡
    (reply_of (endorsed_on (endorsing_at s org) p chain), peer_at (suc others) org chain)
ended s chains others org chain p is =
    let exec = exec_of s.book in
    let m = state (history chain) in
    let o = exec p (values_of m) in
    let free = peer_at (suc others) org chain in
    let reply_on : Chain → Reply = λ d. finish_reply (state (history d)) (s.seal (values_of (state (history d))) org) (payload_or_refusal exec p d) in
    ap {B = Reply × PeerState} (λ (d : Chain). (reply_on d, free)) (sym is)
    ∙ ap {B = Reply × PeerState} (λ (reply : Reply). (reply, free)) (finished (s.seal (values_of m) org) p m o.ending o.seen)

-- a peer with its chain among others
abbrev pub world_at : ℕ → Ordering → List PeerState → List PeerState → Bytes → Chain → World
world_at seats log front back org chain = among log front back (peer_at seats org chain)

-- an act are these steps of the peer, which leave its chain one of the log's first blocks
abbrev pub IsActed : Setting → (seats capacity : ℕ) → Ordering → (front back : List PeerState) → Bytes → Chain → Act → Chain → Type 0
IsActed s seats capacity log front back org chain act new =
    AreSteps (rules_by s capacity) (world_at seats log front back org chain) (events_of_act (length front) act) (replies_of_act (length chain) act)
    (world_at seats log front back org new)
    × IsFirstOf (table_of s.listed) log.chain new × (length new ≡ height_after (length chain) act)

joins : (s : Setting) (seats capacity : ℕ) (log : Ordering) (front back : List PeerState) (org : Bytes) (chain new : Chain) (c : Committed) →
    IsFirstOf (table_of s.listed) log.chain chain → slice_get log.chain (length chain) ≡ Some c.block →
    Commits (table_of s.listed) chain (c.block ∷ []) new → new ≡ chain ++ c ∷ [] → IsActed s seats capacity log front back org chain (Joins c) new
joins s seats capacity log front back org chain new c is there commits made =
    let rule : BlockRule = table_of s.listed in
    let r = rules_by s capacity in
    let next : chain_of_first rule log.chain (length chain + 1) ≡ new = next_chain rule log.chain chain c.block is there ∙ sym commits.1 in
    let tall : length new ≡ length chain + 1 = ap (λ (d : Chain). length d) made ∙ length-append chain (c ∷ []) in
    let told = committed (chain_of_first rule log.chain) seats org chain new c next made in (
      one_step r (world_at seats log front back org chain) (Commit (length front)) (IsCommitted (length chain + 1) c.flags)
          (world_at seats log front back org new)
          (at_among log front back (peer_at seats org chain) (peer_at seats org new) (λ q. commit (chain_of_first rule log.chain) q)
          (IsCommitted (length chain + 1) c.flags) told),
      sym next ∙ ap (chain_of_first rule log.chain) (sym tall),
      tall,
    )

answers_at : (s : Setting) (others capacity : ℕ) (log : Ordering) (front back : List PeerState) (org : Bytes) (chain : Chain) (p : Proposal) →
    IsFirstOf (table_of s.listed) log.chain chain →
    AreSteps (rules_by s capacity) (world_at (suc others) log front back org chain) (Begin (length front) 0 p ∷ Finish (length front) 0 ∷ [])
    (Begun (length chain) ∷ reply_of (endorsed_on (endorsing_at s org) p chain) ∷ [])
    (world_at (suc others) log front back org chain)
answers_at s others capacity log front back org chain p is =
    let rule : BlockRule = table_of s.listed in
    let chains = chain_of_first rule log.chain in
    let free = peer_at (suc others) org chain in
    let busy = busy_at others org chain p in
    let reply = reply_of (endorsed_on (endorsing_at s org) p chain) in
    two_steps (rules_by s capacity) (among log front back free) (among log front back busy) (among log front back free) (Begin (length front) 0 p)
    (Finish (length front) 0) (Begun (length chain)) reply
    (at_among log front back free busy (λ q. begin q 0 p) (Begun (length chain)) (begun others org chain p))
    (at_among log front back busy free (λ q. finish (exec_of s.book) s.seal chains q 0) reply (ended s chains others org chain p is))

answers : (s : Setting) (seats capacity : ℕ) (log : Ordering) (front back : List PeerState) (org : Bytes) (chain new : Chain) (p : Proposal)
    (answer : Result (Payload × Endorsement) SimRefusal) → 0 < seats → IsFirstOf (table_of s.listed) log.chain chain →
    answer ≡ endorsed_on (endorsing_at s org) p chain → new ≡ chain →
    IsActed s seats capacity log front back org chain (Endorses p answer) new
answers s zero capacity log front back org chain new p answer some is told same = absurd (omega arith)
answers s (suc others) capacity log front back org chain new p answer some is told same = (
  rw (told, same) (answers_at s others capacity log front back org chain p is),
  subst (IsFirstOf (table_of s.listed) log.chain) (sym same) is,
  ap (λ (d : Chain). length d) same,
)

pub acted : IsBehind → (s : Setting) (seats capacity : ℕ) (lines : List (List ℕ)) (told : List (Option (List BatchReport))) (log : Ordering) →
    ReadsEach (unread s) lines told log → 0 < seats → (front back : List PeerState) (org : Bytes) (chain new : Chain) (act : Act) →
    IsFirstOf (table_of s.listed) log.chain chain → Does s lines org chain act new → IsActed s seats capacity log front back org chain act new
acted behind s seats capacity lines told log reads some front back org chain new (Joins c) is does =
    joins s seats capacity log front back org chain new c is (block_there behind s lines told log (length chain) c.block reads does.0) does.1 does.2
acted behind s seats capacity lines told log reads some front back org chain new (Endorses p answer) is does =
    answers s seats capacity log front back org chain new p answer some is does.0 does.1

-- ---- one act after another

pub acted_each : IsBehind → (s : Setting) (seats capacity : ℕ) (lines : List (List ℕ)) (told : List (Option (List BatchReport))) (log : Ordering) →
    ReadsEach (unread s) lines told log → 0 < seats → (front back : List PeerState) (org : Bytes) (chain new : Chain) (acts : List Act) →
    IsFirstOf (table_of s.listed) log.chain chain → DoesEach s lines org chain acts new →
    AreSteps (rules_by s capacity) (world_at seats log front back org chain) (flat_map (events_of_act (length front)) acts)
    (replies_of_acts (length chain) acts) (world_at seats log front back org new)
    × IsFirstOf (table_of s.listed) log.chain new
acted_each behind s seats capacity lines told log reads some front back org chain new [] is does =
    ((refl, ap (world_at seats log front back org) does), subst (IsFirstOf (table_of s.listed) log.chain) (sym does) is)
acted_each behind s seats capacity lines told log reads some front back org chain new (act ∷ acts) is does =
    let next = does.0 in
    let one = acted behind s seats capacity lines told log reads some front back org chain next act is does.1 in
    let others = acted_each behind s seats capacity lines told log reads some front back org next new acts one.1 does.2 in
    let r = rules_by s capacity in
    let later = subst (λ (n : ℕ). AreSteps r (world_at seats log front back org next) (flat_map (events_of_act (length front)) acts)
    (replies_of_acts n acts) (world_at seats log front back org new)) one.2 others.0 in (
      steps_joined r (world_at seats log front back org chain) (world_at seats log front back org next) (world_at seats log front back org new)
          (events_of_act (length front) act) (flat_map (events_of_act (length front)) acts) (replies_of_act (length chain) act)
          (replies_of_acts (height_after (length chain) act) acts) one.0 later,
      others.1,
    )
