-- What a peer does is what a machine does: it joins the blocks that its chain gets, and answers each call on the same chain.
use Rattle.std.proofs.Common.{◌≡◌, ◌≤◌, ℕ, List, [], ◌∷◌, ◌++◌, arith, length, map, Option, refl, sym, ap, subst, ◌∙◌}
use Rattle.std.proofs.lemmas.List.{append-nil, append_assoc, append_cancel_left}
use Rattle.fab_types.specs.declared.block.Block.{Block}
use Rattle.orderer.specs.declared.report.BatchReport.{BatchReport}
use Rattle.ledger_model.specs.Chain.{Bytes, Chain}
use Rattle.ledger_model.specs.Judged.{BlockRule}
use Rattle.ledger_setting.specs.Rule.{table_of}
use Rattle.committer.specs.Fits.{blocks_of}
use Rattle.store_replay.specs.Lawful.{AreLawful}
use Rattle.log_orderer.specs.Log.{ReadsEach}
use Rattle.log_orderer.specs.Reported.{answer_of}
use Rattle.log_committer.specs.Committing.{ReceivesAll}
use Rattle.log_committer.specs.Peering.{HasEach, Held, made_by}
use Rattle.log_committer.specs.declared.receiving.Received.{Received}
use Rattle.log_committer.proofs.Peering.{Grows, ReadsOneWay, blocks_grow, grows_on, line_kept, one_line}
use Rattle.log_system.specs.Machines.{Act, Does, DoesEach, Endorses, Joins, Setting}
use Rattle.log_system.specs.Peers.{Answers, Call, Deed, DoesDeeds, IsMachine, Takes, begun, calls_in, calls_of, lines_of}
use Rattle.log_system.specs.Restarts.{AreToldApart, ReceivesEach}
use Rattle.log_system.proofs.Restarting.{AreReceived, restart_joins}

-- ---- acts

does_joined : (s : Setting) (lines : List (List ℕ)) (org : Bytes) (chain between new : Chain) (front back : List Act) →
    DoesEach s lines org chain front between → DoesEach s lines org between back new → DoesEach s lines org chain (front ++ back) new
does_joined s lines org chain between new [] back f b = subst (λ (c : Chain). DoesEach s lines org c back new) f b
does_joined s lines org chain between new (act ∷ front) back f b = (f.0, f.1, does_joined s lines org f.0 between new front back f.2 b)

-- where blocks join, some first and then others, the chain is in between that with the first
joins_parted : (s : Setting) (lines : List (List ℕ)) (org : Bytes) (chain new front back : Chain) →
    DoesEach s lines org chain (map Joins (front ++ back)) new →
    DoesEach s lines org chain (map Joins front) (chain ++ front) × DoesEach s lines org (chain ++ front) (map Joins back) new
joins_parted s lines org chain new [] back does =
    (append-nil chain, subst (λ (c : Chain). DoesEach s lines org c (map Joins back) new) (sym (append-nil chain)) does)
joins_parted s lines org chain new (c ∷ front) back does =
    let next = chain ++ c ∷ [] in
    let same : next ++ front ≡ chain ++ c ∷ front = append_assoc chain (c ∷ []) front in
    let later = joins_parted s lines org next new front back
    (subst (λ (d : Chain). DoesEach s lines org d (map Joins (front ++ back)) new) does.1.2 does.2) in (
      (
        next,
        subst (λ (d : Chain). Does s lines org chain (Joins c) d) does.1.2 does.1,
        subst (λ (d : Chain). DoesEach s lines org next (map Joins front) d) same later.0,
      ),
      subst (λ (d : Chain). DoesEach s lines org d (map Joins back) new) same later.1,
    )

-- beside a log that goes on
act_beside : (s : Setting) (lines later : List (List ℕ)) (org : Bytes) (chain new : Chain) (act : Act) → Does s lines org chain act new →
    Does s (lines ++ later) org chain act new
act_beside s lines later org chain new (Joins c) does =
    let is = does.0 in (
      record {
        front = is.front;
        back = is.back ++ later;
        parts = sym (append_assoc is.front is.back later) ∙ ap (λ (l : List (List ℕ)). l ++ later) is.parts;
        answers = is.answers;
        replica = is.replica;
        reads = is.reads;
        there = is.there;
      },
      does.1,
      does.2,
    )
act_beside s lines later org chain new (Endorses p answer) does = does

acts_beside : (s : Setting) (lines later : List (List ℕ)) (org : Bytes) (chain new : Chain) (acts : List Act) → DoesEach s lines org chain acts new →
    DoesEach s (lines ++ later) org chain acts new
acts_beside s lines later org chain new [] does = does
acts_beside s lines later org chain new (act ∷ acts) does =
    (does.0, act_beside s lines later org chain does.0 act does.1, acts_beside s lines later org does.0 new acts does.2)

joins_quiet : (chain : Chain) (acts : List Act) → calls_in (map Joins chain ++ acts) ≡ calls_in acts
joins_quiet [] acts = refl
joins_quiet (c ∷ chain) acts = joins_quiet chain acts

-- ---- blocks that are received

each_of_all : (rule : BlockRule) (old between new : Chain) (front back : List Block) (told : List Received) → ReceivesAll rule old front told between →
    ReceivesEach rule between back new → ReceivesEach rule old (front ++ back) new
each_of_all rule old between new [] back told f b = subst (λ (c : Chain). ReceivesEach rule c back new) f.1 b
each_of_all rule old between new (x ∷ front) back told f b = (f.0, f.2, f.4, each_of_all rule f.2 between new front back f.1 f.5 b)

-- ---- deeds

module _ (s : Setting) (org : Bytes) where
  deeds_read : (old new : Held) (deeds : List Deed) → DoesDeeds s org old deeds new →
      (answers : List (Option (List BatchReport))) × ReadsEach old.log (lines_of deeds) answers new.log
  deeds_read old new [] does = ([], (refl, ap (λ (h : Held). h.log) does))
  deeds_read old new (Takes line ∷ deeds) does =
      let rest = deeds_read does.2 new deeds does.4 in
      (answer_of does.0 ∷ rest.0, (answer_of does.0, rest.0, does.2.log, refl, does.3.reads, rest.1))
  deeds_read old new (Answers call ∷ deeds) does = deeds_read old new deeds does.1

  deeds_received : (old new : Held) (deeds : List Deed) → DoesDeeds s org old deeds new →
      (blocks : List Block) × (new.log.chain ≡ old.log.chain ++ blocks) × ReceivesEach (table_of s.listed) old.chain blocks new.chain
  deeds_received old new [] does = ([], ap (λ (h : Held). h.log.chain) does ∙ sym (append-nil old.log.chain), ap (λ (h : Held). h.chain) does)
  deeds_received old new (Takes line ∷ deeds) does =
      let rest = deeds_received does.2 new deeds does.4 in
      let made = made_by does.0 in (
        made ++ rest.0,
        rest.1 ∙ ap (λ (bs : List Block). bs ++ rest.0) does.3.blocks.chain ∙ append_assoc old.log.chain made rest.0,
        each_of_all (table_of s.listed) old.chain does.2.chain new.chain made rest.0 does.1 does.3.received rest.2,
      )
  deeds_received old new (Answers call ∷ deeds) does = deeds_received old new deeds does.1

  deeds_grow : (old new : Held) (deeds : List Deed) → DoesDeeds s org old deeds new → Grows old.chain new.chain
  deeds_grow old new [] does = ([], ap (λ (h : Held). h.chain) does ∙ sym (append-nil old.chain))
  deeds_grow old new (Takes line ∷ deeds) does =
      grows_on old.chain does.2.chain new.chain (blocks_grow (table_of s.listed) old.chain does.2.chain (made_by does.0) does.1 does.3.received)
      (deeds_grow does.2 new deeds does.4)
  deeds_grow old new (Answers call ∷ deeds) does = deeds_grow old new deeds does.1

  -- where the blocks that the chain gets join it, the deeds are these acts, and an answer to each call between them
  deeds_act : (lines : List (List ℕ)) (old new : Held) (deeds : List Deed) (more : Chain) → DoesDeeds s org old deeds new → new.chain ≡ old.chain ++ more →
      DoesEach s lines org old.chain (map Joins more) new.chain →
      (acts : List Act) × (calls_in acts ≡ calls_of deeds) × DoesEach s lines org old.chain acts new.chain
  deeds_act lines old new [] more does grown joins = ([], refl, ap (λ (h : Held). h.chain) does)
  deeds_act lines old new (Takes line ∷ deeds) more does grown joins =
      let next = does.2 in
      let first = blocks_grow (table_of s.listed) old.chain next.chain (made_by does.0) does.1 does.3.received in
      let later = deeds_grow next new deeds does.4 in
      let both = later.1 ∙ ap (λ (c : Chain). c ++ later.0) first.1 ∙ append_assoc old.chain first.0 later.0 in
      let same : more ≡ first.0 ++ later.0 = append_cancel_left old.chain more (first.0 ++ later.0) (sym grown ∙ both) in
      let parted = joins_parted s lines org old.chain new.chain first.0 later.0
      (subst (λ (c : Chain). DoesEach s lines org old.chain (map Joins c) new.chain) same joins) in
      let here = subst (λ (c : Chain). DoesEach s lines org old.chain (map Joins first.0) c) (sym first.1) parted.0 in
      let rest = deeds_act lines next new deeds later.0 does.4 later.1
      (subst (λ (c : Chain). DoesEach s lines org c (map Joins later.0) new.chain) (sym first.1) parted.1) in (
        map Joins first.0 ++ rest.0,
        joins_quiet first.0 rest.0 ∙ rest.1,
        does_joined s lines org old.chain next.chain new.chain (map Joins first.0) rest.0 here rest.2,
      )
  deeds_act lines old new (Answers call ∷ deeds) more does grown joins =
      let rest = deeds_act lines old new deeds more does.1 grown joins in
      (Endorses call.0 call.1 ∷ rest.0, ap (λ (cs : List Call). call ∷ cs) rest.1, (old.chain, (does.0, refl), rest.2))

pub peer_is_machine : AreReceived → (s : Setting) (later : List (List ℕ)) (org : Bytes) (stored : Chain) (deeds : List Deed) (new : Held) →
    AreLawful (table_of s.listed) [] stored → DoesDeeds s org (begun s stored) deeds new → AreToldApart (blocks_of stored) new.log.chain →
    length new.chain ≤ length new.log.chain → IsMachine s (lines_of deeds ++ later) org (calls_of deeds) new.chain
peer_is_machine laws s later org stored deeds new lawful does apart short =
    let start = begun s stored in
    let lines = lines_of deeds in
    let read = deeds_read s org start new deeds does in
    let got = deeds_received s org start new deeds does in
    let all = subst (λ (bs : List Block). ReceivesEach (table_of s.listed) stored bs new.chain) (sym got.1) got.2 in
    let joins = acts_beside s lines later org [] new.chain (map Joins new.chain)
    (restart_joins laws s lines read.0 new.log org stored new.chain read.1 lawful apart all short) in
    let grown = deeds_grow s org start new deeds does in
    let parted = joins_parted s (lines ++ later) org [] new.chain stored grown.0
    (subst (λ (c : Chain). DoesEach s (lines ++ later) org [] (map Joins c) new.chain) grown.1 joins) in
    let rest = deeds_act s org (lines ++ later) start new deeds grown.0 does grown.1 parted.1 in
    record {
      acts = map Joins stored ++ rest.0;
      answered = joins_quiet stored rest.0 ∙ rest.1;
      does = does_joined s (lines ++ later) org [] stored new.chain (map Joins stored) rest.0 parted.0 rest.2;
    }

-- ---- what holds of all that a peer does

-- its chain has each block that the lines made
pub deeds_have : (s : Setting) (org : Bytes) (old new : Held) (deeds : List Deed) → HasEach old.log.chain old.chain → DoesDeeds s org old deeds new →
    HasEach new.log.chain new.chain
deeds_have s org old new [] has does = subst (λ (h : Held). HasEach h.log.chain h.chain) (sym does) has
deeds_have s org old new (Takes line ∷ deeds) has does =
    let is = does.3 in
    deeds_have s org does.2 new deeds
    (line_kept (table_of s.listed) old line does.0 does.1 does.2.log does.2.chain has is.reads is.blocks is.received) does.4
deeds_have s org old new (Answers call ∷ deeds) has does = deeds_have s org old new deeds has does.1

pub peer_has : (s : Setting) (org : Bytes) (stored : Chain) (deeds : List Deed) (new : Held) → DoesDeeds s org (begun s stored) deeds new →
    HasEach new.log.chain new.chain
peer_has s org stored deeds new does = deeds_have s org (begun s stored) new deeds (record { linked = tt; few = omega arith; same = tt }) does

pub one_way : ReadsOneWay → (s : Setting) (org : Bytes) (old new other : Held) (deeds : List Deed) → DoesDeeds s org old deeds new →
    DoesDeeds s org old deeds other → new ≡ other
one_way reads s org old new other [] a b = a ∙ sym b
one_way reads s org old new other (Takes line ∷ deeds) a b =
    let next = one_line reads (table_of s.listed) old a.2 b.2 line a.0 b.0 a.1 b.1 a.3 b.3 in
    one_way reads s org a.2 new other deeds a.4 (subst (λ (h : Held). DoesDeeds s org h deeds other) (sym next.3) b.4)
one_way reads s org old new other (Answers call ∷ deeds) a b = one_way reads s org old new other deeds a.1 b.1
