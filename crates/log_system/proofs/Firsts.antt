-- The chain of a machine is that of the log's first blocks, which are linked, numbered and, where batches are put in order, of legal order.
use Rattle.std.proofs.Common.{inl, inr, ◌≡◌, ◌≤◌, ◌<◌, ◌⊎◌, ◌+◌, ℕ, zero, suc, Bool, true, List, [], ◌∷◌, ◌++◌, take, drop, length, length-take, Option, Some}
use Rattle.std.proofs.Common.{None}
use Rattle.std.proofs.Common.{refl, sym, ap, subst, ◌∙◌, slice_get, arith}
use Rattle.std.proofs.Math.Nat.{le_trans}
use Rattle.std.proofs.lemmas.Bool.{cases_lt}
use Rattle.std.proofs.lemmas.List.{append-nil, append_assoc, map-append, take-append-le, take_all}
use Rattle.std.proofs.lemmas.Option.{slice_get_within}
use Rattle.std.specs.List.{AllByRecursion}
use Rattle.fab_types.proofs.Editions.{last_block_most}
use Rattle.fab_types.specs.declared.block.Block.{Block}
use Rattle.fab_types.specs.declared.envelope.Envelope.{Envelope}
use Rattle.batch_cutter.specs.Division.{Mark}
use Rattle.orderer.specs.Arranged.{arranges_by}
use Rattle.orderer.specs.Blocks.{AddsEach, AreLegal}
use Rattle.orderer.specs.Ordering.{Ordering}
use Rattle.orderer.specs.declared.report.BatchReport.{BatchReport}
use Rattle.orderer.proofs.Arranging.{takes_legal}
use Rattle.orderer.proofs.Linking.{each_linked, linked_at}
use Rattle.wire.specs.Ids.{id_of}
use Rattle.wire.specs.Links.{AreLinked}
use Rattle.ledger_model.specs.Chain.{Chain, Committed, history, transactions_from}
use Rattle.ledger_model.specs.Judged.{BlockRule, judge, judge_onto, judged_chain}
use Rattle.ledger_model.specs.Legal.{DiffersBefore}
use Rattle.ledger_model.specs.Serial.{IsPrefix}
use Rattle.ledger_model.specs.State.{state}
use Rattle.ledger_model.proofs.Judged.{judged_grows, judged_onto-append}
use Rattle.ledger_model.proofs.Kept.{block_legal}
use Rattle.committer.specs.Fits.{Fits, blocks_of}
use Rattle.endorsement_policy.specs.Endorsed.{is_endorsed}
use Rattle.ledger_setting.specs.Rule.{table_of}
use Rattle.log_orderer.specs.Log.{Reads, ReadsEach, TakesMark}
use Rattle.fabric_core.specs.System.{chain_of_first}
use Rattle.fabric_core.specs.Headline.{ConflictsAreOlder, IsAmong}
use Rattle.log_system.specs.Machines.{AreMachines, DoesEach, Machine, Setting, unread}
use Rattle.log_system.proofs.Acting.{IsBehind, IsFirstOf, acted_each}
use Rattle.log_system.proofs.Among.{none_among, same_some}

-- ---- two chains of first blocks

take_parts : {X : Type 0} (xs : List X) (k n : ℕ) → k ≤ n → take k xs ++ drop k (take n xs) ≡ take n xs
take_parts xs zero n h = refl
take_parts [] (suc k) zero h = refl
take_parts [] (suc k) (suc n) h = refl
take_parts (x ∷ xs) (suc k) zero h = absurd (omega arith)
take_parts (x ∷ xs) (suc k) (suc n) h = ap (λ ys. x ∷ ys) (take_parts xs k n (omega arith))

prefix_first : (rule : BlockRule) (blocks : List Block) (k n : ℕ) → k ≤ n → IsPrefix (chain_of_first rule blocks k) (chain_of_first rule blocks n)
prefix_first rule blocks k n h =
    let front = take k blocks in
    let back = drop k (take n blocks) in
    let more = judged_grows rule (judged_chain rule front) back in
    (more.0, more.1 ∙ sym (judged_onto-append rule [] front back) ∙ ap (judged_chain rule) (take_parts blocks k n h))

prefix_of : (rule : BlockRule) (blocks : List Block) (a b : Chain) → IsFirstOf rule blocks a → IsFirstOf rule blocks b → length a ≤ length b → IsPrefix a b
prefix_of rule blocks a b is are h =
    subst (λ (c : Chain). IsPrefix c b) (sym is)
    (subst (λ (c : Chain). IsPrefix (chain_of_first rule blocks (length a)) c) (sym are) (prefix_first rule blocks (length a) (length b) h))

pub one_begins : (rule : BlockRule) (blocks : List Block) (a b : Chain) → IsFirstOf rule blocks a → IsFirstOf rule blocks b → IsPrefix a b ⊎ IsPrefix b a
one_begins rule blocks a b is are =
    elim (cases_lt (length a) (length b)) as (λ _. IsPrefix a b ⊎ IsPrefix b a) [
      | inl less ↦ inl (prefix_of rule blocks a b is are (omega (arith, less)))
      | inr most ↦ inr (prefix_of rule blocks b a are is most)
    ]

-- ---- a machine's chain

pub does_at : (s : Setting) (lines : List (List ℕ)) (machines : List Machine) (m : Machine) (i : ℕ) → AreMachines s lines machines →
    slice_get machines i ≡ Some m → DoesEach s lines m.org [] m.acts m.chain
does_at s lines [] m i are e = none_among m (i, e)
does_at s lines (n ∷ machines) m zero are e = subst (λ (l : Machine). DoesEach s lines l.org [] l.acts l.chain) (same_some n m e) are.0
does_at s lines (n ∷ machines) m (suc i) are e = does_at s lines machines m i are.1 e

pub first_of : IsBehind → (s : Setting) (lines : List (List ℕ)) (told : List (Option (List BatchReport))) (log : Ordering) →
    ReadsEach (unread s) lines told log → (machines : List Machine) (m : Machine) → AreMachines s lines machines → IsAmong m machines →
    IsFirstOf (table_of s.listed) log.chain m.chain
first_of behind s lines told log reads machines m are there =
    let does = does_at s lines machines m there.0 are there.1 in
    (acted_each behind s 1 1 lines told log reads (omega arith) [] [] m.org [] m.chain m.acts refl does).1

pub same_log : IsBehind → (s : Setting) (lines : List (List ℕ)) (told : List (Option (List BatchReport))) (log : Ordering) →
    ReadsEach (unread s) lines told log → (machines : List Machine) (m n : Machine) → AreMachines s lines machines → IsAmong m machines →
    IsAmong n machines → IsPrefix m.chain n.chain ⊎ IsPrefix n.chain m.chain
same_log behind s lines told log reads machines m n are here there =
    one_begins (table_of s.listed) log.chain m.chain n.chain (first_of behind s lines told log reads machines m are here)
    (first_of behind s lines told log reads machines n are there)

-- ---- what each mark keeps, a log keeps

abbrev IsKept : (Ordering → Type 0) → Type 0
IsKept P = (old new : Ordering) (mark : Mark Envelope) (reports : List BatchReport) → P old → TakesMark old mark reports new → P new

line_keeps : (P : Ordering → Type 0) → IsKept P → (old new : Ordering) (line : List ℕ) (answer : Option (List BatchReport)) → P old →
    Reads old line answer new → P new
line_keeps P kept old new line None was reads = subst P (sym reads.1) was
line_keeps P kept old new line (Some reports) was reads = kept old new reads.0 reports was reads.2

log_keeps : (P : Ordering → Type 0) → IsKept P → (old new : Ordering) (lines : List (List ℕ)) (answers : List (Option (List BatchReport))) → P old →
    ReadsEach old lines answers new → P new
log_keeps P kept old new [] answers was reads = subst P (sym reads.1) was
log_keeps P kept old new (line ∷ lines) answers was reads =
    log_keeps P kept reads.2 new lines reads.1 (line_keeps P kept old reads.2 line reads.0 was reads.4) reads.5

abbrev IsLinked : Ordering → Type 0
IsLinked o = AreLinked [] o.chain × (length o.chain ≤ 4000000000)

linked_kept : IsKept IsLinked
linked_kept old new mark reports was takes =
    (each_linked (arranges_by old.reorder) old.chain takes.0.batches reports new.chain takes.0.added was.0, le_trans takes.2 (last_block_most old.edition))

linked_log : (s : Setting) (log : Ordering) (lines : List (List ℕ)) (answers : List (Option (List BatchReport))) → ReadsEach (unread s) lines answers log →
    IsLinked log
linked_log s log lines answers reads = log_keeps IsLinked linked_kept (unread s) log lines answers (tt, omega arith) reads

pub log_linked : (s : Setting) (log : Ordering) (lines : List (List ℕ)) (answers : List (Option (List BatchReport))) →
    ReadsEach (unread s) lines answers log → AreLinked [] log.chain
log_linked s log lines answers reads = (linked_log s log lines answers reads).0

abbrev IsArranging : Ordering → Type 0
IsArranging o = (o.reorder ≡ true) × AreLegal o.chain

arranging_kept : IsKept IsArranging
arranging_kept old new mark reports was takes = (
  takes.0.reorder ∙ was.0,
  takes_legal old.chain takes.0.batches reports new.chain
      (subst (λ (b : Bool). AddsEach (arranges_by b) old.chain takes.0.batches reports new.chain) was.0 takes.0.added) was.1,
)

-- ---- the block behind a machine's chain

pub blocks_onto : (rule : BlockRule) (chain : Chain) (blocks : List Block) → blocks_of (judge_onto rule chain blocks) ≡ blocks_of chain ++ blocks
blocks_onto rule chain [] = sym (append-nil (blocks_of chain))
blocks_onto rule chain (b ∷ bs) =
    let next : Committed = record { block = b; flags = judge (rule (history chain)) (history chain) (length chain + 1) 0 b.envelopes } in
    blocks_onto rule (chain ++ next ∷ []) bs
    ∙ ap (λ (front : List Block). front ++ bs) (map-append (λ (c : Committed). c.block) chain (next ∷ []))
    ∙ append_assoc (blocks_of chain) (b ∷ []) bs

pub next_fits : IsBehind → (s : Setting) (lines : List (List ℕ)) (told : List (Option (List BatchReport))) (log : Ordering) →
    ReadsEach (unread s) lines told log → (machines : List Machine) (m : Machine) (next : Block) → AreMachines s lines machines → IsAmong m machines →
    slice_get log.chain (length m.chain) ≡ Some next → Fits (blocks_of m.chain) next
next_fits behind s lines told log reads machines m next are here there =
    let rule : BlockRule = table_of s.listed in
    let n = length m.chain in
    let front = take n log.chain in
    let first = first_of behind s lines told log reads machines m are here in
    let linked = linked_log s log lines told reads in
    let most = linked.1 in
    let header = linked_at [] log.chain n next linked.0 there in
    let inside = slice_get_within log.chain n next there in
    let short = length-take n log.chain in
    subst (λ (bs : List Block). Fits bs next) (sym (ap (λ (c : Chain). blocks_of c) first ∙ blocks_onto rule [] front))
    (record {
      room = omega (arith, short, inside, most);
      number = ap (λ h. h.number) header;
      previous_hash = ap (λ h. h.previous_hash) header;
      data_hash = ap (λ h. h.data_hash) header;
    })

-- ---- conflicts

take_legal : (n : ℕ) (blocks : List Block) → AreLegal blocks → AreLegal (take n blocks)
take_legal zero blocks are = tt
take_legal (suc n) [] are = tt
take_legal (suc n) (b ∷ blocks) are = (are.0, take_legal n blocks are.1)

-- what stands at a place of a chain and one block more
placed : (before : Chain) (next c : Committed) (k : ℕ) → slice_get (before ++ next ∷ []) k ≡ Some c →
    ((k < length before) × (slice_get before k ≡ Some c)) ⊎ ((k ≡ length before) × (next ≡ c))
placed [] next c zero e = inr (refl, same_some next c e)
placed [] next c (suc k) e = absurd (cc)
placed (d ∷ before) next c zero e = inl (omega arith, e)
placed (d ∷ before) next c (suc k) e =
    elim (placed before next c k e) [
      | inl front ↦ inl (let less = front.0 in omega (arith, less), front.1)
      | inr last ↦ inr (ap suc last.0, last.1)
    ]

-- the conflicts of one block are with the chain before it
abbrev IsOlderAt : Chain → ℕ → Committed → Type 0
IsOlderAt before number c = AllByRecursion (DiffersBefore (state (history before))) (transactions_from number 0 c.block.envelopes c.flags)

older_more : (before : Chain) (next : Committed) → ConflictsAreOlder before → IsOlderAt before (length before + 1) next →
    ConflictsAreOlder (before ++ next ∷ [])
older_more before next old here k c there =
    elim (placed before next c k there) as (λ _. IsOlderAt (take k (before ++ next ∷ [])) (k + 1) c) [
      | inl front ↦
          let less = front.0 in
          subst (λ (d : Chain). IsOlderAt d (k + 1) c) (sym (take-append-le k before (next ∷ []) (omega (arith, less)))) (old k c front.1)
      | inr last ↦
          let whole : take (length before) (before ++ next ∷ []) ≡ before =
          take-append-le (length before) before (next ∷ []) (omega arith) ∙ take_all (length before) before (omega arith) in
          let at : IsOlderAt (take (length before) (before ++ next ∷ [])) (length before + 1) c =
          subst (λ (d : Chain). IsOlderAt d (length before + 1) c) (sym whole)
          (subst (λ (d : Committed). IsOlderAt before (length before + 1) d) last.1 here) in
          subst (λ (n : ℕ). IsOlderAt (take n (before ++ next ∷ [])) (n + 1) c) (sym last.0) at
    ]

onto_older : (s : Setting) (before : Chain) (blocks : List Block) → AreLegal blocks → ConflictsAreOlder before →
    ConflictsAreOlder (judge_onto (table_of s.listed) before blocks)
onto_older s before [] are old = old
onto_older s before (b ∷ blocks) are old =
    let rule : BlockRule = table_of s.listed in
    let ts = history before in
    let next : Committed = record { block = b; flags = judge (rule ts) ts (length before + 1) 0 b.envelopes } in
    let endorsed : Envelope → Bool = λ e. is_endorsed s.listed (state ts) e in
    onto_older s (before ++ next ∷ []) blocks are.1
    (older_more before next old (block_legal s.listed.edition id_of endorsed ts (length before + 1) b.envelopes are.0))

none_older : ConflictsAreOlder []
none_older k c there = none_among c (k, there)

pub older_machine : IsBehind → (s : Setting) (lines : List (List ℕ)) (told : List (Option (List BatchReport))) (log : Ordering) →
    ReadsEach (unread s) lines told log → (machines : List Machine) (m : Machine) → s.reorder ≡ true → AreMachines s lines machines →
    IsAmong m machines → ConflictsAreOlder m.chain
older_machine behind s lines told log reads machines m on are here =
    let first = first_of behind s lines told log reads machines m are here in
    let legal = log_keeps IsArranging arranging_kept (unread s) log lines told (on, tt) reads in
    subst ConflictsAreOlder (sym first)
    (onto_older s [] (take (length m.chain) log.chain) (take_legal (length m.chain) log.chain legal.1) none_older)
