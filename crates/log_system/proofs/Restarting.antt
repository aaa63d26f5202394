-- A machine that begins again has a chain that the log's begins.
use Rattle.std.proofs.Common.{◌≡◌, ◌≤◌, ℕ, zero, suc, ◌+◌, List, [], ◌∷◌, ◌++◌, length, length-append, length-take, map, take, drop, Option, Some, Ok}
use Rattle.std.proofs.Common.{refl, sym, ap, subst, ◌∙◌, slice_get, arith}
use Rattle.std.proofs.lemmas.List.{append-nil, append_assoc, length-map, map-append, take-append-drop}
use Rattle.std.proofs.lemmas.Option.{slice_get_within}
use Rattle.fab_types.specs.declared.block.Block.{Block}
use Rattle.orderer.specs.Ordering.{Ordering}
use Rattle.orderer.specs.declared.report.BatchReport.{BatchReport}
use Rattle.orderer.proofs.Linking.{linked_at}
use Rattle.wire.specs.Links.{AreLinked}
use Rattle.ledger_model.specs.Chain.{Bytes, Chain, Committed}
use Rattle.ledger_model.specs.Judged.{BlockRule, judged_chain}
use Rattle.ledger_model.specs.Serial.{IsPrefix}
use Rattle.ledger_model.proofs.Judged.{judged_grows, judged_onto-append}
use Rattle.ledger_setting.specs.Rule.{table_of}
use Rattle.committer.specs.Fits.{blocks_of}
use Rattle.store_replay.specs.Lawful.{AreLawful}
use Rattle.log_orderer.specs.Log.{ReadsEach}
use Rattle.log_committer.specs.Committing.{Commits, Receives, header_hash, own_hash}
use Rattle.log_committer.specs.declared.receiving.Received.{Received}
use Rattle.log_committer.specs.declared.receiving.Received.TheVariants.{Committed as WasCommitted, Known}
use Rattle.fabric_core.specs.Headline.{IsAmong}
use Rattle.fabric_core.specs.System.{chain_of_first}
use Rattle.log_system.specs.Machines.{Act, DoesEach, IsRead, Joins, Setting, unread}
use Rattle.log_system.specs.Restarts.{AreToldApart, ReceivesEach}
use Rattle.log_system.proofs.Acting.{IsBehind, acted_each}
use Rattle.log_system.proofs.Among.{later_among, none_among, same_some}
use Rattle.log_system.proofs.Firsts.{blocks_onto, log_linked}
use Rattle.log_system.proofs.Roles.{stored_acts}
use Rattle.log_system.proofs.Stepping.{at_seam}

-- what holds of who receives blocks: a lawful chain has its own blocks committed, who commits on has all committed, and such a chain is lawful
pub record AreReceived : Type 0 where
  pub restarted : (rule : BlockRule) (chain : Chain) → AreLawful rule [] chain → Commits rule [] (blocks_of chain) chain
  pub onward : (rule : BlockRule) (chain between new : Chain) (front back : List Block) → Commits rule chain front between → Commits rule between back new →
      Commits rule chain (front ++ back) new
  pub replayed : (rule : BlockRule) (chain : Chain) (blocks : List Block) → Commits rule [] blocks chain → AreLawful rule [] chain

-- ---- the chain that a restart comes to

-- a chain that begins with these blocks of the log; those behind them are of the store
record IsAhead (rule : BlockRule) (log front : List Block) (chain : Chain) : Type 0 where
  rest : List Block
  parts : front ++ rest ≡ blocks_of chain
  commits : Commits rule [] (blocks_of chain) chain
  apart : AreToldApart rest log

own_block : (chain : Chain) (place : ℕ) (block : Block) → own_hash chain (suc place) ≡ Some (header_hash block) →
    (own : Block) × (slice_get (blocks_of chain) place ≡ Some own) × (header_hash own ≡ header_hash block)
own_block [] place block e = absurd (cc)
own_block (c ∷ chain) zero block e = (c.block, refl, same_some (header_hash c.block) (header_hash block) e)
own_block (c ∷ chain) (suc place) block e = own_block chain place block e

no_seam : {X A : Type 0} (xs : List X) (x : X) → slice_get xs (length xs) ≡ Some x → A
no_seam [] x e = absurd (cc)
no_seam (y ∷ xs) x e = no_seam xs x e

module _ (laws : AreReceived) (rule : BlockRule) (log : List Block) where
  -- the log's next block
  received : (front : List Block) (b : Block) (chain next : Chain) (told : Received) (rest : List Block) → front ++ rest ≡ blocks_of chain →
      Commits rule [] (blocks_of chain) chain → AreToldApart rest log → IsAmong b log → b.header.number ≡ suc (length front) →
      Receives rule chain b (Ok told) next → IsAhead rule log (front ++ b ∷ []) next
  received front b chain next WasCommitted [] parts commits apart there number is =
      let blocks : blocks_of next ≡ blocks_of chain ++ b ∷ [] = ap (λ (c : Chain). blocks_of c) is.1 ∙ blocks_onto rule chain (b ∷ []) in
      record {
        rest = [];
        parts = append-nil (front ++ b ∷ []) ∙ ap (λ (f : List Block). f ++ b ∷ []) (sym (append-nil front) ∙ parts) ∙ sym blocks;
        commits = subst (λ (bs : List Block). Commits rule [] bs next) (sym blocks)
            (laws.onward rule [] chain next (blocks_of chain) (b ∷ []) commits is);
        apart = λ x y among others same. none_among x among;
      }
  received front b chain next WasCommitted (x ∷ rest) parts commits apart there number is =
      let all = ap (λ (bs : List Block). length bs) parts in
      let long = length-append front (x ∷ rest) in
      let own = is.0.0.number in
      absurd (omega (arith, all, long, own, number))
  received front b chain next Known [] parts commits apart there number is =
      let own = own_block chain (length front) b (subst (λ (n : ℕ). own_hash chain n ≡ Some (header_hash b)) number is.0) in
      no_seam front own.0 (ap (λ (bs : List Block). slice_get bs (length front)) (sym (append-nil front) ∙ parts) ∙ own.1)
  received front b chain next Known (x ∷ rest) parts commits apart there number is =
      let own = own_block chain (length front) b (subst (λ (n : ℕ). own_hash chain n ≡ Some (header_hash b)) number is.0) in
      let first : x ≡ own.0 =
      same_some x own.0 (sym (at_seam front x rest) ∙ ap (λ (bs : List Block). slice_get bs (length front)) parts ∙ own.1) in
      let same : x ≡ b = apart x b (0, refl) there (ap header_hash first ∙ own.2) in
      let now = sym is.1 in
      record {
        rest = rest;
        parts = append_assoc front (b ∷ []) rest ∙ ap (λ (y : Block). front ++ y ∷ rest) (sym same) ∙ parts ∙ ap (λ (c : Chain). blocks_of c) now;
        commits = subst (λ (c : Chain). Commits rule [] (blocks_of c) c) now commits;
        apart = λ y z among others. apart y z (later_among y x rest among) others;
      }

  -- and all of them
  received_each : (front back : List Block) (chain new : Chain) → front ++ back ≡ log → AreLinked [] log → IsAhead rule log front chain →
      ReceivesEach rule chain back new → IsAhead rule log log new
  received_each front [] chain new all linked is got =
      subst (λ (c : Chain). IsAhead rule log log c) (sym got)
      (subst (λ (f : List Block). IsAhead rule log f chain) (sym (append-nil front) ∙ all) is)
  received_each front (b ∷ back) chain new all linked is got =
      let n = length front in
      let there : slice_get log n ≡ Some b = ap (λ (bs : List Block). slice_get bs n) (sym all) ∙ at_seam front b back in
      let header = ap (λ h. h.number) (linked_at [] log n b linked there) in
      let inside = slice_get_within log n b there in
      let short = length-take n log in
      let number : b.header.number ≡ suc n = omega (arith, header, inside, short) in
      let next = received front b chain got.1 got.0 is.rest is.parts is.commits is.apart (n, there) number got.2 in
      received_each (front ++ b ∷ []) back got.1 new (append_assoc front (b ∷ []) back ∙ all) linked next got.3

  ahead : (stored new : Chain) → AreLinked [] log → AreLawful rule [] stored → AreToldApart (blocks_of stored) log → ReceivesEach rule stored log new →
      IsAhead rule log log new
  ahead stored new linked lawful apart got =
      received_each [] log stored new refl linked
      (record { rest = blocks_of stored; parts = refl; commits = laws.restarted rule stored lawful; apart = apart }) got

  -- the log's chain begins it
  begins : (new : Chain) → IsAhead rule log log new → IsPrefix (judged_chain rule log) new
  begins new is =
      let more = judged_grows rule (judged_chain rule log) is.rest in
      (more.0, more.1 ∙ sym (judged_onto-append rule [] log is.rest) ∙ ap (judged_chain rule) is.parts ∙ sym is.commits.1)

pub restart_begins : AreReceived → (s : Setting) (lines : List (List ℕ)) (answers : List (Option (List BatchReport))) (log : Ordering) (stored new : Chain) →
    ReadsEach (unread s) lines answers log → AreLawful (table_of s.listed) [] stored → AreToldApart (blocks_of stored) log.chain →
    ReceivesEach (table_of s.listed) stored log.chain new → IsPrefix (judged_chain (table_of s.listed) log.chain) new
restart_begins laws s lines answers log stored new reads lawful apart got =
    let rule : BlockRule = table_of s.listed in
    begins laws rule log.chain new (ahead laws rule log.chain stored new (log_linked s log lines answers reads) lawful apart got)

-- ---- the machine that it is

module _ (s : Setting) (lines : List (List ℕ)) (answers : List (Option (List BatchReport))) (log : Ordering) (reads : ReadsEach (unread s) lines answers log)
    (org : Bytes) where
  read_at : (chain : Chain) (c : Committed) (more : Chain) → blocks_of (chain ++ c ∷ more) ≡ log.chain → IsRead s lines (length chain) c.block
  read_at chain c more all =
      let block_in : Committed → Block = λ d. d.block in
      let there : slice_get log.chain (length chain) ≡ Some c.block =
      ap (λ (bs : List Block). slice_get bs (length chain)) (sym all ∙ map-append block_in chain (c ∷ more))
      ∙ ap (λ (n : ℕ). slice_get (blocks_of chain ++ c.block ∷ blocks_of more) n) (sym (length-map chain block_in))
      ∙ at_seam (blocks_of chain) c.block (blocks_of more) in
      record { front = lines; back = []; parts = append-nil lines; answers = answers; replica = log; reads = reads; there = there }

  joined_each : (chain more : Chain) → AreLawful (table_of s.listed) chain more → blocks_of (chain ++ more) ≡ log.chain →
      DoesEach s lines org chain (map Joins more) (chain ++ more)
  joined_each chain [] lawful all = append-nil chain
  joined_each chain (c ∷ more) lawful all =
      let next = chain ++ c ∷ [] in
      let same : next ++ more ≡ chain ++ c ∷ more = append_assoc chain (c ∷ []) more in (
        next,
        stored_acts s lines org (length chain) c chain (read_at chain c more all) (lawful.0, lawful.1, tt),
        subst (λ (end : Chain). DoesEach s lines org next (map Joins more) end) same
            (joined_each next more lawful.2 (ap (λ (d : Chain). blocks_of d) same ∙ all)),
      )

none_left : {X : Type 0} (xs ys : List X) → length (xs ++ ys) ≤ length xs → ys ≡ []
none_left xs [] h = refl
none_left xs (y ∷ ys) h = let long = length-append xs (y ∷ ys) in absurd (omega (arith, h, long))

-- where the chain is no longer than the log's, it has the same blocks
same_blocks : (rule : BlockRule) (log : List Block) (new : Chain) → IsAhead rule log log new → length new ≤ length log → blocks_of new ≡ log
same_blocks rule log new is short =
    let tall = ap (λ (bs : List Block). length bs) is.parts in
    let same = length-map new (λ (c : Committed). c.block) in
    let none = none_left log is.rest (omega (arith, tall, same, short)) in
    sym is.parts ∙ ap (λ (bs : List Block). log ++ bs) none ∙ append-nil log

-- it did no more than to commit the log's blocks from an empty chain on
pub restart_joins : AreReceived → (s : Setting) (lines : List (List ℕ)) (answers : List (Option (List BatchReport))) (log : Ordering) (org : Bytes)
    (stored new : Chain) → ReadsEach (unread s) lines answers log → AreLawful (table_of s.listed) [] stored → AreToldApart (blocks_of stored) log.chain →
    ReceivesEach (table_of s.listed) stored log.chain new → length new ≤ length log.chain → DoesEach s lines org [] (map Joins new) new
restart_joins laws s lines answers log org stored new reads lawful apart got short =
    let rule : BlockRule = table_of s.listed in
    let is = ahead laws rule log.chain stored new (log_linked s log lines answers reads) lawful apart got in
    joined_each s lines answers log reads org [] new (laws.replayed rule new (blocks_of new) is.commits) (same_blocks rule log.chain new is short)

-- ---- with what it did before

first_begins : (rule : BlockRule) (blocks : List Block) (n : ℕ) → IsPrefix (chain_of_first rule blocks n) (judged_chain rule blocks)
first_begins rule blocks n =
    let more = judged_grows rule (judged_chain rule (take n blocks)) (drop n blocks) in
    (more.0, more.1 ∙ sym (judged_onto-append rule [] (take n blocks) (drop n blocks)) ∙ ap (judged_chain rule) (take-append-drop n blocks))

lawful_behind : (rule : BlockRule) (chain front back : Chain) → AreLawful rule chain (front ++ back) → AreLawful rule (chain ++ front) back
lawful_behind rule chain [] back h = subst (λ (d : Chain). AreLawful rule d back) (sym (append-nil chain)) h
lawful_behind rule chain (c ∷ front) back h =
    subst (λ (d : Chain). AreLawful rule d back) (append_assoc chain (c ∷ []) front) (lawful_behind rule (chain ++ c ∷ []) front back h.2)

does_more : (s : Setting) (lines : List (List ℕ)) (org : Bytes) (old mid new : Chain) (acts more : List Act) → DoesEach s lines org old acts mid →
    DoesEach s lines org mid more new → DoesEach s lines org old (acts ++ more) new
does_more s lines org old mid new [] more did does = subst (λ (d : Chain). DoesEach s lines org d more new) did does
does_more s lines org old mid new (act ∷ acts) more did does = (did.0, did.1, does_more s lines org did.0 mid new acts more did.2 does)

-- what it did before, and the commits of the log's other blocks, are what one machine did
pub restart_goes_on : IsBehind → AreReceived → (s : Setting) (lines : List (List ℕ)) (answers : List (Option (List BatchReport))) (log : Ordering)
    (org : Bytes) (acts : List Act) (before stored new : Chain) → ReadsEach (unread s) lines answers log → DoesEach s lines org [] acts before →
    AreLawful (table_of s.listed) [] stored → AreToldApart (blocks_of stored) log.chain → ReceivesEach (table_of s.listed) stored log.chain new →
    length new ≤ length log.chain → (rest : Chain) × (before ++ rest ≡ new) × DoesEach s lines org [] (acts ++ map Joins rest) new
restart_goes_on behind laws s lines answers log org acts before stored new reads did lawful apart got short =
    let rule : BlockRule = table_of s.listed in
    let is = ahead laws rule log.chain stored new (log_linked s log lines answers reads) lawful apart got in
    let blocks = same_blocks rule log.chain new is short in
    let first = (acted_each behind s 1 1 lines answers log reads (omega arith) [] [] org [] before acts refl did).1 in
    let more = first_begins rule log.chain (length before) in
    let rest = more.0 in
    let whole : before ++ rest ≡ new =
    ap (λ (c : Chain). c ++ rest) first ∙ more.1 ∙ sym (is.commits.1 ∙ ap (judged_chain rule) blocks) in
    let good = lawful_behind rule [] before rest (subst (AreLawful rule []) (sym whole) (laws.replayed rule new (blocks_of new) is.commits)) in
    let on = joined_each s lines answers log reads org before rest good (ap (λ (c : Chain). blocks_of c) whole ∙ blocks) in (
      rest,
      whole,
      does_more s lines org [] before new acts (map Joins rest) did
          (subst (λ (c : Chain). DoesEach s lines org before (map Joins rest) c) whole on),
    )
