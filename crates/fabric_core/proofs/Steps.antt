-- The steps of the definitions, on the fields of a system.
use Rattle.std.proofs.Common.{◌≡◌, ℕ, zero, suc, ◌+◌, ◌<◌, ◌≤◌, List, [], ◌∷◌, ◌++◌, map, length, length-append, Option, Some, None, Result, Ok, Err, IfOk}
use Rattle.std.proofs.Common.{OnErr, option_map, replicate, refl, sym, ap, ◌∙◌, subst, slice_get, slice_set, get_or, take, arith}
use Rattle.std.proofs.lemmas.List.{map-append}
use Rattle.std.specs.List.{AllByRecursion}
use Rattle.fab_types.specs.Payloads.{Payload}
use Rattle.ledger_model.specs.Chain.{Bytes, Envelope, Flag, Committed, Chain, history}
use Rattle.ledger_model.specs.State.{state}
use Rattle.ledger_model.specs.Views.{Plain, values_of}
use Rattle.ledger_model.specs.Execution.{Exec}
use Rattle.fab_types.specs.declared.block.Block.{Block}
use Rattle.fab_types.specs.declared.envelope.Endorsement.{Endorsement}
use Rattle.org_keys.specs.Signers.{Seeds}
use Rattle.endorsement_policy.specs.Endorsed.{Listed}
use Rattle.ledger_model.specs.Judged.{BlockRule, judge}
use Rattle.std.specs.Option.{option_to_list}
use Rattle.batch_cutter.specs.Division.{Mark, timeout}
use Rattle.orderer.specs.Ordering.{Ordering, Takes}
use Rattle.orderer.specs.declared.report.BatchReport.{BatchReport}
use Rattle.orderer.proofs.Refusing.{takes_begins}
use Rattle.world_state.specs.Judging.{flagged}
use Rattle.world_state.specs.declared.judged.Judged.{Judged}
use Rattle.ledger_setting.specs.Judging.{IsJudged, next_by}
use Rattle.ledger_setting.specs.Rule.{table_of}
use Rattle.simulator.specs.declared.refusal.SimRefusal.{SimRefusal}
use Rattle.simulator.specs.Answers.{payload_or_refusal}
use Rattle.fabric_core.specs.System.{PeerState, World, Reply, Begun as IsBegun, Nothing, IsCommitted, fresh, chain_of_first, begin_seat, begin, finish_reply}
use Rattle.fabric_core.specs.System.{finish_seat, finish, commit_next, commit, at_peer}
use Rattle.fabric_core.specs.Inside.{State, noted, seats_of, peer_of, world_of, IsFirst, IsSeatRight, IsPeerRight, IsRight}
use Rattle.chaincode_book.specs.Books.{Book}
use Rattle.fabric_core.specs.declared.peer.Begun.{Begun}
use Rattle.fabric_core.specs.declared.peer.Peer.{Peer}
use Rattle.fabric_core.proofs.Lists.{slice_get_map, slice_set_map, slice_set_same, all_set, all_get, all_map, at_place, last_of, take_next, get_here}
use Rattle.fabric_core.proofs.Blocks.{stays, next_chain, past_end}

-- what a peer has at a seat
pub seat_at : (seats now : List (Option Begun)) (i : ℕ) (x o : Option Begun) → now ≡ seats → i < length now → ((d : Option Begun) → x ≡ get_or now i d) →
    x ≡ o → slice_get seats i ≡ Some o
seat_at seats now i x o same h f is = sym (ap (λ xs. slice_get xs i) same) ∙ at_place now i x h f ∙ ap Some is

shown_at : (seats : List (Option Begun)) (i : ℕ) (o : Option Begun) → slice_get seats i ≡ Some o → slice_get (seats_of seats) i ≡ Some (option_map noted o)
shown_at seats i o e = slice_get_map (option_map noted) seats i ∙ ap (option_map (option_map noted)) e

pub begin_free : (p : Peer) (s : ℕ) (b : Begun) (height : ℕ) → slice_get p.seats.items s ≡ Some None → b.snapshot.value ≡ p.snapshot.value →
    height ≡ length b.snapshot.value →
    begin (peer_of p) s b.proposal ≡
    (IsBegun height, record { org = p.org; height = length p.snapshot.value; seats = seats_of (slice_set p.seats.items s (Some b)) })
begin_free p s b height free same tall =
    let q : length p.snapshot.value ≡ height = sym (tall ∙ ap (λ c. length c) same) in
    let r : slice_set (seats_of p.seats.items) s (Some (record { proposal = b.proposal; height = length p.snapshot.value })) ≡
    seats_of (slice_set p.seats.items s (Some b)) =
    ap (λ c. slice_set (seats_of p.seats.items) s (Some (record { proposal = b.proposal; height = length c }))) (sym same)
    ∙ sym (slice_set_map (option_map noted) p.seats.items s (Some b))
    in
    ap (begin_seat (peer_of p) s b.proposal) (shown_at p.seats.items s None free)
    ∙ (λ i. (IsBegun (q i), record { org = p.org; height = length p.snapshot.value; seats = r i }))

pub finish_held : (exec : Exec) (seal : Plain → Bytes → Payload → Endorsement) (chain : ℕ → Chain) (p : Peer) (s : ℕ) (b : Begun)
    (answer : Result Payload SimRefusal) (reply : Reply) → IsPeerRight chain p → slice_get p.seats.items s ≡ Some (Some b) →
    payload_or_refusal exec b.proposal b.snapshot.value ≡ answer →
    finish_reply (state (history p.snapshot.value)) (seal (values_of (state (history p.snapshot.value))) p.org) answer ≡ reply →
    finish exec seal chain (peer_of p) s ≡ (reply, record { org = p.org; height = length p.snapshot.value; seats = seats_of (slice_set p.seats.items s None) })
finish_held exec seal chain p s b answer reply right held told is =
    let of : IsFirst chain b.snapshot.value = all_get (IsSeatRight chain) p.seats.items s (Some b) right.seats held in
    let reply_on : Chain → Result Payload SimRefusal → Reply = λ newest.
    finish_reply (state (history newest)) (seal (values_of (state (history newest))) p.org) in
    let q : reply_on (chain (length p.snapshot.value)) (payload_or_refusal exec b.proposal (chain (length b.snapshot.value))) ≡ reply =
    (λ i. reply_on (sym right.kept i) (payload_or_refusal exec b.proposal (sym of i))) ∙ ap (reply_on p.snapshot.value) told ∙ is
    in
    let r : slice_set (seats_of p.seats.items) s None ≡ seats_of (slice_set p.seats.items s None) =
    sym (slice_set_map (option_map noted) p.seats.items s None) in
    ap (finish_seat exec seal chain (peer_of p) s) (shown_at p.seats.items s (Some b) held)
    ∙ (λ i. (q i, record { org = p.org; height = length p.snapshot.value; seats = r i }))

-- what happens at a peer happens in the world
pub in_world : (peers : List Peer) (queue : List Envelope) (orderer : Ordering) (f : PeerState → Reply × PeerState) (p : ℕ) (old new : Peer) (reply : Reply) →
    slice_get peers p ≡ Some old → f (peer_of old) ≡ (reply, peer_of new) →
    at_peer (world_of peers queue orderer) p (option_map f (slice_get (map peer_of peers) p)) ≡ (reply, world_of (slice_set peers p new) queue orderer)
in_world peers queue orderer f p old new reply there told =
    let w = world_of peers queue orderer in
    ap (λ o. at_peer w p (option_map f o)) (slice_get_map peer_of peers p ∙ ap (option_map peer_of) there)
    ∙ ap {B = Reply × World} (λ s. (s.0, record w { peers = slice_set (map peer_of peers) p s.1 })) told
    ∙ (λ i. (reply, record w { peers = sym (slice_set_map peer_of peers p new) i }))

-- a peer that is right where it was
pub peer_set : (listed : Listed) (peers : List Peer) (blocks : List Block) (p : ℕ) (old new : Peer) → IsRight listed peers blocks →
    slice_get peers p ≡ Some old → ((chain : ℕ → Chain) → IsPeerRight chain old → IsPeerRight chain new) → IsRight listed (slice_set peers p new) blocks
peer_set listed peers blocks p old new right there kept =
    let chain = chain_of_first (table_of listed) blocks in
    let P = IsPeerRight chain in
    all_set P peers p new right (kept chain (all_get P peers p old right there))

-- a system as it is seen
abbrev pub shown : Book → Listed → Seeds → ℕ → List Peer → List Envelope → Ordering → State
shown book listed seeds capacity peers queue orderer =
    record { book = book; rules = listed; seeds = seeds; capacity = capacity; world = world_of peers queue orderer }

pub unchanged : (book : Book) (listed : Listed) (seeds : Seeds) (capacity : ℕ) (peers : List Peer) (queue : List Envelope) (orderer : Ordering) (p : ℕ)
    (old new : Peer) → slice_get peers p ≡ Some old → new ≡ old →
    shown book listed seeds capacity (slice_set peers p new) queue orderer ≡ shown book listed seeds capacity peers queue orderer
unchanged book listed seeds capacity peers queue orderer p old new there same =
    ap (λ ps. shown book listed seeds capacity ps queue orderer) (ap (slice_set peers p) same ∙ slice_set_same peers p old there)

pub if_ok : {T E : Type 0} (P Q : T → Type 0) (r : Result T E) → ((x : T) → P x → Q x) → IfOk r P → IfOk r Q
if_ok P Q (Ok x) f h = f x h
if_ok P Q (Err e) f h = tt

pub on_err : {T E : Type 0} (P Q : Type 0) (r : Result T E) → (P → Q) → OnErr r P → OnErr r Q
on_err P Q (Ok x) f h = tt
on_err P Q (Err e) f h = f h

-- in either case
pub either_way : {T E : Type 0} (X : Type 0) (P : T → Type 0) (Q : Type 0) (r : Result T E) → ((x : T) → P x → X) → (Q → X) → IfOk r P → OnErr r Q → X
either_way X P Q (Ok x) f g h k = f x h
either_way X P Q (Err e) f g h k = g k

-- peers stay right as blocks are appended
pub blocks_more : (listed : Listed) (peers : List Peer) (blocks more : List Block) → IsRight listed peers blocks → IsRight listed peers (blocks ++ more)
blocks_more listed peers blocks more right =
    let rule : BlockRule = table_of listed in
    let old = chain_of_first rule blocks in
    let new = chain_of_first rule (blocks ++ more) in
    let first : (c : Chain) → IsFirst old c → IsFirst new c = λ c h. stays rule blocks more c h in
    all_map (IsPeerRight old) (IsPeerRight new) peers (λ p h. record {
      kept = first p.snapshot.value h.kept;
      seats = all_map (IsSeatRight old) (IsSeatRight new) p.seats.items (elim [ None ↦ λ k. tt | Some b ↦ λ k. first b.snapshot.value k ]) h.seats;
    }) right

-- as the orderer takes a mark
pub mark_right : (listed : Listed) (peers : List Peer) (old : Ordering) (mark : Mark Envelope) (reports : List BatchReport) (new : Ordering) →
    IsRight listed peers old.chain → Takes old mark reports new → IsRight listed peers new.chain
mark_right listed peers old mark reports new right takes =
    let begins = takes_begins old mark reports new takes in
    subst (IsRight listed peers) (sym begins.1) (blocks_more listed peers old.chain begins.0 right)

pub timed_right : (listed : Listed) (peers : List Peer) (old : Ordering) (report : Option BatchReport) (new : Ordering) → IsRight listed peers old.chain →
    Takes old timeout (option_to_list report) new → IsRight listed peers new.chain
timed_right listed peers old report new right takes = mark_right listed peers old timeout (option_to_list report) new right takes

-- a block that was judged, put behind the snapshot that shows a chain
pub put_on : (rule : BlockRule) (chain shown made : Chain) (b : Block) (judged : Judged) → shown ≡ chain → IsJudged rule shown b judged →
    made ≡ shown ++ flagged b judged ∷ [] → made ≡ chain ++ next_by rule chain b ∷ []
put_on rule chain shown made b judged same is on =
    on ∙ ap (λ (fs : List Flag). shown ++ record { block = b; flags = fs } ∷ []) is.flags ∙ ap (λ (c : Chain). c ++ next_by rule c b ∷ []) same

-- and what is replied of it
pub put_reply : (rule : BlockRule) (chain shown made : Chain) (b : Block) (judged : Judged) (n : ℕ) (flags : List Flag) → shown ≡ chain →
    IsJudged rule shown b judged → made ≡ shown ++ flagged b judged ∷ [] → n ≡ length made → flags ≡ judged.flags.items →
    IsCommitted n flags ≡ IsCommitted (length chain + 1) (next_by rule chain b).flags
put_reply rule chain shown made b judged n flags same is on tall told =
    let whole = put_on rule chain shown made b judged same is on in
    let number : n ≡ length chain + 1 = tall ∙ ap (λ (c : Chain). length c) whole ∙ length-append chain (next_by rule chain b ∷ []) in
    let flagged : flags ≡ (next_by rule chain b).flags = told ∙ is.flags ∙ ap (λ (c : Chain). (next_by rule c b).flags) same in
    λ i. IsCommitted (number i) (flagged i)

-- a peer with the next block
pub committed : (rule : BlockRule) (blocks : List Block) (old new : Peer) (b : Block) (reply : Reply) → IsPeerRight (chain_of_first rule blocks) old →
    slice_get blocks (length old.snapshot.value) ≡ Some b →
    reply ≡ IsCommitted (length old.snapshot.value + 1)
    (judge (rule (history old.snapshot.value)) (history old.snapshot.value) (length old.snapshot.value + 1) 0 b.envelopes) →
    new.snapshot.value ≡ old.snapshot.value ++
    record { block = b; flags = judge (rule (history old.snapshot.value)) (history old.snapshot.value) (length old.snapshot.value + 1) 0 b.envelopes } ∷ [] →
    new.seats.items ≡ old.seats.items → new.org ≡ old.org →
    (commit (chain_of_first rule blocks) (peer_of old) ≡ (reply, peer_of new)) × IsPeerRight (chain_of_first rule blocks) new
committed rule blocks old new b reply right there told made seats org =
    let c = old.snapshot.value in
    let next : Committed = record { block = b; flags = judge (rule (history c)) (history c) (length c + 1) 0 b.envelopes } in
    let chain : chain_of_first rule blocks (length c + 1) ≡ c ++ next ∷ [] = next_chain rule blocks c b right.kept there in
    let got : slice_get (chain_of_first rule blocks (length c + 1)) (length c) ≡ Some next = ap (λ d. slice_get d (length c)) chain ∙ last_of c next in
    let tall : length new.snapshot.value ≡ length c + 1 = ap (λ d. length d) made ∙ length-append c (next ∷ []) in (
      ap (commit_next (peer_of old)) got ∙ (λ i. (sym told i, record { org = sym org i; height = sym tall i; seats = seats_of (sym seats i) })),
      record {
        kept = made ∙ sym chain ∙ ap (chain_of_first rule blocks) (sym tall);
        seats = subst (AllByRecursion (IsSeatRight (chain_of_first rule blocks))) (sym seats) right.seats;
      },
    )

-- with nothing left to commit
pub committed_none : (rule : BlockRule) (blocks : List Block) (p : PeerState) → length blocks ≤ p.height → commit (chain_of_first rule blocks) p ≡ (Nothing, p)
committed_none rule blocks p short = ap (commit_next p) (past_end rule blocks p.height short)

pub free_seats : (n : ℕ) → seats_of (replicate n None) ≡ replicate n None
free_seats zero = refl
free_seats (suc n) = ap (λ ss. None ∷ ss) (free_seats n)

pub free_right : (chain : ℕ → Chain) (n : ℕ) → AllByRecursion (IsSeatRight chain) (replicate n None)
free_right chain zero = tt
free_right chain (suc n) = (tt, free_right chain n)

-- what committing at a peer leaves, whether memory was refused or not
pub commit_all : {E : Type 0} (rule : BlockRule) (blocks : List Block) (old new : Peer) (b : Block) (r : Result Reply E) →
    IsPeerRight (chain_of_first rule blocks) old → slice_get blocks (length old.snapshot.value) ≡ Some b →
    IfOk r (λ reply. reply ≡
    IsCommitted (length old.snapshot.value + 1)
    (judge (rule (history old.snapshot.value)) (history old.snapshot.value) (length old.snapshot.value + 1) 0 b.envelopes)) →
    IfOk r (λ reply. new.snapshot.value ≡ old.snapshot.value ++
    record { block = b; flags = judge (rule (history old.snapshot.value)) (history old.snapshot.value) (length old.snapshot.value + 1) 0 b.envelopes } ∷ []) →
    new.seats.items ≡ old.seats.items → new.org ≡ old.org → OnErr r (new ≡ old) →
    IfOk r (λ reply. commit (chain_of_first rule blocks) (peer_of old) ≡ (reply, peer_of new)) × IsPeerRight (chain_of_first rule blocks) new
commit_all rule blocks old new b (Ok reply) right there told made seats org same = committed rule blocks old new b reply right there told made seats org
commit_all rule blocks old new b (Err x) right there told made seats org same = (tt, subst (IsPeerRight (chain_of_first rule blocks)) (sym same) right)

pub some_same : {X : Type 0} (x y : X) → Some x ≡ Some y → x ≡ y
some_same x y e = cc

-- one peer more
pub opened_more : (seats : ℕ) (orgs : List Bytes) (i : ℕ) (org item : Bytes) (old new : List PeerState) → i < length orgs → item ≡ get_or orgs i item →
    org ≡ item → old ≡ map (fresh seats) (take i orgs) → new ≡ old ++ fresh seats org ∷ [] → new ≡ map (fresh seats) (take (i + 1) orgs)
opened_more seats orgs i org item old new h there same is grown =
    let one : suc i ≡ i + 1 = omega arith in
    let next : take (i + 1) orgs ≡ take i orgs ++ item ∷ [] =
    ap (λ k. take k orgs) (sym one) ∙ take_next orgs i item (get_here orgs i item h ∙ ap Some (sym there)) in
    grown ∙ (λ j. is j ++ fresh seats (same j) ∷ []) ∙ sym (map-append (fresh seats) (take i orgs) (item ∷ [])) ∙ ap (map (fresh seats)) (sym next)

pub all_push : {X : Type 0} (P : X → Type 0) (xs : List X) (x : X) → AllByRecursion P xs → P x → AllByRecursion P (xs ++ x ∷ [])
all_push P [] x h p = (p, tt)
all_push P (y ∷ xs) x h p = (h.0, all_push P xs x h.1 p)
