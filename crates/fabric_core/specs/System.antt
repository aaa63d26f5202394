-- The system: peers with seats, a queue, an orderer, and what each event replies and leaves.
use Rattle.std.specs.Prelude.{◌≡◌, ℕ, ◌≤◌, ◌<◌, Bool, List, [], ◌∷◌, ◌++◌, Option, Some, None, Result, Ok, Err, ◌+◌, option_map, map, take, length, nat_lt}
use Rattle.std.specs.Prelude.{slice_get, slice_set, if◌then◌else◌, replicate}
use Rattle.std.specs.Option.{option_to_list}
use Rattle.fab_types.specs.Editions.{last_block}
use Rattle.fab_types.specs.declared.edition.Edition.{Edition}
use Rattle.fab_types.specs.declared.proposal.Proposal.{Proposal}
use Rattle.fab_types.specs.Payloads.{Payload}
use Rattle.fab_types.specs.declared.block.Block.{Block}
use Rattle.fab_types.specs.declared.envelope.Endorsement.{Endorsement}
use Rattle.fab_types.specs.Size.{envelope_size}
use Rattle.batch_cutter.specs.Division.{Limits, message, timeout}
use Rattle.orderer.specs.Ordering.{Ordering, Takes, RunsOut}
use Rattle.orderer.specs.declared.report.BatchReport.{BatchReport}
use Rattle.ledger_model.specs.Chain.{Bytes, Envelope, Committed, Chain, history}
use Rattle.ledger_model.specs.Views.{Plain, Versioned, values_of}
use Rattle.ledger_model.specs.State.{state}
use Rattle.mvcc_validate.specs.Current.{is_current}
use Rattle.ledger_model.specs.Execution.{Exec}
use Rattle.ledger_model.specs.Judged.{BlockRule, judged_chain}
pub use Rattle.fabric_core.specs.declared.event.Event.{Event}
pub use Rattle.fabric_core.specs.declared.event.Event.TheVariants.{Begin, Finish, Submit, Take, Tick, Commit}
pub use Rattle.fabric_core.specs.declared.event.Reply.{Reply}
pub use Rattle.fabric_core.specs.declared.event.Reply.TheVariants.{NoSuchPeer, NoSuchSeat, SeatBusy, Begun, NothingBegun, Refused, Endorsed, Queued, QueueFull}
pub use Rattle.fabric_core.specs.declared.event.Reply.TheVariants.{Nothing, Ordered, Cut, TooLarge, NoBlockLeft, Committed as IsCommitted}
use Rattle.simulator.specs.declared.refusal.SimRefusal.{SimRefusal}
use Rattle.simulator.specs.declared.refusal.SimRefusal.TheVariants as refusal
use Rattle.simulator.specs.Answers.{payload_or_refusal}

-- what the genesis fixes
pub record Rules : Type 0 where
  pub edition : Edition
  pub exec : Exec
  pub rule : BlockRule
  -- what, in a state, a peer of an organisation puts on a payload
  pub seal : Plain → Bytes → Payload → Endorsement
  -- how many envelopes the queue holds
  pub capacity : ℕ

-- a proposal that was begun, with the height of its state
pub record Noted : Type 0 where
  pub proposal : Proposal
  pub height : ℕ

-- a peer of an organisation has the first blocks, and seats that are free or have begun
pub record PeerState : Type 0 where
  pub org : Bytes
  pub height : ℕ
  pub seats : List (Option Noted)

pub record World : Type 0 where
  pub peers : List PeerState
  pub queue : List Envelope
  -- the envelopes that wait for their batch, and the blocks
  pub orderer : Ordering

-- a peer that has no blocks, and has begun nothing
abbrev pub fresh : ℕ → Bytes → PeerState
fresh seats org = record { org = org; height = 0; seats = replicate seats None }

-- an orderer that was given nothing
abbrev pub fresh_orderer : Edition → Limits → Bool → Ordering
fresh_orderer edition limits reorder = record { edition = edition; reorder = reorder; limits = limits; pending = []; chain = [] }

-- a peer of each of these organisations; nothing was begun, sent, taken or committed
abbrev pub opening : Edition → List Bytes → ℕ → Limits → Bool → World
opening edition orgs seats limits reorder =
    record { peers = map (fresh seats) orgs; queue = []; orderer = fresh_orderer edition limits reorder }

-- the first n of these blocks, with their flags
abbrev pub chain_of_first : BlockRule → List Block → ℕ → Chain
chain_of_first rule blocks n = judged_chain rule (take n blocks)

-- all peers' chains are first blocks of the one orderer's
abbrev pub chain_at : Rules → World → ℕ → Chain
chain_at r w n = chain_of_first r.rule w.orderer.chain n

-- Begin, at a peer
abbrev pub begin_seat : PeerState → ℕ → Proposal → Option (Option Noted) → Reply × PeerState
begin_seat peer seat p None = (NoSuchSeat, peer)
begin_seat peer seat p (Some (Some noted)) = (SeatBusy, peer)
begin_seat peer seat p (Some None) =
    (Begun peer.height, record peer { seats = slice_set peer.seats seat (Some (record { proposal = p; height = peer.height })) })

abbrev pub begin : PeerState → ℕ → Proposal → Reply × PeerState
begin peer seat p = begin_seat peer seat p (slice_get peer.seats seat)

abbrev pub finish_reply : Versioned → (Payload → Endorsement) → Result Payload SimRefusal → Reply
finish_reply now seal (Ok p) = if is_current now p then Endorsed p (seal p) else Refused refusal.Stale
finish_reply now seal (Err r) = Refused r

-- Finish, at a peer: the seat becomes free, whatever is replied. A payload is made on the state at the noted height. Where
-- all that it read is still so in the peer's newest state, it comes with the organisation's tag by that state
abbrev pub finish_seat : Exec → (Plain → Bytes → Payload → Endorsement) → (ℕ → Chain) → PeerState → ℕ → Option (Option Noted) → Reply × PeerState
finish_seat exec seal chain peer seat None = (NoSuchSeat, peer)
finish_seat exec seal chain peer seat (Some None) = (NothingBegun, peer)
finish_seat exec seal chain peer seat (Some (Some noted)) =
    let now = state (history (chain peer.height)) in (
      finish_reply now (seal (values_of now) peer.org) (payload_or_refusal exec noted.proposal (chain noted.height)),
      record peer { seats = slice_set peer.seats seat None },
    )

abbrev pub finish : Exec → (Plain → Bytes → Payload → Endorsement) → (ℕ → Chain) → PeerState → ℕ → Reply × PeerState
finish exec seal chain peer seat = finish_seat exec seal chain peer seat (slice_get peer.seats seat)

-- Commit, at a peer: the next block, if there is one
abbrev pub commit_next : PeerState → Option Committed → Reply × PeerState
commit_next peer None = (Nothing, peer)
commit_next peer (Some c) = (IsCommitted (peer.height + 1) c.flags, record peer { height = peer.height + 1 })

abbrev pub commit : (ℕ → Chain) → PeerState → Reply × PeerState
commit chain peer = commit_next peer (slice_get (chain (peer.height + 1)) peer.height)

-- what happens at a peer, if there is such a peer
abbrev pub at_peer : World → ℕ → Option (Reply × PeerState) → Reply × World
at_peer w peer None = (NoSuchPeer, w)
at_peer w peer (Some s) = (s.0, record w { peers = slice_set w.peers peer s.1 })

abbrev pub submit : Rules → World → Envelope → Reply × World
submit r w e = if nat_lt (length w.queue) r.capacity then (Queued, record w { queue = w.queue ++ e ∷ [] }) else (QueueFull, w)

-- Take, where this envelope is the front of the queue and these stand behind it: the orderer takes it in and the
-- batches that it ends are reported, or it is handed back, since it is too large or a block would be needed past the last
-- one that the rules allow
abbrev pub IsTakenIn : World → Envelope → List Envelope → Reply → World → Type 0
IsTakenIn w e es (Ordered reports) new =
    (orderer : Ordering) × Takes w.orderer (message e) reports orderer × (envelope_size e ≤ w.orderer.limits.absolute) ×
    (length orderer.chain ≤ last_block w.orderer.edition) × (new ≡ record w { queue = es; orderer = orderer })
IsTakenIn w e es (TooLarge given) new =
    (given ≡ e) × (w.orderer.limits.absolute < envelope_size e) × (new ≡ record w { queue = es })
IsTakenIn w e es (NoBlockLeft given) new =
    (given ≡ Some e) × RunsOut w.orderer (message e) × (new ≡ record w { queue = es })
IsTakenIn w e es reply new = ⊥

abbrev pub TakesFront : World → List Envelope → Reply → World → Type 0
TakesFront w [] reply new = (reply ≡ Nothing) × (new ≡ w)
TakesFront w (e ∷ es) reply new = IsTakenIn w e es reply new

-- Tick: the batch that the timeout cuts, if any, is reported, or a block would be needed past the last one that the rules allow
abbrev pub TimesOut : World → Option BatchReport → World → Type 0
TimesOut w report new =
    (orderer : Ordering) × Takes w.orderer timeout (option_to_list report) orderer × (length orderer.chain ≤ last_block w.orderer.edition) ×
    (new ≡ record w { orderer = orderer })

abbrev pub IsTicked : World → Reply → World → Type 0
IsTicked w Nothing new = TimesOut w None new
IsTicked w (Cut report) new = TimesOut w (Some report) new
IsTicked w (NoBlockLeft given) new = (given ≡ None) × RunsOut w.orderer timeout × (new ≡ w)
IsTicked w reply new = ⊥

-- one step: what an event replies and leaves
abbrev pub IsStep : Rules → World → Event → Reply → World → Type 0
IsStep r w (Begin peer seat p) reply new =
    at_peer w peer (option_map (λ q. begin q seat p) (slice_get w.peers peer)) ≡ (reply, new)
IsStep r w (Finish peer seat) reply new =
    at_peer w peer (option_map (λ q. finish r.exec r.seal (chain_at r w) q seat) (slice_get w.peers peer)) ≡ (reply, new)
IsStep r w (Submit e) reply new = submit r w e ≡ (reply, new)
IsStep r w Take reply new = TakesFront w w.queue reply new
IsStep r w Tick reply new = IsTicked w reply new
IsStep r w (Commit peer) reply new =
    at_peer w peer (option_map (λ q. commit (chain_at r w) q) (slice_get w.peers peer)) ≡ (reply, new)

-- the events are steps one after another, with these replies
abbrev pub AreSteps : Rules → World → List Event → List Reply → World → Type 0
AreSteps r w [] replies new = (replies ≡ []) × (new ≡ w)
AreSteps r w (e ∷ es) replies new =
    (reply : Reply) × (next : World) × (later : List Reply) × (replies ≡ reply ∷ later) × IsStep r w e reply next × AreSteps r next es later new

-- the chain of a peer. None where there is no such peer
abbrev pub chain_of : Rules → World → ℕ → Option Chain
chain_of r w peer = option_map (λ q. chain_at r w q.height) (slice_get w.peers peer)
