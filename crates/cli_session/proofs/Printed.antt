-- What is printed of a reply, where an arm takes what the arms before it did not.
use Rattle.std.proofs.Common.{◌≡◌, ℕ, List, [], Some, None, Result, OnOk, refl, ap, subst}
use Rattle.json_events.specs.declared.bindings.Bindings.{Bindings}
use Rattle.fab_types.specs.declared.flag.Flag.{Flag}
use Rattle.fab_types.specs.Payloads.{Payload}
use Rattle.fab_types.specs.declared.envelope.Endorsement.{Endorsement}
use Rattle.orderer.specs.declared.report.BatchReport.{BatchReport}
use Rattle.fabric_core.specs.Numbers.{reply_number}
use Rattle.fabric_core.specs.declared.event.Reply.{Reply}
use Rattle.fabric_core.specs.declared.event.Reply.TheVariants as reply
use Rattle.simulator.specs.declared.refusal.SimRefusal.{SimRefusal}
use Rattle.cli_lines.specs.Texts.{line, refused}
use Rattle.cli_lines.specs.Told.{Told, Prints}
use Rattle.cli_session.specs.Replies.{reply_text, begin_text, finish_text}
use Rattle.cli_session.specs.Stages.{Gets}

-- the same text in other words
pub prints_as : {A E : Type 0} (r : Result A E) (t u : Told) (a b : List ℕ) → a ≡ b → OnOk r (Prints t u a) → OnOk r (Prints t u b)
prints_as r t u a b same = subst (λ (text : List ℕ). OnOk r (Prints t u text)) same

-- a reply that was not begun, or not endorsed
pub begin_other : (peer seat : ℕ) (r : Reply) → ((h : ℕ) → r ≡ reply.Begun h → ⊥) → reply_text r ≡ begin_text peer seat r
begin_other peer seat (reply.Begun h) not = absurd (not h refl)
begin_other peer seat r not = refl

pub finish_other : (name : List ℕ) (r : Reply) → ((p : Payload) (e : Endorsement) → r ≡ reply.Endorsed p e → ⊥) → reply_text r ≡ finish_text name r
finish_other name (reply.Endorsed p e) not = absurd (not p e refl)
finish_other name r not = refl

pub gets_other : (name : List ℕ) (r : Reply) (b : Bindings) → ((p : Payload) (e : Endorsement) → r ≡ reply.Endorsed p e → ⊥) → Gets name r b b
gets_other name (reply.Endorsed p e) b not = absurd (not p e refl)
gets_other name r b not = refl

same_line : (n m : ℕ) → Some n ≡ Some m → line (refused n) ≡ line (refused m)
same_line n m is = let same : n ≡ m = cc in ap (λ (k : ℕ). line (refused k)) same

-- a reply with a number, but for a simulation's refusal
pub by_number : (r : Reply) (n : ℕ) → Some n ≡ reply_number r → ((q : SimRefusal) → r ≡ reply.Refused q → ⊥) → line (refused n) ≡ reply_text r
by_number reply.NoSuchPeer n is not = same_line n 452 is
by_number reply.NoSuchSeat n is not = same_line n 452 is
by_number reply.SeatBusy n is not = same_line n 451 is
by_number (reply.Begun h) n is not = absurd cc
by_number reply.NothingBegun n is not = same_line n 453 is
by_number (reply.Refused q) n is not = absurd (not q refl)
by_number (reply.Endorsed p e) n is not = absurd cc
by_number reply.Queued n is not = absurd cc
by_number reply.QueueFull n is not = same_line n 411 is
by_number reply.Nothing n is not = absurd cc
by_number (reply.Ordered rs) n is not = absurd cc
by_number (reply.Cut b) n is not = absurd cc
by_number (reply.TooLarge e) n is not = same_line n 421 is
by_number (reply.NoBlockLeft e) n is not = same_line n 422 is
by_number (reply.Committed h fs) n is not = absurd cc

-- a reply without one, and none of those that are told in words
pub no_number : (r : Reply) → None ≡ reply_number r → (r ≡ reply.Queued → ⊥) → (r ≡ reply.Nothing → ⊥) → ((rs : List BatchReport) → r ≡ reply.Ordered rs → ⊥) →
    ((b : BatchReport) → r ≡ reply.Cut b → ⊥) → ((n : ℕ) (fs : List Flag) → r ≡ reply.Committed n fs → ⊥) → [] ≡ reply_text r
no_number (reply.Begun h) is queued nothing ordered cut committed = refl
no_number (reply.Endorsed p e) is queued nothing ordered cut committed = refl
no_number reply.Queued is queued nothing ordered cut committed = absurd (queued refl)
no_number reply.Nothing is queued nothing ordered cut committed = absurd (nothing refl)
no_number (reply.Ordered rs) is queued nothing ordered cut committed = absurd (ordered rs refl)
no_number (reply.Cut b) is queued nothing ordered cut committed = absurd (cut b refl)
no_number (reply.Committed n fs) is queued nothing ordered cut committed = absurd (committed n fs refl)
no_number reply.NoSuchPeer is queued nothing ordered cut committed = absurd cc
no_number reply.NoSuchSeat is queued nothing ordered cut committed = absurd cc
no_number reply.SeatBusy is queued nothing ordered cut committed = absurd cc
no_number reply.NothingBegun is queued nothing ordered cut committed = absurd cc
no_number (reply.Refused q) is queued nothing ordered cut committed = absurd cc
no_number reply.QueueFull is queued nothing ordered cut committed = absurd cc
no_number (reply.TooLarge e) is queued nothing ordered cut committed = absurd cc
no_number (reply.NoBlockLeft e) is queued nothing ordered cut committed = absurd cc
