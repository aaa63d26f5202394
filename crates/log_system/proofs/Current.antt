-- A payload is current in the state that it was made on, so that a simulation that is begun and finished there is endorsed.
use Rattle.std.proofs.Common.{◌≡◌, Bool, true, ◌&&◌, List, [], ◌∷◌, map, Option, Some, None, refl}
use Rattle.std.proofs.lemmas.Bool.{eq-eqb}
use Rattle.std.proofs.lemmas.Slice.Eq.{bytes_eq-Decides}
use Rattle.fab_types.specs.declared.items.RangeEntry.{RangeEntry}
use Rattle.fab_types.specs.declared.envelope.Endorsement.{Endorsement}
use Rattle.fab_types.specs.declared.proposal.Proposal.{Proposal}
use Rattle.fab_types.specs.Payloads.{Payload}
use Rattle.ledger_model.specs.Chain.{Version}
use Rattle.ledger_model.specs.Execution.{Ending, Unknown, NotInstalled, BadPolicy, BadMembership, Trapped, Spent, Status, Done, KeySeen, RangeSeen, Seen, payload_of}
use Rattle.ledger_model.specs.Execution.{range_item, read_item}
use Rattle.ledger_model.specs.Flags.{entries_at, ranges_current, reads_current, same_entries, same_version, version_at, version_eq}
use Rattle.ledger_model.specs.Views.{Versioned}
use Rattle.mvcc_validate.specs.Current.{is_current}
use Rattle.simulator.specs.Answers.{done_or_refusal}
use Rattle.endorser.specs.Endorsing.{sealed_by}
use Rattle.fabric_core.specs.System.{finish_reply}
use Rattle.log_system.specs.OneSystem.{reply_of}

both : (a b : Bool) → a ≡ true → b ≡ true → (a && b) ≡ true
both a b is are = rw (is, are) refl

version_self : (v : Version) → version_eq v v ≡ true
version_self v = both _ _ (eq-eqb v.block v.block refl) (eq-eqb v.place v.place refl)

optional_self : (v : Option Version) → same_version v v ≡ true
optional_self None = refl
optional_self (Some v) = version_self v

entries_self : (es : List RangeEntry) → same_entries es es ≡ true
entries_self [] = refl
entries_self (e ∷ es) = both _ _ ((bytes_eq-Decides e.key e.key).1 refl) (both _ _ (version_self e.version) (entries_self es))

reads_self : (m : Versioned) (reads : List KeySeen) → reads_current m (map (read_item m) reads) ≡ true
reads_self m [] = refl
reads_self m (r ∷ reads) = both _ _ (optional_self (version_at m r.key)) (reads_self m reads)

ranges_self : (m : Versioned) (ranges : List RangeSeen) → ranges_current m (map (range_item m) ranges) ≡ true
ranges_self m [] = refl
ranges_self m (g ∷ ranges) = both _ _ (entries_self (entries_at m g.start g.end g.limit)) (ranges_self m ranges)

current_self : (p : Proposal) (m : Versioned) (s : Seen) → is_current m (payload_of p m s) ≡ true
current_self p m s = both _ _ (reads_self m s.reads) (ranges_self m s.ranges)

-- what a finish replies on the state of its begin is what was simulated
pub finished : (seal : Payload → Endorsement) (p : Proposal) (m : Versioned) (ending : Ending) (s : Seen) →
    finish_reply m seal (done_or_refusal ending (payload_of p m s)) ≡
    reply_of (sealed_by seal (done_or_refusal ending (payload_of p m s)))
finished seal p m Done s = rw (current_self p m s) refl
finished seal p m Unknown s = refl
finished seal p m NotInstalled s = refl
finished seal p m BadPolicy s = refl
finished seal p m BadMembership s = refl
finished seal p m (Trapped kind used) s = refl
finished seal p m Spent s = refl
finished seal p m (Status n) s = refl
