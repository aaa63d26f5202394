-- What was recorded on a plain state tells what the execution saw there.
use Rattle.std.proofs.Common.{◌≡◌, ℕ, Bool, List, [], ◌∷◌, map, Option, Some, None, Result, Ok, Err, refl, sym, ap, ap₂, ◌∙◌, option_map, is_some, subst}
use Rattle.std.specs.FinMap.{get}
use Rattle.fab_types.specs.declared.items.RangeEntry.{RangeEntry}
use Rattle.fab_types.specs.declared.items.WriteItem.{WriteItem}
use Rattle.fab_types.specs.declared.proposal.Proposal.{Proposal}
use Rattle.fab_types.specs.declared.proposal.Proposal.TheVariants as proposal
use Rattle.ledger_model.specs.Chain.{Bytes, Version}
use Rattle.ledger_model.specs.Views.{Plain, Versioned, first, values_of}
use Rattle.ledger_model.specs.Flags.{entry_of}
use Rattle.ledger_model.specs.Execution as ledger
use Rattle.ledger_model.specs.Execution.{Seen, read_item, range_item}
use Rattle.ledger_model.specs.Defined.{definition_key, upgraded, with_read}
use Rattle.fab_types.specs.Memberships.{membership_key}
use Rattle.fab_types.specs.Spelling.{definition_bytes, membership_bytes}
use Rattle.ledger_model.specs.Serial.{seen_key, seen_keys, read_key, range_keys}
use Rattle.ledger_model.proofs.Views.{get-values_of, first-values_of}
use Rattle.wasm_meaning.specs.Values.{Answer, Next, Branch, Returns, Trapped, Spent, Stuck}
use Rattle.host_api.specs.Given.{Given}
use Rattle.host_api.specs.Recorded.{Asked, Recorded, nothing_recorded, key_seen, range_seen, seen_on}
use Rattle.host_api.specs.Executing.{outcome_of, execution}
use Rattle.host_api.specs.Parts.{parts_of}
use Rattle.host_api.specs.declared.recorder.Parts.{Parts}
use Rattle.chaincode_book.specs.Books.{Book}
use Rattle.endorsement_policy.specs.Membership.{is_next}
use Rattle.simulator.specs.Execution.{Defined, amend_ending, executable_by, executable_definition, execute, exec_of, given_by, upgrade_ending}
use Rattle.simulator.proofs.Endings.{map_ok, answers_made}
use Rattle.simulator.specs.Answers.{SimRefusal, Answers, done_or_refusal, Rerun, rerun_of, rerun_or_refusal, told_by, told_in}

-- ---- what an execution saw is what a state says of some questions

abbrev Asks : Plain → Seen → Type 0
Asks m seen = (s : Recorded) × (seen ≡ seen_on m s)

outcome_asks : (fuel : ℕ) (m : Plain) (a : Answer Recorded) → Asks m (outcome_of fuel m a).seen
outcome_asks fuel m (Next left [] l w) = (nothing_recorded, refl)
outcome_asks fuel m (Next left (v ∷ []) l w) = (w.records, refl)
outcome_asks fuel m (Next left (v ∷ u ∷ s) l w) = (nothing_recorded, refl)
outcome_asks fuel m (Branch k left s l w) = (nothing_recorded, refl)
outcome_asks fuel m (Returns left s l w) = (nothing_recorded, refl)
outcome_asks fuel m (Trapped why left w) = (w.records, refl)
outcome_asks fuel m (Spent w) = (w.records, refl)
outcome_asks fuel m Stuck = (nothing_recorded, refl)

executed_asks : (found : Option Defined) (given : Given) (m : Plain) → Asks m (execute found given m).seen
executed_asks None given m = (nothing_recorded, refl)
executed_asks (Some None) given m = (nothing_recorded, refl)
executed_asks (Some (Some e)) given m = outcome_asks e.fuel m (execution e.module e.fuel given m)

-- a read in front is one question more
read_asks : (m : Plain) (key : Bytes) (o : ledger.Outcome) → Asks m o.seen → Asks m (with_read key (get m key) o).seen
read_asks m key o asks = (
  record { reads = key ∷ asks.0.reads; ranges = asks.0.ranges; result = asks.0.result; writes = asks.0.writes },
  ap (λ (s : Seen). (with_read key (get m key) (record { ending = o.ending; seen = s })).seen) asks.1,
)

upgraded_asks : (m : Plain) (key value : Bytes) (ending : ledger.Ending) → Asks m (upgraded key value ending m).seen
upgraded_asks m key value ending =
    let write : WriteItem = record { key = key; value = Some value } in
    (record { reads = key ∷ []; ranges = []; result = []; writes = write ∷ [] }, refl)

exec_asks : (book : Book) (p : Proposal) (m : Plain) → Asks m (exec_of book p m).seen
unfolding exec_of
exec_asks book (proposal.Call c) m =
    let key = definition_key c.chaincode in
    let found = executable_by book c.chaincode (get m key) in
    let given = given_by book.edition c in
    read_asks m key (execute found given m) (executed_asks found given m)
exec_asks book (proposal.Upgrade u) m =
    upgraded_asks m (definition_key u.chaincode) (definition_bytes u.definition) (upgrade_ending (executable_definition book u.definition))
exec_asks book (proposal.Amend a) m =
    upgraded_asks m membership_key (membership_bytes a.membership) (amend_ending (is_next book.installed.orgs (get m membership_key) a.membership))

-- ---- what is told of questions on a state with versions and without

same_presence : {A B C : Type 0} (f : A → B) (g : A → C) (o : Option A) → is_some (option_map f o) ≡ is_some (option_map g o)
same_presence f g None = refl
same_presence f g (Some x) = refl

module _ (m : Versioned) where
  read_told : (key : Bytes) → read_key (read_item m (key_seen (values_of m) key)) ≡ seen_key (key_seen (values_of m) key)
  read_told key =
      let pair : Bool → Bytes × Bool = λ b. (key, b) in
      ap pair (same_presence (λ (e : Bytes × Version). e.1) (λ (e : Bytes × Version). e.0) (get m key) ∙ ap is_some (sym (get-values_of m key)))

  reads_told : (keys : List Bytes) → map read_key (map (read_item m) (map (key_seen (values_of m)) keys)) ≡ map seen_key (map (key_seen (values_of m)) keys)
  reads_told [] = refl
  reads_told (k ∷ ks) = ap₂ (λ (r : Bytes × Bool) rs. r ∷ rs) (read_told k) (reads_told ks)

  entry_keys : (es : List (Bytes × (Bytes × Version))) →
      map (λ (e : RangeEntry). e.key) (map entry_of es) ≡ map (λ (e : Bytes × Bytes). e.0) (map (λ (e : Bytes × (Bytes × Version)). (e.0, e.1.0)) es)
  entry_keys [] = refl
  entry_keys (e ∷ es) = ap (λ ks. e.0 ∷ ks) (entry_keys es)

  range_told : (a : Asked) → range_keys (range_item m (range_seen (values_of m) a)) ≡ seen_keys (range_seen (values_of m) a)
  range_told a =
      let shown : List Bytes → Bytes × Bytes × ℕ × List Bytes = λ keys. (a.start, a.end, a.limit, keys) in
      ap shown (entry_keys (first m a.start a.end a.limit) ∙ ap (map (λ (e : Bytes × Bytes). e.0)) (sym (first-values_of m a.start a.end a.limit)))

  ranges_told : (asked : List Asked) →
      map range_keys (map (range_item m) (map (range_seen (values_of m)) asked)) ≡ map seen_keys (map (range_seen (values_of m)) asked)
  ranges_told [] = refl
  ranges_told (a ∷ asked) =
      ap₂ (λ (r : Bytes × Bytes × ℕ × List Bytes) rs. r ∷ rs) (range_told a) (ranges_told asked)

  recorded_told : (s : Recorded) → told_by (parts_of m (seen_on (values_of m) s)) ≡ rerun_of (seen_on (values_of m) s)
  recorded_told s =
      let with_reads : List (Bytes × Bool) → Rerun =
      λ reads. record {
        reads = reads;
        ranges = map range_keys (map (range_item m) (map (range_seen (values_of m)) s.ranges));
        result = s.result;
        writes = s.writes;
      } in
      let with_ranges : List (Bytes × Bytes × ℕ × List Bytes) → Rerun =
      λ ranges. record { reads = map seen_key (map (key_seen (values_of m)) s.reads); ranges = ranges; result = s.result; writes = s.writes } in
      ap with_reads (reads_told s.reads) ∙ ap with_ranges (ranges_told s.ranges)

  seen_told : (seen : Seen) → Asks (values_of m) seen → told_by (parts_of m seen) ≡ rerun_of seen
  seen_told seen asks =
      ap (λ (s : Seen). told_by (parts_of m s)) asks.1 ∙ recorded_told asks.0 ∙ ap rerun_of (sym asks.1)

-- ---- what a rerun answers

told_in-map : (result : Result Parts SimRefusal) → map_ok told_by result ≡ told_in result
told_in-map (Ok p) = refl
told_in-map (Err e) = refl

pub rerun_answers : (book : Book) (p : Proposal) (m : Versioned) (result : Result Parts SimRefusal) → let o =
    exec_of book p (values_of m) in Answers (done_or_refusal o.ending (parts_of m o.seen)) result → Answers (rerun_or_refusal o) (told_in result)
rerun_answers book p m result h =
    let o = exec_of book p (values_of m) in
    let told : done_or_refusal o.ending (told_by (parts_of m o.seen)) ≡ rerun_or_refusal o =
    ap (done_or_refusal o.ending) (seen_told m o.seen (exec_asks book p (values_of m))) in
    subst (λ wanted. Answers wanted (told_in result)) told
    (subst (Answers (done_or_refusal o.ending (told_by (parts_of m o.seen)))) (told_in-map result)
    (answers_made told_by o.ending (parts_of m o.seen) result h))
