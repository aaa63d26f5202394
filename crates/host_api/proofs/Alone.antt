-- The host answers alike on two states that agree on what it recorded, and so an execution depends only on what it read.
use Rattle.std.proofs.Common.{◌≡◌, ℕ, Bool, true, false, cond, List, [], ◌∷◌, ◌++◌, length, Option, Some, None, map, refl, sym, ap, ◌∙◌, subst}
use Rattle.std.specs.Prelude.{nat_le, ◌&&◌}
use Rattle.std.specs.List.{AllByRecursion}
use Rattle.std.specs.Ordering.{eq_by_cmp}
use Rattle.std.specs.FinMap.{get}
use Rattle.fab_types.specs.Order.{key_cmp, is_before}
use Rattle.fab_types.specs.declared.items.WriteItem.{WriteItem}
use Rattle.wasm_ast.specs.declared.host_call.HostCall.TheVariants as call
use Rattle.wasm_ast.specs.declared.module.Module.{Module}
use Rattle.wasm_typing.specs.ModuleRules.{IsValid}
use Rattle.wasm_meaning.specs.Values.{Answer, Next, Branch, Returns, Trapped, Spent, Stuck, Reply}
use Rattle.wasm_meaning.specs.Following.{Ends, Follows}
use Rattle.wasm_meaning.specs.Fine.{IsEnding}
use Rattle.wasm_meaning.specs.Laws.Alike.{invocation_follows}
use Rattle.wasm_meaning.specs.Laws.NeverStuck.{invocation_ends}
use Rattle.ledger_model.specs.Chain.{Bytes}
use Rattle.ledger_model.specs.Views.{Plain, first}
use Rattle.ledger_model.specs.Execution as ledger
use Rattle.ledger_model.proofs.Keys.{tie_same}
use Rattle.host_api.specs.declared.refusal.Refusal.{Refusal}
use Rattle.host_api.specs.declared.refusal.Refusal.TheVariants as refusal
use Rattle.host_api.specs.Given.{Given}
use Rattle.host_api.specs.Recorded.{Asked, Recorded, nothing_recorded, key_seen, range_seen, seen_on}
use Rattle.host_api.specs.HostStep.{with_key, with_write, says, or_trap, span_bytes, is_key, is_own_key, is_bound, is_value, is_limit, value_reply, read_key, write}
use Rattle.host_api.specs.HostStep.{ask_range, replies, reply_range_bytes, refuses, get_state, put_state, del_state, range_state, set_result, nth, host_step}
use Rattle.host_api.specs.Executing.{ending_of, outcome_of, execution, outcome, ReadsAlone}

abbrev SameKey : Plain → Plain → Bytes → Type 0
SameKey m n key = get m key ≡ get n key

abbrev SameRange : Plain → Plain → Asked → Type 0
SameRange m n a = first m a.start a.end a.limit ≡ first n a.start a.end a.limit

-- two states agree on what was asked
pub record Agree (m n : Plain) (s : Recorded) : Type 0 where
  pub reads : AllByRecursion (SameKey m n) s.reads
  pub ranges : AllByRecursion (SameRange m n) s.ranges

all_front : {X : Type 0} (P : X → Type 0) (xs : List X) (y : X) → AllByRecursion P (xs ++ y ∷ []) → AllByRecursion P xs
all_front P [] y h = tt
all_front P (x ∷ xs) y h = (h.0, all_front P xs y h.1)

all_last : {X : Type 0} (P : X → Type 0) (xs : List X) (y : X) → AllByRecursion P (xs ++ y ∷ []) → P y
all_last P [] y h = h.0
all_last P (x ∷ xs) y h = all_last P xs y h.1

-- what holds of all keys after one was recorded held of those before, and holds of it
recorded : (P : Bytes → Type 0) (key : Bytes) (keys : List Bytes) → AllByRecursion P (with_key key keys) → AllByRecursion P keys × P key
recorded P key [] h = (tt, h.0)
recorded P key (k ∷ ks) h =
    elim (is_before k key)
    as (λ b. AllByRecursion P (cond b (k ∷ with_key key ks) (cond (eq_by_cmp key_cmp k key) (key ∷ ks) (key ∷ k ∷ ks))) → AllByRecursion P (k ∷ ks) × P key) [
      | true ↦ λ h. let rest = recorded P key ks h.1 in ((h.0, rest.0), rest.1)
      | false ↦ elim (eq_by_cmp key_cmp k key)
          as (λ b. eq_by_cmp key_cmp k key ≡ b → AllByRecursion P (cond b (key ∷ ks) (key ∷ k ∷ ks)) → AllByRecursion P (k ∷ ks) × P key) [
            | true ↦ λ e h. ((subst P (sym (tie_same k key e)) h.0, h.1), h.0)
            | false ↦ λ e h. (h.1, h.0)
          ] refl
    ] h

abbrev Good : Plain → Plain → Recorded → Reply Recorded → Reply Recorded → Type 0
Good m n s r q = Agree m n r.records → Agree m n s × (r ≡ q)

module _ (m n : Plain) where
  -- an answer that records nothing
  still : (s : Recorded) (r : Reply Recorded) → r.records ≡ s → Good m n s r r
  still s r e a = (subst (Agree m n) e a, refl)

  cond_good : (s : Recorded) (b : Bool) (r q r' q' : Reply Recorded) → Good m n s r r' → Good m n s q q' → Good m n s (cond b r q) (cond b r' q')
  cond_good s true r q r' q' h k = h
  cond_good s false r q r' q' h k = k

  given_good : (bytes : Option Bytes) (memory : List ℕ) (s : Recorded) (r q : Bytes → Reply Recorded) → ((b : Bytes) → Good m n s (r b) (q b)) →
      Good m n s (or_trap bytes memory s r) (or_trap bytes memory s q)
  given_good None memory s r q h = λ a. (a, refl)
  given_good (Some b) memory s r q h = h b

  value_records : (v : Option Bytes) (target capacity : ℕ) (memory : List ℕ) (s : Recorded) → (value_reply v target capacity memory s).records ≡ s
  value_records None target capacity memory s = refl
  value_records (Some v) target capacity memory s = refl

  read_good : (key : Bytes) (target capacity : ℕ) (memory : List ℕ) (s : Recorded) →
      Good m n s (read_key m key target capacity memory s) (read_key n key target capacity memory s)
  read_good key target capacity memory s =
      let after : Recorded = record s { reads = with_key key s.reads } in
      cond_good s (nat_le (length (with_key key s.reads)) 256) _ _ _ _ (λ a.
      let agree = subst (Agree m n) (value_records (get m key) target capacity memory after) a in
      let both = recorded (SameKey m n) key s.reads agree.reads in
      (record { reads = both.0; ranges = agree.ranges }, ap (λ v. value_reply v target capacity memory after) both.1)) (λ a. (a, refl))

  range_good : (asked : Asked) (target capacity : ℕ) (memory : List ℕ) (s : Recorded) →
      Good m n s (ask_range m asked target capacity memory s) (ask_range n asked target capacity memory s)
  range_good asked target capacity memory s =
      let after : Recorded = record s { ranges = s.ranges ++ asked ∷ [] } in
      cond_good s (nat_le (length (s.ranges ++ asked ∷ [])) 16) _ _ _ _ (λ a. (
        record { reads = a.reads; ranges = all_front (SameRange m n) s.ranges asked a.ranges },
        ap (λ es. replies (reply_range_bytes es) target capacity memory after) (all_last (SameRange m n) s.ranges asked a.ranges),
      )) (λ a. (a, refl))

  write_good : (w : WriteItem) (memory : List ℕ) (s : Recorded) → Good m n s (write w memory s) (write w memory s)
  write_good w memory s =
      let writes = with_write w s.writes in
      let after = says 0 memory (record s { writes = writes }) in
      cond_good s (nat_le (length writes) 64) after (refuses refusal.NoRoom memory s) after (refuses refusal.NoRoom memory s)
      (λ a. (record { reads = a.reads; ranges = a.ranges }, refl)) (λ a. (a, refl))

  result_good : (bytes memory : List ℕ) (s : Recorded) → Good m n s (set_result bytes memory s) (set_result bytes memory s)
  result_good bytes memory s =
      cond_good s (is_value bytes) _ _ _ _ (λ a. (record { reads = a.reads; ranges = a.ranges }, refl)) (λ a. (a, refl))

  refused : (why : Refusal) (memory : List ℕ) (s : Recorded) → Good m n s (refuses why memory s) (refuses why memory s)
  refused why memory s = still s (refuses why memory s) refl

  get_good : (key : Bytes) (target capacity : ℕ) (memory : List ℕ) (s : Recorded) →
      Good m n s (get_state m key target capacity memory s) (get_state n key target capacity memory s)
  get_good key target capacity memory s =
      cond_good s (is_key key) (read_key m key target capacity memory s) (refuses refusal.KeyLength memory s) (read_key n key target capacity memory s)
      (refuses refusal.KeyLength memory s) (read_good key target capacity memory s) (refused refusal.KeyLength memory s)

  put_good : (namespace key bytes memory : List ℕ) (s : Recorded) →
      Good m n s (put_state namespace key bytes memory s) (put_state namespace key bytes memory s)
  put_good namespace key bytes memory s =
      let w : WriteItem = record { key = key; value = Some bytes } in
      let put = cond (is_value bytes) (write w memory s) (refuses refusal.ValueLength memory s) in
      cond_good s (is_own_key namespace key) put (refuses refusal.KeyLength memory s) put (refuses refusal.KeyLength memory s)
      (cond_good s (is_value bytes) (write w memory s) (refuses refusal.ValueLength memory s) (write w memory s) (refuses refusal.ValueLength memory s)
      (write_good w memory s) (refused refusal.ValueLength memory s)) (refused refusal.KeyLength memory s)

  del_good : (namespace key memory : List ℕ) (s : Recorded) → Good m n s (del_state namespace key memory s) (del_state namespace key memory s)
  del_good namespace key memory s =
      let w : WriteItem = record { key = key; value = None } in
      cond_good s (is_own_key namespace key) (write w memory s) (refuses refusal.KeyLength memory s) (write w memory s)
      (refuses refusal.KeyLength memory s) (write_good w memory s) (refused refusal.KeyLength memory s)

  asked_good : (a : Asked) (target capacity : ℕ) (memory : List ℕ) (s : Recorded) →
      Good m n s (range_state m a target capacity memory s) (range_state n a target capacity memory s)
  asked_good a target capacity memory s =
      let one = ask_range m a target capacity memory s in
      let other = ask_range n a target capacity memory s in
      cond_good s (is_bound a.start && is_bound a.end) (cond (is_limit a.limit) one (refuses refusal.Limit memory s)) (refuses refusal.KeyLength memory s)
      (cond (is_limit a.limit) other (refuses refusal.Limit memory s)) (refuses refusal.KeyLength memory s)
      (cond_good s (is_limit a.limit) one (refuses refusal.Limit memory s) other (refuses refusal.Limit memory s) (range_good a target capacity memory s)
      (refused refusal.Limit memory s)) (refused refusal.KeyLength memory s)

  pub host_follows : (given : Given) → Follows (host_step m given) (host_step n given) (Agree m n)
  host_follows given call.GetState args memory s =
      given_good (span_bytes (nth args 0) (nth args 1) memory) memory s _ _
      (λ key. given_good (span_bytes (nth args 2) (nth args 3) memory) memory s _ _ (λ room. get_good key (nth args 2) (nth args 3) memory s))
  host_follows given call.PutState args memory s =
      given_good (span_bytes (nth args 0) (nth args 1) memory) memory s _ _
      (λ key. given_good (span_bytes (nth args 2) (nth args 3) memory) memory s _ _ (λ bytes. put_good given.namespace key bytes memory s))
  host_follows given call.DelState args memory s =
      given_good (span_bytes (nth args 0) (nth args 1) memory) memory s _ _ (λ key. del_good given.namespace key memory s)
  host_follows given call.RangeState args memory s =
      given_good (span_bytes (nth args 0) (nth args 1) memory) memory s _ _
      (λ start. given_good (span_bytes (nth args 2) (nth args 3) memory) memory s _ _
      (λ end. given_good (span_bytes (nth args 5) (nth args 6) memory) memory s _ _
      (λ room. asked_good (record { start = start; end = end; limit = nth args 4 }) (nth args 5) (nth args 6) memory s)))
  host_follows given call.GetArg args memory s =
      given_good (span_bytes (nth args 0) (nth args 1) memory) memory s _ _ (λ room. still s (replies given.argument (nth args 0) (nth args 1) memory s) refl)
  host_follows given call.SetResult args memory s =
      given_good (span_bytes (nth args 0) (nth args 1) memory) memory s _ _ (λ bytes. result_good bytes memory s)

  -- the answers that one state gave are the other's: the two agree
  reads_agree : (keys : List Bytes) → AllByRecursion (λ r. get n r.key ≡ r.value) (map (key_seen m) keys) → AllByRecursion (SameKey m n) keys
  reads_agree [] h = tt
  reads_agree (k ∷ ks) h = (sym h.0, reads_agree ks h.1)

  ranges_agree : (qs : List Asked) → AllByRecursion (λ g. first n g.start g.end g.limit ≡ g.entries) (map (range_seen m) qs) → AllByRecursion (SameRange m n) qs
  ranges_agree [] h = tt
  ranges_agree (a ∷ qs) h = (sym h.0, ranges_agree qs h.1)

  agreed : (s : Recorded) → ledger.Answers n (seen_on m s) → Agree m n s
  agreed s h = record { reads = reads_agree s.reads h.reads; ranges = ranges_agree s.ranges h.ranges }

  reads_same : (keys : List Bytes) → AllByRecursion (SameKey m n) keys → map (key_seen n) keys ≡ map (key_seen m) keys
  reads_same [] h = refl
  reads_same (k ∷ ks) h = λ i. record { key = k; value = sym h.0 i } ∷ reads_same ks h.1 i

  ranges_same : (qs : List Asked) → AllByRecursion (SameRange m n) qs → map (range_seen n) qs ≡ map (range_seen m) qs
  ranges_same [] h = refl
  ranges_same (a ∷ qs) h =
      λ i. record { start = a.start; end = a.end; limit = a.limit; entries = sym h.0 i } ∷ ranges_same qs h.1 i

  seen_same : (s : Recorded) → Agree m n s → seen_on n s ≡ seen_on m s
  seen_same s a =
      λ i. record { reads = reads_same s.reads a.reads i; ranges = ranges_same s.ranges a.ranges i; result = s.result; writes = s.writes }

  -- how it ended on the states that agree at its end
  ended_same : (fuel : ℕ) (a : Answer Recorded) → IsEnding a → ledger.Answers n (outcome_of fuel m a).seen →
      Ends (Agree m n) a × (outcome_of fuel n a ≡ outcome_of fuel m a)
  ended_same fuel (Next left (v ∷ []) l w) is h =
      let e = agreed w.records h in (e, ap (λ s. record { ending = ending_of v.word; seen = s }) (seen_same w.records e))
  ended_same fuel (Trapped why left w) is h =
      let e = agreed w.records h in (e, ap (λ s. record { ending = (outcome_of fuel m (Trapped why left w)).ending; seen = s }) (seen_same w.records e))
  ended_same fuel (Spent w) is h =
      let e = agreed w.records h in (e, ap (λ s. record { ending = ledger.Spent; seen = s }) (seen_same w.records e))
  ended_same fuel (Next left [] l w) is h = absurd is
  ended_same fuel (Next left (v ∷ u ∷ s) l w) is h = absurd is
  ended_same fuel (Branch k left s l w) is h = absurd is
  ended_same fuel (Returns left s l w) is h = absurd is
  ended_same fuel Stuck is h = absurd is

  only : (wasm : Module) (fuel : ℕ) (given : Given) → IsValid wasm → ledger.Answers n (outcome wasm fuel given m).seen →
      outcome wasm fuel given n ≡ outcome wasm fuel given m
  only wasm fuel given valid h =
      let is = invocation_ends wasm (host_step m given) nothing_recorded fuel valid in
      let i = ended_same fuel (execution wasm fuel given m) is h in
      let j = invocation_follows wasm (host_step m given) (host_step n given) (Agree m n) (host_follows given) nothing_recorded fuel i.0 in
      ap (outcome_of fuel n) (sym j) ∙ i.1

-- what a state answers is so on it
all_true : (m : Plain) (keys : List Bytes) → AllByRecursion (λ r. get m r.key ≡ r.value) (map (key_seen m) keys)
all_true m [] = tt
all_true m (k ∷ ks) = (refl, all_true m ks)

all_held : (m : Plain) (qs : List Asked) → AllByRecursion (λ g. first m g.start g.end g.limit ≡ g.entries) (map (range_seen m) qs)
all_held m [] = tt
all_held m (a ∷ qs) = (refl, all_held m qs)

seen_true : (m : Plain) (s : Recorded) → ledger.Answers m (seen_on m s)
seen_true m s = record { reads = all_true m s.reads; ranges = all_held m s.ranges }

outcome_true : (fuel : ℕ) (m : Plain) (a : Answer Recorded) → ledger.Answers m (outcome_of fuel m a).seen
outcome_true fuel m (Next left [] l w) = seen_true m nothing_recorded
outcome_true fuel m (Next left (v ∷ []) l w) = seen_true m w.records
outcome_true fuel m (Next left (v ∷ u ∷ s) l w) = seen_true m nothing_recorded
outcome_true fuel m (Branch k left s l w) = seen_true m nothing_recorded
outcome_true fuel m (Returns left s l w) = seen_true m nothing_recorded
outcome_true fuel m (Trapped why left w) = seen_true m w.records
outcome_true fuel m (Spent w) = seen_true m w.records
outcome_true fuel m Stuck = seen_true m nothing_recorded

pub outcome_reads_alone : (wasm : Module) (fuel : ℕ) (given : Given) → IsValid wasm → ReadsAlone wasm fuel given
outcome_reads_alone wasm fuel given valid =
    record { truthful = λ m. outcome_true fuel m (execution wasm fuel given m); only = λ m n h. only m n wasm fuel given valid h }
