-- A call of the host that is given the beginning of a memory, in which its bytes lie.
use Rattle.std.proofs.Common.{◌≡◌, ◌≤◌, ◌+◌, ℕ, Bool, true, false, cond, List, [], ◌∷◌, ◌++◌, length, take, drop, min, Option, Some, None, inl, inr, refl, sym}
use Rattle.std.proofs.Common.{ap, ◌∙◌, arith, length-append, length-drop}
use Rattle.std.specs.Prelude.{nat_le, ◌&&◌}
use Rattle.std.proofs.lemmas.Bool.{cases_lt, le-leb, leb-true}
use Rattle.std.proofs.lemmas.List.{append-nil, drop_all, drop-append-le, take-append-le, take-append-drop, take_at}
use Rattle.wasm_ast.specs.declared.host_call.HostCall.{HostCall}
use Rattle.wasm_ast.specs.declared.host_call.HostCall.TheVariants as call
use Rattle.wasm_ast.specs.declared.host_call.HostAnswer.{HostAnswer}
use Rattle.wasm_meaning.specs.Values.{Reply}
use Rattle.wasm_meaning.specs.Memory.{with_bytes}
use Rattle.wasm_instance.specs.LendingFront.{in_place}
use Rattle.wasm_instance.proofs.Front.{written-append}
use Rattle.fab_types.specs.declared.items.WriteItem.{WriteItem}
use Rattle.ledger_model.specs.Chain.{Bytes}
use Rattle.ledger_model.specs.Views.{Plain, first}
use Rattle.std.specs.FinMap.{get}
use Rattle.host_api.specs.declared.refusal.Refusal.TheVariants as refusal
use Rattle.host_api.specs.Given.{Given}
use Rattle.host_api.specs.Recorded.{Asked, Recorded}
use Rattle.host_api.specs.HostStep.{nth, with_key, with_write, says, refuses, span_bytes, or_trap, is_key, is_own_key, is_value, is_bound, is_limit, replies, value_reply}
use Rattle.host_api.specs.HostStep.{read_key, write, reply_range_bytes, ask_range, get_state, put_state, del_state, range_state, set_result, host_step}
use Rattle.host_api.specs.Reach.{reach}

-- a reply with more bytes behind its memory
abbrev behind : List ℕ → Reply Recorded → Reply Recorded
behind rest r = record { answer = r.answer; memory = r.memory ++ rest; records = r.records }

module _ (front rest : List ℕ) where
  -- bytes that lie at the beginning
  lies : (p l : ℕ) (m : List ℕ) → p + l ≤ length m → span_bytes p l m ≡ Some (take l (drop p m))
  lies p l m h = ap (λ b. cond b (Some (take l (drop p m))) None) (le-leb (p + l) (length m) h)

  same_bytes : (p l : ℕ) → p + l ≤ length front → take l (drop p (front ++ rest)) ≡ take l (drop p front)
  same_bytes p l h =
      ap (λ bs. take l bs) (drop-append-le p front rest (omega (arith, h)))
      ∙ take-append-le l (drop p front) rest (omega (arith, h, length-drop p front))

  given_behind : (p l : ℕ) (s : Recorded) (F G : Bytes → Reply Recorded) → p + l ≤ length front → ((b : Bytes) → F b ≡ behind rest (G b)) →
      or_trap (span_bytes p l (front ++ rest)) (front ++ rest) s F ≡ behind rest (or_trap (span_bytes p l front) front s G)
  given_behind p l s F G h same =
      let whole : span_bytes p l (front ++ rest) ≡ Some (take l (drop p front)) =
      lies p l (front ++ rest) (omega (arith, h, length-append front rest)) ∙ ap Some (same_bytes p l h) in
      ap (λ b. or_trap b (front ++ rest) s F) whole ∙ same (take l (drop p front))
      ∙ sym (ap (λ b. behind rest (or_trap b front s G)) (lies p l front h))

  cond_behind : (b : Bool) (x y x' y' : Reply Recorded) → x ≡ behind rest x' → y ≡ behind rest y' → cond b x y ≡ behind rest (cond b x' y')
  cond_behind true x y x' y' ex ey = ex
  cond_behind false x y x' y' ex ey = ey

  replies_behind : (bytes : Bytes) (target capacity : ℕ) (s : Recorded) → target + capacity ≤ length front →
      replies bytes target capacity (front ++ rest) s ≡ behind rest (replies bytes target capacity front s)
  replies_behind bytes target capacity s h =
      ap (λ m. says (length bytes) m s) (go (nat_le (length bytes) capacity) refl)
    where
      go : (b : Bool) → nat_le (length bytes) capacity ≡ b →
          cond b (with_bytes (front ++ rest) target bytes) (front ++ rest) ≡ cond b (with_bytes front target bytes) front ++ rest
      go true e = written-append front rest bytes target (omega (arith, h, leb-true (length bytes) capacity e))
      go false e = refl

  value_behind : (v : Option Bytes) (target capacity : ℕ) (s : Recorded) → target + capacity ≤ length front →
      value_reply v target capacity (front ++ rest) s ≡ behind rest (value_reply v target capacity front s)
  value_behind None target capacity s h = refl
  value_behind (Some bytes) target capacity s h = replies_behind bytes target capacity s h

  get_behind : (m : Plain) (key : Bytes) (target capacity : ℕ) (s : Recorded) → target + capacity ≤ length front →
      get_state m key target capacity (front ++ rest) s ≡ behind rest (get_state m key target capacity front s)
  get_behind m key target capacity s h =
      let reads = with_key key s.reads in
      let read : read_key m key target capacity (front ++ rest) s ≡ behind rest (read_key m key target capacity front s) =
      cond_behind (nat_le (length (with_key key s.reads)) 256) _ _ _ _ (value_behind (get m key) target capacity (record s { reads = with_key key s.reads }) h)
      refl in
      cond_behind (is_key key) (read_key m key target capacity (front ++ rest) s) (refuses refusal.KeyLength (front ++ rest) s)
      (read_key m key target capacity front s) (refuses refusal.KeyLength front s) read refl

  write_behind : (w : WriteItem) (s : Recorded) → write w (front ++ rest) s ≡ behind rest (write w front s)
  write_behind w s =
      let t : Recorded = record s { writes = with_write w s.writes } in
      cond_behind (nat_le (length (with_write w s.writes)) 64) (says 0 (front ++ rest) t) (refuses refusal.NoRoom (front ++ rest) s) (says 0 front t)
      (refuses refusal.NoRoom front s) refl refl

  put_behind : (namespace key bytes : Bytes) (s : Recorded) →
      put_state namespace key bytes (front ++ rest) s ≡ behind rest (put_state namespace key bytes front s)
  put_behind namespace key bytes s =
      let w : WriteItem = record { key = key; value = Some bytes } in
      let put = cond_behind (is_value bytes) (write w (front ++ rest) s) (refuses refusal.ValueLength (front ++ rest) s) (write w front s)
      (refuses refusal.ValueLength front s) (write_behind w s) refl in
      cond_behind (is_own_key namespace key) (cond (is_value bytes) (write w (front ++ rest) s) (refuses refusal.ValueLength (front ++ rest) s))
      (refuses refusal.KeyLength (front ++ rest) s) (cond (is_value bytes) (write w front s) (refuses refusal.ValueLength front s))
      (refuses refusal.KeyLength front s) put refl

  del_behind : (namespace key : Bytes) (s : Recorded) → del_state namespace key (front ++ rest) s ≡ behind rest (del_state namespace key front s)
  del_behind namespace key s =
      let w : WriteItem = record { key = key; value = None } in
      cond_behind (is_own_key namespace key) (write w (front ++ rest) s) (refuses refusal.KeyLength (front ++ rest) s) (write w front s)
      (refuses refusal.KeyLength front s) (write_behind w s) refl

  ask_behind : (m : Plain) (a : Asked) (target capacity : ℕ) (s : Recorded) → target + capacity ≤ length front →
      ask_range m a target capacity (front ++ rest) s ≡ behind rest (ask_range m a target capacity front s)
  ask_behind m a target capacity s h =
      let t : Recorded = record s { ranges = s.ranges ++ a ∷ [] } in
      let bytes : Bytes = reply_range_bytes (first m a.start a.end a.limit) in
      cond_behind (nat_le (length (s.ranges ++ a ∷ [])) 16) (replies bytes target capacity (front ++ rest) t) (refuses refusal.NoRoom (front ++ rest) s)
      (replies bytes target capacity front t) (refuses refusal.NoRoom front s) (replies_behind bytes target capacity t h) refl

  range_behind : (m : Plain) (a : Asked) (target capacity : ℕ) (s : Recorded) → target + capacity ≤ length front →
      range_state m a target capacity (front ++ rest) s ≡ behind rest (range_state m a target capacity front s)
  range_behind m a target capacity s h =
      cond_behind (is_bound a.start && is_bound a.end)
      (cond (is_limit a.limit) (ask_range m a target capacity (front ++ rest) s) (refuses refusal.Limit (front ++ rest) s))
      (refuses refusal.KeyLength (front ++ rest) s) (cond (is_limit a.limit) (ask_range m a target capacity front s) (refuses refusal.Limit front s))
      (refuses refusal.KeyLength front s)
      (cond_behind (is_limit a.limit) (ask_range m a target capacity (front ++ rest) s) (refuses refusal.Limit (front ++ rest) s)
      (ask_range m a target capacity front s) (refuses refusal.Limit front s) (ask_behind m a target capacity s h) refl) refl

  result_behind : (bytes : Bytes) (s : Recorded) → set_result bytes (front ++ rest) s ≡ behind rest (set_result bytes front s)
  result_behind bytes s =
      let t : Recorded = record s { result = bytes } in
      cond_behind (is_value bytes) (says 0 (front ++ rest) t) (refuses refusal.ValueLength (front ++ rest) s) (says 0 front t)
      (refuses refusal.ValueLength front s) refl refl

  -- each call whose bytes lie at the beginning
  step_behind : (m : Plain) (given : Given) (which : HostCall) (args : List ℕ) (s : Recorded) → reach which args ≤ length front →
      host_step m given which args (front ++ rest) s ≡ behind rest (host_step m given which args front s)
  step_behind m given call.GetState args s h =
      given_behind (nth args 0) (nth args 1) s _ _ (omega (arith, h))
      (λ key. given_behind (nth args 2) (nth args 3) s _ _ (omega (arith, h)) (λ room. get_behind m key (nth args 2) (nth args 3) s (omega (arith, h))))
  step_behind m given call.PutState args s h =
      given_behind (nth args 0) (nth args 1) s _ _ (omega (arith, h))
      (λ key. given_behind (nth args 2) (nth args 3) s _ _ (omega (arith, h)) (λ bytes. put_behind given.namespace key bytes s))
  step_behind m given call.DelState args s h =
      given_behind (nth args 0) (nth args 1) s _ _ (omega (arith, h)) (λ key. del_behind given.namespace key s)
  step_behind m given call.RangeState args s h =
      given_behind (nth args 0) (nth args 1) s _ _ (omega (arith, h))
      (λ start. given_behind (nth args 2) (nth args 3) s _ _ (omega (arith, h))
      (λ end. given_behind (nth args 5) (nth args 6) s _ _ (omega (arith, h))
      (λ room. range_behind m (record { start = start; end = end; limit = nth args 4 }) (nth args 5) (nth args 6) s (omega (arith, h)))))
  step_behind m given call.GetArg args s h =
      given_behind (nth args 0) (nth args 1) s _ _ (omega (arith, h)) (λ room. replies_behind given.argument (nth args 0) (nth args 1) s (omega (arith, h)))
  step_behind m given call.SetResult args s h =
      given_behind (nth args 0) (nth args 1) s _ _ (omega (arith, h)) (λ bytes. result_behind bytes s)

  -- the whole memory
  step_whole : (m : Plain) (given : Given) (which : HostCall) (args : List ℕ) (s : Recorded) → rest ≡ [] →
      host_step m given which args (front ++ rest) s ≡ behind rest (host_step m given which args front s)
  step_whole m given which args s none =
      let all : front ++ rest ≡ front = ap (λ zs. front ++ zs) none ∙ append-nil front in
      let r : Reply Recorded = host_step m given which args front s in
      let same : r.memory ++ rest ≡ r.memory = ap (λ zs. r.memory ++ zs) none ∙ append-nil r.memory in
      ap (λ zs. host_step m given which args zs s) all
      ∙ sym (ap {A = List ℕ} {B = Reply Recorded} (λ zs. record { answer = r.answer; memory = zs; records = r.records }) same)

-- a call that was given a beginning of the memory, which its bytes do not leave or which is all of it
pub step_lent : (m : Plain) (given : Given) (which : HostCall) (args memory lent new : List ℕ) (s t : Recorded) (a : HostAnswer) →
    lent ≡ take (length lent) memory → min (reach which args) (length memory) ≤ length lent → length new ≡ length lent →
    host_step m given which args lent s ≡ record { answer = a; memory = new; records = t } →
    host_step m given which args memory s ≡
    record { answer = a; memory = in_place (take (length lent) memory) new ++ drop (length lent) memory; records = t }
step_lent m given which args memory lent new s t a el reaches same e =
    let rest : List ℕ = drop (length lent) memory in
    let split : memory ≡ lent ++ drop (length lent) memory = sym (ap (λ zs. zs ++ drop (length lent) memory) el ∙ take-append-drop (length lent) memory) in
    let put : in_place (take (length lent) memory) new ≡ new =
    take_at new (drop (length new) (take (length lent) memory)) (length (take (length lent) memory)) (same ∙ ap length el) in
    let step : host_step m given which args (lent ++ drop (length lent) memory) s ≡
    behind (drop (length lent) memory) (host_step m given which args lent s) =
    elim (cases_lt (length lent) (reach which args))
    as (λ _. host_step m given which args (lent ++ drop (length lent) memory) s ≡
    behind (drop (length lent) memory) (host_step m given which args lent s)) [
      | inl past ↦ step_whole lent (drop (length lent) memory) m given which args s (drop_all (length lent) memory (omega (arith, past, reaches)))
      | inr le ↦ step_behind lent (drop (length lent) memory) m given which args s le
    ] in
    ap (λ zs. host_step m given which args zs s) split ∙ step ∙ ap (behind (drop (length lent) memory)) e
    ∙ sym (ap {A = List ℕ} {B = Reply Recorded} (λ zs. record { answer = a; memory = zs ++ drop (length lent) memory; records = t }) put)
