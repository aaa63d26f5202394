-- What the host of chaincode answers and records, by cases on its six calls. A negative answer -k is the word 2 ^ 32 - k.
use Rattle.std.specs.Prelude.{ℕ, ◌+◌, ◌-◌, ◌/◌, ◌%◌, ◌^◌, List, [], ◌∷◌, ◌++◌, Bool, if◌then◌else◌, ◌&&◌, nat_le, Option, Some, None, length, take, drop}
use Rattle.std.specs.Prelude.{get_or}
use Rattle.std.specs.List.{flat_map}
use Rattle.std.specs.Ordering.{eq_by_cmp}
use Rattle.std.specs.FinMap.{get}
use Rattle.fab_types.specs.Namespaces.{is_in_namespace}
use Rattle.fab_types.specs.Order.{key_cmp, is_before, is_shown}
use Rattle.fab_types.specs.declared.items.WriteItem.{WriteItem}
use Rattle.wasm_ast.specs.declared.host_call.HostCall.TheVariants as call
use Rattle.wasm_ast.specs.declared.host_call.HostAnswer.TheVariants as answer
use Rattle.wasm_meaning.specs.Values.{Reply, Answering}
use Rattle.wasm_meaning.specs.Memory.{with_bytes}
use Rattle.ledger_model.specs.Chain.{Bytes}
use Rattle.ledger_model.specs.Views.{Plain, first}
use Rattle.host_api.specs.declared.refusal.Refusal.{Refusal}
use Rattle.host_api.specs.declared.refusal.Refusal.TheVariants as refusal
use Rattle.host_api.specs.Refusals.{refusal_number}
use Rattle.host_api.specs.Given.{Given}
use Rattle.host_api.specs.Recorded.{Asked, Recorded}

-- an item in its place among others in key order; an earlier one of its key is replaced
abbrev pub with_item : {X : Type 0} → (X → Bytes) → X → List X → List X
with_item key x [] = x ∷ []
with_item key x (y ∷ ys) =
    if is_before (key y) (key x) then (y ∷ with_item key x ys) else (if eq_by_cmp key_cmp (key y) (key x) then (x ∷ ys) else (x ∷ y ∷ ys))

-- a key is recorded once
abbrev pub with_key : Bytes → List Bytes → List Bytes
with_key = with_item (λ k. k)

abbrev pub with_write : WriteItem → List WriteItem → List WriteItem
with_write = with_item (λ w. w.key)

abbrev pub says : ℕ → (memory : List ℕ) → Recorded → Reply Recorded
says n memory s = record { answer = answer.Value n; memory = memory; records = s }

-- the answer -k for the number k of a refusal, which changes nothing
abbrev pub refuses : Refusal → (memory : List ℕ) → Recorded → Reply Recorded
refuses why memory s = says (2 ^ 32 - refusal_number why) memory s

abbrev pub traps : (memory : List ℕ) → Recorded → Reply Recorded
traps memory s = record { answer = answer.OutOfBounds; memory = memory; records = s }

-- the bytes of a pointer and a length, where these lie within the memory; a length of 0 must lie there too
abbrev pub span_bytes : (pointer len : ℕ) → (memory : List ℕ) → Option Bytes
span_bytes pointer len memory =
    if (nat_le (pointer + len) (length memory)) then Some (take len (drop pointer memory)) else None

-- a call traps where bytes that it is given do not lie within the memory
abbrev pub or_trap : Option Bytes → (memory : List ℕ) → Recorded → (Bytes → Reply Recorded) → Reply Recorded
or_trap None memory s reply = traps memory s
or_trap (Some bytes) memory s reply = reply bytes

-- a key has 1 to 64 bytes, and does not begin with the byte 0
abbrev pub is_key : Bytes → Bool
is_key bytes = nat_le 1 (length bytes) && nat_le (length bytes) 64 && is_shown bytes

-- a key that is written is in the chaincode's namespace
abbrev pub is_own_key : (namespace bytes : Bytes) → Bool
is_own_key namespace bytes = is_key bytes && is_in_namespace namespace bytes

-- a bound has up to 64 bytes, which may begin with the byte 0
abbrev pub is_bound : Bytes → Bool
is_bound bytes = nat_le (length bytes) 64

-- a value or a result has up to 4,096 bytes
abbrev pub is_value : Bytes → Bool
is_value bytes = nat_le (length bytes) 4096

-- a range is asked for 1 to 64 entries
abbrev pub is_limit : ℕ → Bool
is_limit n = nat_le 1 n && nat_le n 64

-- a reply is written at the target only if it fits the capacity whole; its length is answered either way
abbrev pub replies : Bytes → (target capacity : ℕ) → (memory : List ℕ) → Recorded → Reply Recorded
replies bytes target capacity memory s =
    says (length bytes) (if nat_le (length bytes) capacity then with_bytes memory target bytes else memory) s

-- a key that is absent is refused
abbrev pub value_reply : Option Bytes → (target capacity : ℕ) → (memory : List ℕ) → Recorded → Reply Recorded
value_reply None target capacity memory s = refuses refusal.Absent memory s
value_reply (Some bytes) target capacity memory s = replies bytes target capacity memory s

-- A read that would make 257 keys is refused. Any other is recorded, and the state alone gives the answer.
abbrev pub read_key : Plain → (key : Bytes) → (target capacity : ℕ) → (memory : List ℕ) → Recorded → Reply Recorded
read_key m key target capacity memory s =
    let reads = with_key key s.reads in
    if nat_le (length reads) 256 then value_reply (get m key) target capacity memory (record s { reads = reads }) else refuses refusal.NoRoom memory s

-- A write that would make 65 keys is refused. A write of None deletes its key.
abbrev pub write : WriteItem → (memory : List ℕ) → Recorded → Reply Recorded
write w memory s =
    let writes = with_write w s.writes in
    if nat_le (length writes) 64 then says 0 memory (record s { writes = writes }) else refuses refusal.NoRoom memory s

-- the key's length and its bytes, the value's length in two bytes, the least first, and its bytes
abbrev pub reply_entry_bytes : Bytes × Bytes → Bytes
reply_entry_bytes e = length e.0 ∷ e.0 ++ (length e.1 % 256 ∷ length e.1 / 256 ∷ e.1)

-- the number of entries, and the entries
abbrev pub reply_range_bytes : List (Bytes × Bytes) → Bytes
reply_range_bytes es = length es ∷ flat_map reply_entry_bytes es

-- the 17th range is refused; range entries make no reads
abbrev pub ask_range : Plain → Asked → (target capacity : ℕ) → (memory : List ℕ) → Recorded → Reply Recorded
ask_range m a target capacity memory s =
    let ranges = s.ranges ++ a ∷ [] in
    if nat_le (length ranges) 16 then replies (reply_range_bytes (first m a.start a.end a.limit)) target capacity memory (record s { ranges = ranges }) else
    refuses refusal.NoRoom memory s

abbrev pub get_state : Plain → (key : Bytes) → (target capacity : ℕ) → (memory : List ℕ) → Recorded → Reply Recorded
get_state m key target capacity memory s =
    if is_key key then read_key m key target capacity memory s else refuses refusal.KeyLength memory s

abbrev pub put_state : (namespace key bytes memory : List ℕ) → Recorded → Reply Recorded
put_state namespace key bytes memory s =
    if is_own_key namespace key then (if is_value bytes then write (record { key = key; value = Some bytes }) memory s else
    refuses refusal.ValueLength memory s) else refuses refusal.KeyLength memory s

abbrev pub del_state : (namespace key memory : List ℕ) → Recorded → Reply Recorded
del_state namespace key memory s =
    if is_own_key namespace key then write (record { key = key; value = None }) memory s else refuses refusal.KeyLength memory s

abbrev pub range_state : Plain → Asked → (target capacity : ℕ) → (memory : List ℕ) → Recorded → Reply Recorded
range_state m a target capacity memory s =
    if (is_bound a.start && is_bound a.end) then (if is_limit a.limit then ask_range m a target capacity memory s else refuses refusal.Limit memory s) else
    refuses refusal.KeyLength memory s

abbrev pub set_result : (bytes memory : List ℕ) → Recorded → Reply Recorded
set_result bytes memory s =
    if is_value bytes then says 0 memory (record s { result = bytes }) else refuses refusal.ValueLength memory s

abbrev pub nth : List ℕ → ℕ → ℕ
nth args i = get_or args i 0

-- The host's step, on the plain state at which the chaincode runs and with what that is given. Every pair of a pointer and a
-- length is tested first, that of a target and its capacity too.
abbrev pub host_step : Plain → Given → Answering Recorded
host_step m given call.GetState args memory s =
    or_trap (span_bytes (nth args 0) (nth args 1) memory) memory s
    (λ key. or_trap (span_bytes (nth args 2) (nth args 3) memory) memory s (λ room. get_state m key (nth args 2) (nth args 3) memory s))
host_step m given call.PutState args memory s =
    or_trap (span_bytes (nth args 0) (nth args 1) memory) memory s
    (λ key. or_trap (span_bytes (nth args 2) (nth args 3) memory) memory s (λ bytes. put_state given.namespace key bytes memory s))
host_step m given call.DelState args memory s =
    or_trap (span_bytes (nth args 0) (nth args 1) memory) memory s (λ key. del_state given.namespace key memory s)
host_step m given call.RangeState args memory s =
    or_trap (span_bytes (nth args 0) (nth args 1) memory) memory s
    (λ start. or_trap (span_bytes (nth args 2) (nth args 3) memory) memory s
    (λ end. or_trap (span_bytes (nth args 5) (nth args 6) memory) memory s
    (λ room. range_state m (record { start = start; end = end; limit = nth args 4 }) (nth args 5) (nth args 6) memory s)))
host_step m given call.GetArg args memory s =
    or_trap (span_bytes (nth args 0) (nth args 1) memory) memory s (λ room. replies given.argument (nth args 0) (nth args 1) memory s)
host_step m given call.SetResult args memory s =
    or_trap (span_bytes (nth args 0) (nth args 1) memory) memory s (λ bytes. set_result bytes memory s)
