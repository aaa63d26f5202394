-- Where the records of a store end, as they are read.
use Rattle.std.proofs.Common.{◌≡◌, ◌≤◌, ◌<◌, ◌+◌, ◌-◌, ◌∙◌, ℕ, zero, suc, true, false, List, [], ◌∷◌, ◌++◌, length, option_map, slice_get, get_or, take, drop, refl, sym, ap, subst, append_assoc, append-nil, arith}
use Rattle.std.proofs.Math.Seq.{split_at, take-suc}
use Rattle.std.proofs.lemmas.List.{take_all}
use Rattle.std.specs.Option.{is_some}
use Rattle.fab_types.specs.Committed.{Committed}
use Rattle.ledger_model.specs.Chain.{Chain}
use Rattle.block_store.specs.Record.{IsRecord, record_bytes}
use Rattle.block_store.specs.Store.{AreRecords}
use Rattle.store_devices.specs.Places.{begin_at, ends_from, ends_of, last_end, or_zero, span_at}

-- ---- a record more

abbrev last_or : ℕ → List ℕ → ℕ
last_or begin [] = begin
last_or begin (end ∷ ends) = last_or end ends

last_behind : (end : ℕ) (ends : List ℕ) → or_zero (slice_get (end ∷ ends) (length ends)) ≡ last_or end ends
last_behind end [] = refl
last_behind end (next ∷ ends) = last_behind next ends

last_is : (ends : List ℕ) → last_end ends ≡ last_or 0 ends
last_is [] = refl
last_is (end ∷ ends) =
    let place : suc (length ends) - 1 ≡ length ends = omega arith in
    ap (λ (n : ℕ). or_zero (slice_get (end ∷ ends) n)) place ∙ last_behind end ends

more_from : (begin : ℕ) (cs : Chain) (c : Committed) →
    ends_from begin (cs ++ c ∷ []) ≡ ends_from begin cs ++ (last_or begin (ends_from begin cs) + length (record_bytes c)) ∷ []
more_from begin [] c = refl
more_from begin (x ∷ cs) c =
    let end = begin + length (record_bytes x) in
    ap (λ (ends : List ℕ). end ∷ ends) (more_from end cs c)

-- the next record ends where the last one does and its own bytes more
pub ends_more : (cs : Chain) (c : Committed) (old new : List ℕ) (size : ℕ) → old ≡ ends_of cs → size ≡ length (record_bytes c) →
    new ≡ old ++ (last_end old + size) ∷ [] → new ≡ ends_of (cs ++ c ∷ [])
ends_more cs c old new size were is more =
    let last = last_is old ∙ ap (last_or 0) were in
    more ∙ (λ i. were i ++ (last i + is i) ∷ []) ∙ sym (more_from 0 cs c)

pub length_ends : (begin : ℕ) (cs : Chain) → length (ends_from begin cs) ≡ length cs
length_ends begin [] = refl
length_ends begin (c ∷ cs) = ap suc (length_ends (begin + length (record_bytes c)) cs)

-- ---- how many places there are

many : (f : ℕ → ℕ × ℕ) (ends : List ℕ) (place : ℕ) → is_some (option_map f (slice_get ends place)) ≡ true → place < length ends
many f [] place some = cc
many f (end ∷ ends) zero some = omega arith
many f (end ∷ ends) (suc place) some = let more = many f ends place some in omega (arith, more)

few : (f : ℕ → ℕ × ℕ) (ends : List ℕ) (place : ℕ) → is_some (option_map f (slice_get ends place)) ≡ false → length ends ≤ place
few f [] place none = omega arith
few f (end ∷ ends) zero none = cc
few f (end ∷ ends) (suc place) none = let less = few f ends place none in omega (arith, less)

pub are_many : (ends : List ℕ) (number : ℕ) → is_some (span_at ends number) ≡ true → number ≤ length ends
are_many ends zero some = cc
are_many ends (suc place) some = let more = many (λ end. (begin_at ends place, end)) ends place some in omega (arith, more)

pub are_few : (ends : List ℕ) (number : ℕ) → 1 ≤ number → is_some (span_at ends number) ≡ false → length ends < number
are_few ends zero some none = omega (arith, some)
are_few ends (suc place) some none = let less = few (λ end. (begin_at ends place, end)) ends place none in omega (arith, less)

-- a chain has no more records than a block may have for its number
pub no_room : (ends : List ℕ) (before : Chain) (c : Committed) → 4000000000 ≤ length ends → ends ≡ ends_of before →
    IsRecord (suc (length before)) c → ⊥
no_room ends before c full were is =
    let size = ap length were ∙ length_ends 0 before in
    let number = is.block.number in
    let most = is.block.block.header.number in
    omega (arith, full, size, number, most)

-- ---- records from a number on

pub records_front : (n : ℕ) (cs ds : Chain) → AreRecords n (cs ++ ds) → AreRecords n cs
records_front n [] ds are = tt
records_front n (c ∷ cs) ds are = (are.0, records_front (suc n) cs ds are.1)

pub record_next : (n : ℕ) (cs ds : Chain) (c : Committed) (number : ℕ) → AreRecords n (cs ++ c ∷ ds) → number ≡ length cs + n → IsRecord number c
record_next n [] ds c number are counted =
    let same : n ≡ number = omega (arith, counted) in
    subst (λ (m : ℕ). IsRecord m c) same are.0
record_next n (x ∷ cs) ds c number are counted = record_next (suc n) cs ds c number are.1 (omega (arith, counted))

pub records_more : (n : ℕ) (cs : Chain) (c : Committed) (number : ℕ) → AreRecords n cs → number ≡ length cs + n → IsRecord number c →
    AreRecords n (cs ++ c ∷ [])
records_more n [] c number are counted is =
    let same : number ≡ n = omega (arith, counted) in
    (subst (λ (m : ℕ). IsRecord m c) same is, tt)
records_more n (x ∷ cs) c number are counted is = (are.0, records_more (suc n) cs c number are.1 (omega (arith, counted)) is)

-- ---- records in turn

pub ends_next : (places new : List ℕ) (before cs : Chain) (place : ℕ) (c : Committed) → place < length cs → c ≡ get_or cs place c →
    AreRecords 1 (before ++ cs) → places ≡ ends_of (before ++ take place cs) →
    ((front : Chain) → places ≡ ends_of front → IsRecord (suc (length front)) c → new ≡ ends_of (front ++ c ∷ [])) →
    new ≡ ends_of (before ++ take (place + 1) cs)
ends_next places new before cs place c there is are were more =
    let front : Chain = before ++ take place cs in
    let rest : Chain = drop (suc place) cs in
    let split : cs ≡ take place cs ++ c ∷ rest = split_at cs place c there ∙ ap (λ (x : Committed). take place cs ++ x ∷ rest) (sym is) in
    let all = subst (AreRecords 1) (ap (λ (xs : Chain). before ++ xs) split ∙ sym (append_assoc before (take place cs) (c ∷ rest))) are in
    let own = record_next 1 front rest c (suc (length front)) all (omega arith) in
    let behind : suc place ≡ place + 1 = omega arith in
    let next = sym (take-suc cs place c there ∙ ap (λ (x : Committed). take place cs ++ x ∷ []) (sym is)) ∙ ap (λ (n : ℕ). take n cs) behind in
    more front were own ∙ ap ends_of (append_assoc before (take place cs) (c ∷ []) ∙ ap (λ (xs : Chain). before ++ xs) next)

pub ends_none : {places : List ℕ} (before cs : Chain) → (AreRecords 1 before → places ≡ ends_of before) → AreRecords 1 (before ++ cs) →
    places ≡ ends_of (before ++ take 0 cs)
ends_none before cs were are = were (records_front 1 before cs are) ∙ ap ends_of (sym (append-nil before))

pub ends_all : (before cs : Chain) (place : ℕ) → length cs ≤ place → ends_of (before ++ take place cs) ≡ ends_of (before ++ cs)
ends_all before cs place past = ap (λ (xs : Chain). ends_of (before ++ xs)) (take_all place cs past)
