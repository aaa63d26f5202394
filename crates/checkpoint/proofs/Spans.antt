-- The length of each record of a chain, by where its records end.
use Rattle.std.proofs.Common.{◌≡◌, ℕ, zero, suc, ◌+◌, ◌-◌, ◌<◌, ◌≤◌, List, [], ◌∷◌, ◌++◌, Some, None, option_map, drop, get_or, slice_get, slice_index, length, take, refl, sym, ap, ◌∙◌, append_assoc, arith}
use Rattle.std.specs.Int.{w32, to_be_bytes}
use Rattle.std.specs.List.{flat_map, zip}
use Rattle.std.proofs.lemmas.List.{append-nil, flat_map_more, get_or-drop, length-append, length-drop, length-map, take_all, take_more}
use Rattle.std.proofs.lemmas.Grind.{flat_map-append}
use Rattle.std.proofs.lemmas.Slice.Zip.{get_or-zip, length-zip}
use Rattle.ledger_model.specs.Chain.{Bytes, Chain}
use Rattle.block_store.specs.Record.{record_bytes}
use Rattle.store_devices.specs.Places.{begin_at, ends_from, ends_of, span_at}
use Rattle.checkpoint.specs.Checkpoint.{counted_bytes, sized_hash_bytes, sizes_of}

-- how many bytes the records of these blocks have
abbrev pub records_size : Chain → ℕ
records_size chain = length (flat_map record_bytes chain)

-- where the record at a place ends
end_at : (begin : ℕ) (cs : Chain) (place : ℕ) → place < length cs →
    slice_get (ends_from begin cs) place ≡ Some (begin + records_size (take (suc place) cs))
end_at begin [] place inside = absurd (omega arith)
end_at begin (c ∷ cs) zero inside = ap (λ (bytes : List ℕ). Some (begin + length bytes)) (sym (append-nil (record_bytes c)))
end_at begin (c ∷ cs) (suc place) inside =
    let both = length-append (record_bytes c) (flat_map record_bytes (take (suc place) cs)) in
    let sum : begin + length (record_bytes c) + records_size (take (suc place) cs) ≡ begin + records_size (take (suc (suc place)) (c ∷ cs)) =
    omega (arith, both) in
    end_at (begin + length (record_bytes c)) cs place (omega (arith, inside)) ∙ ap Some sum

index_at : (begin : ℕ) (cs : Chain) (place : ℕ) → place < length cs →
    slice_index (ends_from begin cs) place ≡ begin + records_size (take (suc place) cs)
index_at begin [] place inside = absurd (omega arith)
index_at begin (c ∷ cs) zero inside = ap (λ (bytes : List ℕ). begin + length bytes) (sym (append-nil (record_bytes c)))
index_at begin (c ∷ cs) (suc place) inside =
    let both = length-append (record_bytes c) (flat_map record_bytes (take (suc place) cs)) in
    let sum : begin + length (record_bytes c) + records_size (take (suc place) cs) ≡ begin + records_size (take (suc (suc place)) (c ∷ cs)) =
    omega (arith, both) in
    index_at (begin + length (record_bytes c)) cs place (omega (arith, inside)) ∙ sum

begins : (cs : Chain) (place : ℕ) → place ≤ length cs → begin_at (ends_of cs) place ≡ records_size (take place cs)
begins cs zero inside = refl
begins cs (suc place) inside =
    let at = index_at 0 cs place (omega (arith, inside)) in
    let sum : 0 + records_size (take (suc place) cs) ≡ records_size (take (suc place) cs) = omega arith in
    at ∙ sum

-- it is as long as all records to its end are longer than those before it
one_more : (cs : Chain) (place : ℕ) → place < length cs →
    records_size (take (suc place) cs) ≡ records_size (take place cs) + slice_index (sizes_of cs) place
one_more [] place inside = absurd (omega arith)
one_more (c ∷ cs) zero inside =
    let one = ap (λ (bytes : List ℕ). length bytes) (append-nil (record_bytes c)) in
    let sum : length (record_bytes c) ≡ 0 + length (record_bytes c) = omega arith in
    one ∙ sum
one_more (c ∷ cs) (suc place) inside =
    let more = one_more cs place (omega (arith, inside)) in
    let one = length-append (record_bytes c) (flat_map record_bytes (take (suc place) cs)) in
    let two = length-append (record_bytes c) (flat_map record_bytes (take place cs)) in
    omega (arith, more, one, two)

-- where the record of a number begins and ends
abbrev pub span_of : Chain → (before : ℕ) → ℕ × ℕ
span_of chain before = (records_size (take before chain), 0 + records_size (take (suc before) chain))

spanned : (chain : Chain) (before : ℕ) → before < length chain → span_at (ends_of chain) (suc before) ≡ Some (span_of chain before)
spanned chain before inside =
    ap (option_map {U = ℕ × ℕ} (λ (end : ℕ). (begin_at (ends_of chain) before, end))) (end_at 0 chain before inside)
    ∙ ap (λ (begin : ℕ). let span : ℕ × ℕ = (begin, 0 + records_size (take (suc before) chain)) in Some span) (begins chain before (omega (arith, inside)))

-- what is found of a number of a chain
module _ (chain : Chain) (ends : List ℕ) (number before : ℕ) (are : ends ≡ ends_of chain) (is : number ≡ suc before) (inside : before < length chain) where
  found_span : span_at ends number ≡ Some (span_of chain before)
  found_span = ap (λ (l : List ℕ). span_at l number) are ∙ ap (span_at (ends_of chain)) is ∙ spanned chain before inside

  pub some_size : (span : ℕ × ℕ) → Some span ≡ span_at ends number → span.1 - span.0 ≡ slice_index (sizes_of chain) before
  some_size span here =
      let found : Some span ≡ Some (span_of chain before) = here ∙ found_span in
      let same : span ≡ span_of chain before = cc (found) in
      let begin = ap (λ (s : ℕ × ℕ). s.0) same in
      let end = ap (λ (s : ℕ × ℕ). s.1) same in
      let more = one_more chain before inside in
      omega (arith, begin, end, more)

  pub some_there : {P : Type 0} → None ≡ span_at ends number → P
  some_there here = let none : None ≡ Some (span_of chain before) = here ∙ found_span in cc (none)

-- ---- hashes with the lengths

pub zip_joined : (front back : List Bytes) (sizes : List ℕ) → length front ≤ length sizes →
    zip (front ++ back) sizes ≡ zip front sizes ++ zip back (drop (length front) sizes)
zip_joined [] back sizes fits = refl
zip_joined (x ∷ xs) back [] fits = absurd (omega (arith, fits))
zip_joined (x ∷ xs) back (n ∷ ns) fits = ap (λ (l : List (Bytes × ℕ)). (x, n) ∷ l) (zip_joined xs back ns (omega (arith, fits)))

pub length-sizes : (chain : Chain) → length (sizes_of chain) ≡ length chain
length-sizes chain = length-map chain (λ c. length (record_bytes c))

-- one more of them, which stands at a place behind others
pub one_sized : (chain : Chain) (hashes : List Bytes) (before i size : ℕ) (d text : Bytes) → before + length hashes ≤ length chain → i < length hashes →
    size ≡ slice_index (sizes_of chain) (before + i) →
    let all = zip hashes (drop before (sizes_of chain)) in
    text ++ flat_map sized_hash_bytes (take i all) ++ sized_hash_bytes (get_or hashes i d, size) ≡ text ++ flat_map sized_hash_bytes (take (i + 1) all)
one_sized chain hashes before i size d text fits inside is =
    let sizes = drop before (sizes_of chain) in
    let all = zip hashes sizes in
    let count = length-sizes chain in
    let rest = length-drop before (sizes_of chain) in
    let pairs = length-zip hashes sizes in
    let pair : get_or all i (d, 0) ≡ (get_or hashes i d, size) =
    get_or-zip hashes sizes i (d, 0) inside (omega (arith, fits, inside, count, rest))
    ∙ (λ j. (get_or hashes i d, (get_or-drop before (sizes_of chain) i 0 ∙ sym is) j)) in
    let more = take_more all i (d, 0) (omega (arith, fits, inside, count, rest, pairs)) ∙ ap (λ (b : Bytes × ℕ). take i all ++ b ∷ []) pair in
    flat_map_more sized_hash_bytes text (take i all) (get_or hashes i d, size) ∙ ap (λ (l : List (Bytes × ℕ)). text ++ flat_map sized_hash_bytes l) (sym more)

-- all of them
pub all_sized : (chain : Chain) (hashes : List Bytes) (before i : ℕ) → length hashes ≤ i →
    let all = zip hashes (drop before (sizes_of chain)) in take i all ≡ all
all_sized chain hashes before i past =
    let sizes = drop before (sizes_of chain) in
    let pairs = length-zip hashes sizes in
    take_all i (zip hashes sizes) (omega (arith, past, pairs))

-- the count of all of them, those in front, and those behind
pub counted_sized : (front back all : List Bytes) (sizes : List ℕ) (count text : Bytes) → front ++ back ≡ all → length all ≡ length sizes →
    count ≡ to_be_bytes w32 (length all) →
    text ++ count ++ flat_map sized_hash_bytes (zip front sizes) ++ flat_map sized_hash_bytes (zip back (drop (length front) sizes))
    ≡ text ++ counted_bytes w32 sized_hash_bytes (zip all sizes)
counted_sized front back all sizes count text is fits number =
    let f = flat_map sized_hash_bytes in
    let pairs = length-zip all sizes in
    let long = ap (λ (l : List Bytes). length l) is in
    let sum = length-append front back in
    let both : zip front sizes ++ zip back (drop (length front) sizes) ≡ zip all sizes =
    sym (zip_joined front back sizes (omega (arith, fits, long, sum))) ∙ ap (λ (l : List Bytes). zip l sizes) is in
    let listed : f (zip front sizes) ++ f (zip back (drop (length front) sizes)) ≡ f (zip all sizes) =
    sym (flat_map-append sized_hash_bytes (zip front sizes) (zip back (drop (length front) sizes))) ∙ ap f both in
    let counted : count ≡ to_be_bytes w32 (length (zip all sizes)) = number ∙ ap (to_be_bytes w32) (omega (arith, fits, pairs)) in
    append_assoc (text ++ count) (f (zip front sizes)) (f (zip back (drop (length front) sizes)))
    ∙ append_assoc text count (f (zip front sizes) ++ f (zip back (drop (length front) sizes))) ∙ (λ i. text ++ (counted i ++ listed i))
