-- What is written to a front that is lent.
use Rattle.std.proofs.Common.{◌≡◌, ◌≤◌, ◌<◌, ◌+◌, ◌-◌, ℕ, List, ◌++◌, length, take, drop, replicate, sym, ap, ◌∙◌, subst, arith, length-append, length-take}
use Rattle.std.proofs.Common.{length-drop}
use Rattle.std.proofs.lemmas.List.{take_at, drop_at}
use Rattle.wasm_ast.specs.declared.operators.StoreOp.{StoreOp}
use Rattle.wasm_ast.specs.Access.{store_width}
use Rattle.wasm_meaning.specs.Memory.{with_bytes}
use Rattle.wasm_instance.specs.Accesses.{after_store}
use Rattle.wasm_instance.specs.Front.{padded}
use Rattle.wasm_instance.specs.LendingFront.{in_place}
use Rattle.wasm_instance.proofs.Front.{length-written, written_front}
use Rattle.wasm_instance.proofs.Reach.{Stores, length-after_store, not_stored}

-- a `Vec` into which as many bytes as it has are written has these bytes
same_length : (len : ℕ) (xs ys : List ℕ) → length ys ≡ len → take len (ys ++ drop (length ys) xs) ≡ ys
same_length len xs ys e = take_at ys (drop (length ys) xs) len e

pub stored_in_place : (o : StoreOp) (n p word len : ℕ) (xs r ys m : List ℕ) → Stores o n p word xs → len ≡ length xs → r ≡ xs → ys ≡ after_store o r p word →
    padded n xs ≡ m → padded n (take len (ys ++ drop (length ys) xs)) ≡ after_store o m p word
stored_in_place o n p word len xs r ys m stores el er e em =
    let is : ys ≡ after_store o xs p word = e ∙ ap (λ zs. after_store o zs p word) er in
    let size : length ys ≡ len = ap length is ∙ length-after_store o xs p word ∙ sym el in
    ap (λ zs. padded n zs) (same_length len xs ys size ∙ is) ∙ sym stores.memory ∙ ap (λ zs. after_store o zs p word) em

-- the front is the beginning of the memory
pub beginning : (n : ℕ) (xs r m : List ℕ) → r ≡ xs → padded n xs ≡ m → take (length r) m ≡ xs
beginning n xs r m er em =
    ap (λ zs. take (length r) zs) (sym em) ∙ take_at xs (replicate (n - length xs) 0) (length r) (sym (ap length er))

pub lent : (n len : ℕ) (xs r m w : List ℕ) → len ≡ length xs → r ≡ xs → padded n xs ≡ m →
    padded n (take len (w ++ drop (length w) xs)) ≡ in_place (take (length r) m) w ++ drop (length r) m
lent n len xs r m w el er em =
    let rest : drop (length r) m ≡ replicate (n - length xs) 0 =
    ap (λ zs. drop (length r) zs) (sym em) ∙ drop_at xs (replicate (n - length xs) 0) (length r) (sym (ap length er)) in
    let same : take len (w ++ drop (length w) xs) ≡ in_place xs w = ap (λ k. take k (w ++ drop (length w) xs)) el in
    let size : length (in_place xs w) ≡ length xs =
    omega (arith, length-take (length xs) (w ++ drop (length w) xs), length-append w (drop (length w) xs), length-drop (length w) xs) in
    ap (λ zs. padded n zs) same
    ∙ ap (λ k. in_place xs w ++ replicate (n - k) 0) size
    ∙ sym (ap (λ zs. in_place zs w ++ drop (length r) m) (beginning n xs r m er em) ∙ ap (λ zs. in_place xs w ++ zs) rest)

-- bytes that are written within a beginning that is lent
pub written_in_place : (m r bytes ys : List ℕ) (p : ℕ) → r ≡ take (length r) m → p + length bytes ≤ length r → ys ≡ with_bytes r p bytes →
    in_place (take (length r) m) ys ++ drop (length r) m ≡ with_bytes m p bytes
written_in_place m r bytes ys p er h e =
    let size : length ys ≡ length (take (length r) m) = ap length e ∙ length-written r bytes p ∙ ap length er in
    let fits : p + length bytes ≤ length (take (length r) m) = subst (λ k. p + length bytes ≤ k) (ap length er) h in
    ap (λ zs. zs ++ drop (length r) m) (same_length (length (take (length r) m)) (take (length r) m) ys size ∙ e ∙ ap (λ zs. with_bytes zs p bytes) er)
    ∙ written_front (length r) p m bytes fits

-- after a store that is refused
pub refused_in_place : (o : StoreOp) (n p word len : ℕ) (xs r ys m : List ℕ) → length xs < p + store_width o → len ≡ length xs → r ≡ xs →
    ys ≡ after_store o r p word → padded n xs ≡ m → padded n (take len (ys ++ drop (length ys) xs)) ≡ m
refused_in_place o n p word len xs r ys m past el er e em =
    let is : ys ≡ xs = e ∙ ap (λ zs. after_store o zs p word) er ∙ not_stored o xs p word past in
    ap (λ zs. padded n zs) (same_length len xs ys (ap length is ∙ sym el) ∙ is) ∙ em
