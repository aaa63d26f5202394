-- Loads and stores within what is laid out of a memory, and past it.
use Rattle.std.proofs.Common.{◌≡◌, ◌≤◌, ◌<◌, ◌+◌, ◌-◌, ℕ, zero, suc, ◌/◌, Bool, true, false, List, length, take, drop, min, inl, inr, refl, sym, ap, ◌∙◌, arith}
use Rattle.std.proofs.Common.{length-take, length-drop}
use Rattle.std.specs.Prelude.{Ok, Err, cond, nat_lt}
use Rattle.std.proofs.lemmas.Bool.{cases_lt}
use Rattle.std.proofs.lemmas.Bool.Decides.{nat_tests}
use Rattle.std.proofs.lemmas.List.{take-take}
use Rattle.wasm_ast.specs.declared.operators.LoadOp.{LoadOp}
use Rattle.wasm_ast.specs.declared.operators.StoreOp.{StoreOp}
use Rattle.wasm_ast.specs.declared.operators.LoadOp.TheVariants as load
use Rattle.wasm_ast.specs.declared.operators.StoreOp.TheVariants as store
use Rattle.wasm_ast.specs.declared.trap.Trap.{Trap}
use Rattle.wasm_ast.specs.declared.trap.Trap.TheVariants.{OutOfBounds}
use Rattle.wasm_ast.specs.Access.{load_width, store_width}
use Rattle.wasm_meaning.specs.Memory.{bytes_of, load_value, number_of, word_loaded, with_bytes}
use Rattle.wasm_instance.specs.Accesses.{in_bounds, load_at, after_store}
use Rattle.wasm_instance.specs.Front.{padded}
use Rattle.wasm_instance.proofs.Front.{length-padded, padded_whole, bytes_laid, length-written, written_laid, window}

-- an access reads or writes eight bytes at most
pub load_width-le : (o : LoadOp) → load_width o ≤ 8
load_width-le load.I32 = omega arith
load_width-le load.I64 = omega arith
load_width-le load.I32From8S = omega arith
load_width-le load.I32From8U = omega arith
load_width-le load.I32From16S = omega arith
load_width-le load.I32From16U = omega arith
load_width-le load.I64From8S = omega arith
load_width-le load.I64From8U = omega arith
load_width-le load.I64From16S = omega arith
load_width-le load.I64From16U = omega arith
load_width-le load.I64From32S = omega arith
load_width-le load.I64From32U = omega arith

load_width-positive : (o : LoadOp) → 0 < load_width o
load_width-positive load.I32 = omega arith
load_width-positive load.I64 = omega arith
load_width-positive load.I32From8S = omega arith
load_width-positive load.I32From8U = omega arith
load_width-positive load.I32From16S = omega arith
load_width-positive load.I32From16U = omega arith
load_width-positive load.I64From8S = omega arith
load_width-positive load.I64From8U = omega arith
load_width-positive load.I64From16S = omega arith
load_width-positive load.I64From16U = omega arith
load_width-positive load.I64From32S = omega arith
load_width-positive load.I64From32U = omega arith

pub store_width-le : (o : StoreOp) → store_width o ≤ 8
store_width-le store.I32 = omega arith
store_width-le store.I64 = omega arith
store_width-le store.I32To8 = omega arith
store_width-le store.I32To16 = omega arith
store_width-le store.I64To8 = omega arith
store_width-le store.I64To16 = omega arith
store_width-le store.I64To32 = omega arith

-- what an access within the memory gives, and one past its end
pub is_within : {A : Type 0} (m : List ℕ) (p w : ℕ) (x : A) → p + w ≤ length m → in_bounds m p w x ≡ Ok x
is_within m p w x h =
    let e : nat_lt (length m) (p + w) ≡ false = grind (arith, nat_tests) in ap (λ b. cond b (Err OutOfBounds) (Ok x)) e

pub is_past : {A : Type 0} (m : List ℕ) (p w : ℕ) (x : A) → length m < p + w → in_bounds m p w x ≡ Err OutOfBounds
is_past m p w x h =
    let e : nat_lt (length m) (p + w) ≡ true = grind (arith, nat_tests) in ap (λ b. cond b (Err OutOfBounds) (Ok x)) e

pub within_from_ok : {A : Type 0} (m : List ℕ) (p w : ℕ) (x y : A) → in_bounds m p w x ≡ Ok y → p + w ≤ length m
within_from_ok m p w x y e =
    elim (cases_lt (length m) (p + w)) as (λ _. p + w ≤ length m) [
      | inl past ↦ let c : Err OutOfBounds ≡ Ok y = sym (is_past m p w x past) ∙ e in absurd cc
      | inr le ↦ le
    ]

pub past_from_err : {A : Type 0} (m : List ℕ) (p w : ℕ) (x : A) (t : Trap) → in_bounds m p w x ≡ Err t → length m < p + w
past_from_err m p w x t e =
    elim (cases_lt (length m) (p + w)) as (λ _. length m < p + w) [
      | inl past ↦ past
      | inr le ↦ let c : Ok x ≡ Err t = sym (is_within m p w x le) ∙ e in absurd cc
    ]

-- a load that stays within what is laid out
pub load_laid : (o : LoadOp) (n p word : ℕ) (xs : List ℕ) → length xs ≤ n → load_at o xs p ≡ Ok word → load_at o (padded n xs) p ≡ Ok word
load_laid o n p word xs h e =
    let le : p + load_width o ≤ length xs = within_from_ok xs p (load_width o) (load_value o xs p) word e in
    let same : load_value o (padded n xs) p ≡ load_value o xs p = ap (λ bs. word_loaded o (number_of bs)) (bytes_laid n p (load_width o) xs le) in
    is_within (padded n xs) p (load_width o) (load_value o (padded n xs) p) (omega (arith, le, h, length-padded n xs h))
    ∙ ap Ok same ∙ sym (is_within xs p (load_width o) (load_value o xs p) le) ∙ e

-- a load from the eight bytes at its place
pub load_window : (o : LoadOp) (p : ℕ) (m : List ℕ) → load_at o (take 8 (drop p m)) 0 ≡ load_at o m p
load_window o p m =
    let small = load_width-le o in
    let len : length (take 8 (drop p m)) ≡ min 8 (length m - p) = length-take 8 (drop p m) ∙ ap (min 8) (length-drop p m) in
    elim (cases_lt (length m) (p + load_width o)) as (λ _. load_at o (take 8 (drop p m)) 0 ≡ load_at o m p) [
      | inl past ↦
          is_past (take 8 (drop p m)) 0 (load_width o) (load_value o (take 8 (drop p m)) 0) (omega (arith, past, len, small, load_width-positive o))
          ∙ sym (is_past m p (load_width o) (load_value o m p) past)
      | inr le ↦
          is_within (take 8 (drop p m)) 0 (load_width o) (load_value o (take 8 (drop p m)) 0) (omega (arith, le, len, small))
          ∙ ap (λ bs. Ok (word_loaded o (number_of bs))) (take-take (load_width o) 8 (drop p m) small)
          ∙ sym (is_within m p (load_width o) (load_value o m p) le)
    ]

-- a load past what is laid out, from a copy of eight bytes
pub load_copied : (o : LoadOp) (n p : ℕ) (xs : List ℕ) → length xs ≤ n → length xs < p + 8 →
    load_at o (take (min (n - p) 8) (padded 8 (drop p xs))) 0 ≡ load_at o (padded n xs) p
load_copied o n p xs h near =
    ap (λ m. load_at o m 0) (window p n xs h near) ∙ load_window o p (padded n xs)

length-bytes_of : (w n : ℕ) → length (bytes_of w n) ≡ w
length-bytes_of zero n = refl
length-bytes_of (suc w) n = ap suc (length-bytes_of w (n / 256))

pub length-after_store : (o : StoreOp) (m : List ℕ) (p word : ℕ) → length (after_store o m p word) ≡ length m
length-after_store o m p word = go (nat_lt (length m) (p + store_width o))
  where
    go : (b : Bool) → length (cond b m (with_bytes m p (bytes_of (store_width o) word))) ≡ length m
    go true = refl
    go false = length-written m (bytes_of (store_width o) word) p

stored : (o : StoreOp) (m : List ℕ) (p word : ℕ) → p + store_width o ≤ length m → after_store o m p word ≡ with_bytes m p (bytes_of (store_width o) word)
stored o m p word h =
    let e : nat_lt (length m) (p + store_width o) ≡ false = grind (arith, nat_tests) in
    ap (λ b. cond b m (with_bytes m p (bytes_of (store_width o) word))) e

-- a store to what is laid out is a store to the memory
pub record Stores (o : StoreOp) (n p word : ℕ) (xs : List ℕ) : Type 0 where
  pub answer : in_bounds {A = Unit {0}} (padded n xs) p (store_width o) tt ≡ in_bounds {A = Unit {0}} xs p (store_width o) tt
  pub memory : after_store o (padded n xs) p word ≡ padded n (after_store o xs p word)

pub store_laid : (o : StoreOp) (n p word : ℕ) (xs : List ℕ) → length xs ≤ n → p + store_width o ≤ length xs → Stores o n p word xs
store_laid o n p word xs h le =
    let more : p + store_width o ≤ length (padded n xs) = omega (arith, le, h, length-padded n xs h) in
    let w = store_width o in
    record {
      answer = is_within {A = Unit {0}} (padded n xs) p (store_width o) tt more ∙ sym (is_within {A = Unit {0}} xs p (store_width o) tt le);
      memory =
          stored o (padded n xs) p word more
          ∙ written_laid n p xs (bytes_of (store_width o) word) (omega (arith, le, length-bytes_of (store_width o) word))
          ∙ sym (ap (λ m. padded n m) (stored o xs p word le));
    }

pub store_reached : (o : StoreOp) (n p word : ℕ) (xs : List ℕ) → length xs ≤ n → min (p + 8) n ≤ length xs → Stores o n p word xs
store_reached o n p word xs h reach =
    elim (cases_lt (length xs) (p + store_width o)) as (λ _. Stores o n p word xs) [
      | inl past ↦
          let all : length xs ≡ n = omega (arith, h, reach, past, store_width-le o) in
          let whole : padded n xs ≡ xs = padded_whole n xs all in
          record {
            answer = ap (λ m. in_bounds {A = Unit {0}} m p (store_width o) tt) whole;
            memory =
                ap (λ m. after_store o m p word) whole
                ∙ sym (padded_whole n (after_store o xs p word) (length-after_store o xs p word ∙ all));
          }
      | inr le ↦ store_laid o n p word xs h le
    ]

pub not_stored : (o : StoreOp) (m : List ℕ) (p word : ℕ) → length m < p + store_width o → after_store o m p word ≡ m
not_stored o m p word h =
    let e : nat_lt (length m) (p + store_width o) ≡ true = grind (arith, nat_tests) in
    ap (λ b. cond b m (with_bytes m p (bytes_of (store_width o) word))) e
