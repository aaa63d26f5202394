-- The first transaction of an id is in the block with which the id stands first.
use Rattle.std.proofs.Common.{◌≡◌, ℕ, suc, ◌+◌, ◌-◌, ◌<◌, ◌≤◌, Bool, true, false, cond, List, [], ◌∷◌, ◌++◌, length, slice_get, take, drop}
use Rattle.std.proofs.Common.{Option, Some, None, option_map, refl, sym, ap, ◌∙◌, subst, arith}
use Rattle.std.proofs.Math.Nat.{min-eq_left}
use Rattle.std.proofs.lemmas.List.{length-take}
use Rattle.std.proofs.lemmas.List.Folds.{find-append}
use Rattle.std.specs.List.{find}
use Rattle.std.specs.Option.{option_or}
use Rattle.fab_types.specs.Committed.{Committed}
use Rattle.ledger_model.specs.Chain.{Bytes, Chain, Envelope, Flag, Placed, history, placed_from, transactions_from}
use Rattle.json_chain.specs.Writes.{placed_at}
use Rattle.world_state.specs.Kept.{block_of_id, placed_ids}
use Rattle.ledger_model.proofs.Histories.{history-append}
use Rattle.json_questions.specs.Answers.{has_id}
use Rattle.json_questions.proofs.Given.{over}

-- the first that passes a test is in this block, and none in those before it does
pub record IsFoundIn (test : Placed → Bool) (first : ℕ) (chain : Chain) (block : ℕ) : Type 0 where
  pub from : first ≤ block
  pub within : block < first + length chain
  pub before : find test (placed_from first (take (block - first) chain)) ≡ None
  pub there : (c : Committed) → slice_get chain (block - first) ≡ Some c →
      find test (transactions_from block 0 c.block.envelopes c.flags) ≡ find test (placed_from first chain)

-- the transactions of a block have its number
pub found_number : (test : Placed → Bool) (block place : ℕ) (es : List Envelope) (fs : List Flag) (t : Placed) →
    find test (transactions_from block place es fs) ≡ Some t → t.version.block ≡ block
found_number test block place [] fs t is = absurd (cc is)
found_number test block place (e ∷ es) [] t is = absurd (cc is)
found_number test block place (e ∷ es) (f ∷ fs) t is =
    let here = placed_at e f block place in
    let rest = transactions_from block (suc place) es fs in
    elim (test here) as (λ b. cond b (Some here) (find test rest) ≡ Some t → t.version.block ≡ block) [
      | true ↦ λ h. let same : here ≡ t = cc h in ap (λ (u : Placed). u.version.block) (sym same)
      | false ↦ λ h. found_number test block (suc place) es fs t h
    ] is

module _ (test : Placed → Bool) (first : ℕ) (c : Committed) (chain : Chain) (t : Placed) where
  abbrev here : List Placed
  here = transactions_from first 0 c.block.envelopes c.flags

  abbrev rest : List Placed
  rest = placed_from (suc first) chain

  in_first : find test here ≡ Some t → IsFoundIn test first (c ∷ chain) t.version.block
  in_first is =
      let number : t.version.block ≡ first = found_number test first 0 c.block.envelopes c.flags t is in
      let place : t.version.block - first ≡ 0 = omega (arith, number) in
      record {
        from = omega (arith, number);
        within = omega (arith, number);
        before = ap (λ i. find test (placed_from first (take i (c ∷ chain)))) place;
        there = λ d at.
            let here_is : Some c ≡ Some d = ap (λ i. slice_get (c ∷ chain) i) (sym place) ∙ at in
            let same : d ≡ c = sym (cc here_is) in
            (λ i. find test (transactions_from (number i) 0 (same i).block.envelopes (same i).flags))
            ∙ is ∙ sym (find-append test here rest ∙ ap (λ o. option_or o (find test rest)) is);
      }

  in_rest : find test here ≡ None → IsFoundIn test (suc first) chain t.version.block → IsFoundIn test first (c ∷ chain) t.version.block
  in_rest none r =
      let place : t.version.block - first ≡ suc (t.version.block - suc first) = omega (arith, r.from) in
      record {
        from = omega (arith, r.from);
        within = omega (arith, r.within);
        before =
            let taken = placed_from (suc first) (take (t.version.block - suc first) chain) in
            ap (λ i. find test (placed_from first (take i (c ∷ chain)))) place
            ∙ find-append test here taken ∙ ap (λ o. option_or o (find test taken)) none ∙ r.before;
        there = λ d at.
            r.there d (ap (λ i. slice_get (c ∷ chain) i) (sym place) ∙ at)
            ∙ sym (find-append test here rest ∙ ap (λ o. option_or o (find test rest)) none);
      }

found_in : (test : Placed → Bool) (first : ℕ) (chain : Chain) (t : Placed) → find test (placed_from first chain) ≡ Some t →
    IsFoundIn test first chain t.version.block
found_in test first [] t is = absurd (cc is)
found_in test first (c ∷ chain) t is =
    let front = transactions_from first 0 c.block.envelopes c.flags in
    let rest = placed_from (suc first) chain in
    elim (find test front) as (λ (o : Option Placed).
    find test front ≡ o → option_or o (find test rest) ≡ Some t → IsFoundIn test first (c ∷ chain) t.version.block) [
      | None ↦ λ none h. in_rest test first c chain t none (found_in test (suc first) chain t h)
      | Some u ↦ λ found h. in_first test first c chain t (found ∙ h)
    ] refl (sym (find-append test front rest) ∙ is)

-- the block with which an id stands first is that of the first transaction that has it
either : (b : Bool) (t : Placed) (n : Option ℕ) (o : Option Placed) → n ≡ option_map (λ (u : Placed). u.version.block) o →
    cond b (Some t.version.block) n ≡ option_map (λ (u : Placed). u.version.block) (cond b (Some t) o)
either true t n o h = refl
either false t n o h = h

block_found : (id : Bytes) (ts : List Placed) → block_of_id (placed_ids ts) id ≡ option_map (λ (t : Placed). t.version.block) (find (has_id id) ts)
block_found id [] = refl
block_found id (t ∷ ts) = either (has_id id t) t (block_of_id (placed_ids ts) id) (find (has_id id) ts) (block_found id ts)

-- where no block has the id, no transaction has it
pub no_block : (id : Bytes) (chain : Chain) → block_of_id (placed_ids (history chain)) id ≡ None → find (has_id id) (history chain) ≡ None
no_block id chain none =
    elim (find (has_id id) (history chain)) as (λ (o : Option Placed). option_map (λ (t : Placed). t.version.block) o ≡ None → o ≡ None) [
      | None ↦ λ h. refl
      | Some t ↦ λ h. absurd (cc h)
    ] (sym (block_found id (history chain)) ∙ none)

-- where a block has it, a transaction has it
pub some_found : (id : Bytes) (chain : Chain) (block : ℕ) → block_of_id (placed_ids (history chain)) id ≡ Some block →
    (t : Placed) × (find (has_id id) (history chain) ≡ Some t)
some_found id chain block is =
    elim (find (has_id id) (history chain)) as (λ (o : Option Placed).
    find (has_id id) (history chain) ≡ o → option_map (λ (t : Placed). t.version.block) o ≡ Some block →
    (t : Placed) × (find (has_id id) (history chain) ≡ Some t)) [
      | None ↦ λ found h. absurd (cc h)
      | Some t ↦ λ found h. (t, found)
    ] refl (sym (block_found id (history chain)) ∙ is)

pub first_block : (id : Bytes) (chain : Chain) (block : ℕ) → block_of_id (placed_ids (history chain)) id ≡ Some block → IsFoundIn (has_id id) 1 chain block
first_block id chain block is =
    elim (find (has_id id) (history chain)) as (λ (o : Option Placed).
    find (has_id id) (history chain) ≡ o → option_map (λ (t : Placed). t.version.block) o ≡ Some block → IsFoundIn (has_id id) 1 chain block) [
      | None ↦ λ found h. absurd (cc h)
      | Some t ↦ λ found h. let same : t.version.block ≡ block = cc h in subst (IsFoundIn (has_id id) 1 chain) same (found_in (has_id id) 1 chain t found)
    ] refl (sym (block_found id (history chain)) ∙ is)

-- ---- where another block is read in its place

pub found_over : (test : Placed → Bool) (chain : Chain) (n : ℕ) (c : Committed) (t : Placed) → IsFoundIn test 1 chain n →
    find test (transactions_from n 0 c.block.envelopes c.flags) ≡ Some t → find test (history (over (n - 1) (c ∷ []) chain)) ≡ Some t
found_over test chain n c t r found =
    let k = n - 1 in
    let front = take k chain in
    let rest = drop (k + 1) chain in
    let here = transactions_from n 0 c.block.envelopes c.flags in
    let size : length front ≡ k = length-take k chain ∙ min-eq_left (omega (arith, r.within)) in
    let long : length front + 1 ≡ n = omega (arith, size, r.from) in
    let parts = history-append front (c ∷ rest) ∙ ap (λ (m : ℕ). history front ++ placed_from m (c ∷ rest)) long in
    let later = here ++ placed_from (suc n) rest in
    ap (λ (ts : List Placed). find test ts) parts
    ∙ find-append test (history front) later ∙ ap (λ o. option_or o (find test later)) r.before
    ∙ find-append test here (placed_from (suc n) rest) ∙ ap (λ o. option_or o (find test (placed_from (suc n) rest))) found
