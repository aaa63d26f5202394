-- The transactions of a chain, place by place.
use Rattle.std.proofs.Common.{◌≡◌, ℕ, zero, suc, ◌+◌, ◌<◌, ◌≤◌, Bool, true, false, List, [], ◌∷◌, ◌++◌, length, get_or, drop, Some, refl, sym, ap, ◌∙◌, arith}
use Rattle.std.proofs.lemmas.List.{append-nil, append_assoc}
use Rattle.std.proofs.lemmas.List.Concat.{flat_map-append}
use Rattle.std.specs.List.{find}
use Rattle.fab_types.specs.Committed.{Committed}
use Rattle.serde_json.specs.Data.{Data}
use Rattle.ledger_model.specs.Chain.{Bytes, Chain, Envelope, Flag, Placed, placed_from, transactions_from}
use Rattle.json_chain.specs.Writes.{placed_at, write_json, writes_json}

-- those from a place on: the one there, and those behind it
pub transactions_step : (block place n i : ℕ) (es : List Envelope) (fs : List Flag) (e : Envelope) (d : Flag) → n ≡ place + i → i < length es →
    length es ≤ length fs → e ≡ get_or es i e →
    transactions_from block n (drop i es) (drop i fs)
    ≡ placed_at e (get_or fs i d) block n ∷ transactions_from block (n + 1) (drop (i + 1) es) (drop (i + 1) fs)
transactions_step block place n i [] fs e d at within each is = absurd (omega arith)
transactions_step block place n i (x ∷ es) [] e d at within each is = absurd (omega arith)
transactions_step block place n zero (x ∷ es) (y ∷ fs) e d at within each is =
    let next : suc n ≡ n + 1 = omega arith in
    ap (λ (a : Envelope). placed_at a y block n ∷ transactions_from block (suc n) es fs) (sym is)
    ∙ ap (λ (m : ℕ). placed_at e y block n ∷ transactions_from block m es fs) next
transactions_step block place n (suc i) (x ∷ es) (y ∷ fs) e d at within each is =
    let next : suc i + 1 ≡ suc (i + 1) = omega arith in
    rw next (transactions_step block (suc place) n i es fs e d (omega arith) (omega arith) (omega arith) is)

-- blocks and one more behind them
pub blocks_more : (n : ℕ) (cs : Chain) (c : Committed) →
    placed_from n (cs ++ c ∷ []) ≡ placed_from n cs ++ transactions_from (n + length cs) 0 c.block.envelopes c.flags
blocks_more n [] c =
    let same : n ≡ n + 0 = omega arith in
    append-nil (transactions_from n 0 c.block.envelopes c.flags) ∙ ap (λ (m : ℕ). transactions_from m 0 c.block.envelopes c.flags) same
blocks_more n (d ∷ cs) c =
    let next : suc n + length cs ≡ n + suc (length cs) = omega arith in
    let here = transactions_from n 0 d.block.envelopes d.flags in
    ap (λ (ts : List Placed). here ++ ts) (blocks_more (suc n) cs c)
    ∙ sym (append_assoc here (placed_from (suc n) cs) (transactions_from (suc n + length cs) 0 c.block.envelopes c.flags))
    ∙ ap (λ (m : ℕ). (here ++ placed_from (suc n) cs) ++ transactions_from m 0 c.block.envelopes c.flags) next

-- what was written up to a place, and what the one there wrote
pub writes_more : (key : Bytes) (before done : List Data) (t : Placed) (ts us : List Placed) (all : List Data) → us ≡ t ∷ ts →
    before ++ writes_json key us ≡ all → done ≡ before ++ write_json key t → done ++ writes_json key ts ≡ all
writes_more key before done t ts us all here inv now =
    ap (λ (ds : List Data). ds ++ writes_json key ts) now ∙ append_assoc before (write_json key t) (writes_json key ts)
    ∙ ap (λ (vs : List Placed). before ++ writes_json key vs) (sym here) ∙ inv

-- what was written in blocks, and in one more behind them
pub writes_behind : (key : Bytes) (n : ℕ) (cs : Chain) (c : Committed) (before now : List Data) → before ≡ writes_json key (placed_from n cs) →
    now ≡ before ++ writes_json key (transactions_from (n + length cs) 0 c.block.envelopes c.flags) → now ≡ writes_json key (placed_from n (cs ++ c ∷ []))
writes_behind key n cs c before now inv more =
    let ts = transactions_from (n + length cs) 0 c.block.envelopes c.flags in
    more ∙ ap (λ (ds : List Data). ds ++ writes_json key ts) inv ∙ sym (flat_map-append (write_json key) (placed_from n cs) ts)
    ∙ ap (λ (us : List Placed). writes_json key us) (sym (blocks_more n cs c))

-- ---- the first that passes a test

pub found_here : {A : Type 0} (test : A → Bool) (x : A) (xs : List A) → test x ≡ true → find test (x ∷ xs) ≡ Some x
found_here test x xs is = rw is refl

pub found_later : {A : Type 0} (test : A → Bool) (x : A) (xs : List A) → test x ≡ false → find test (x ∷ xs) ≡ find test xs
found_later test x xs is = rw is refl
