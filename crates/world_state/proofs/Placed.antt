-- The ids of transactions, each with the block where it stands first.
use Rattle.std.proofs.Common.{◌≡◌, ℕ, suc, ◌+◌, ◌||◌, Bool, true, false, cond, List, [], ◌∷◌, ◌++◌, Option, Some, None, is_some, bytes_eq}
use Rattle.std.proofs.Common.{length, refl, sym, ap, ◌∙◌, true≢false, arith}
use Rattle.std.proofs.lemmas.List.{map-append}
use Rattle.std.proofs.lemmas.Map.Text.{is_eq-slice_cmp}
use Rattle.std.proofs.lemmas.Slice.Eq.{bytes_eq-Decides}
use Rattle.std.specs.Option.{option_or}
use Rattle.std.specs.Ordering.{nat_cmp}
use Rattle.std.specs.Cmp.{eq_by_cmp_equiv}
use Rattle.std.specs.Cmp.Lexicographic.{slice_cmp, nat_list_cmp_total}
use Rattle.persist_map.specs.Entries.{get, put}
use Rattle.persist_map.proofs.Lookups.{get-put}
use Rattle.wire.specs.Ids.{id_of}
use Rattle.ledger_model.specs.Chain.{Bytes, Envelope, Flag, Committed, Chain, Placed, transactions_from, history}
use Rattle.ledger_model.specs.Flags.{stands_in}
use Rattle.ledger_model.proofs.Keys.{keys_total}
use Rattle.ledger_model.proofs.Histories.{history-push}
use Rattle.world_state.specs.Ids.{has_id, ids_of, placed_ids, block_of_id, block_behind, AreIdsOf}

-- what is found by comparing is what is found by being the same
pub found_alike : (es : List (Bytes × ℕ)) (q : Bytes) → get (slice_cmp nat_cmp) es q ≡ block_of_id es q
found_alike [] q = refl
found_alike (e ∷ es) q = λ i. cond (((eq_by_cmp_equiv nat_list_cmp_total).symm q e.0 ∙ is_eq-slice_cmp e.0 q) i) (Some e.1) (found_alike es q i)

-- ---- one id more

same_found : (es : List (Bytes × ℕ)) (id q : Bytes) (b : Bool) → is_some (block_of_id es id) ≡ b → bytes_eq id q ≡ true → is_some (block_of_id es q) ≡ b
same_found es id q b h same = ap (λ k. is_some (block_of_id es k)) (sym ((bytes_eq-Decides id q).0 same)) ∙ h

or_new : (b : Bool) (o : Option ℕ) (block : ℕ) → (b ≡ true → is_some o ≡ false) → cond b (Some block) o ≡ option_or o (cond (b || false) (Some block) None)
or_new true None block h = refl
or_new true (Some n) block h = absurd (true≢false (h refl))
or_new false None block h = refl
or_new false (Some n) block h = refl

or_old : (b : Bool) (o : Option ℕ) (block : ℕ) → (b ≡ true → is_some o ≡ true) → o ≡ option_or o (cond (b || false) (Some block) None)
or_old true None block h = absurd (true≢false (sym (h refl)))
or_old true (Some n) block h = refl
or_old false None block h = refl
or_old false (Some n) block h = refl

-- an id that was not there
pub id_added : (old new : List (Bytes × ℕ)) (block : ℕ) (id q : Bytes) → is_some (block_of_id old id) ≡ false → new ≡ put (slice_cmp nat_cmp) old id block →
    block_of_id new q ≡ block_behind old block (id ∷ []) q
id_added old new block id q h n =
    sym (found_alike new q)
    ∙ ap (λ es. get (slice_cmp nat_cmp) es q) n ∙ get-put (slice_cmp nat_cmp) keys_total id old block q
    ∙ (λ i. cond (is_eq-slice_cmp id q i) (Some block) (found_alike old q i))
    ∙ or_new (bytes_eq id q) (block_of_id old q) block (same_found old id q false h)

-- an id that was there
pub id_kept : (es : List (Bytes × ℕ)) (block : ℕ) (id q : Bytes) → is_some (block_of_id es id) ≡ true → block_of_id es q ≡ block_behind es block (id ∷ []) q
id_kept es block id q h = or_old (bytes_eq id q) (block_of_id es q) block (same_found es id q true h)

-- ---- one block more

or_cond : (t : Bool) (v : ℕ) (o r : Option ℕ) → option_or (cond t (Some v) o) r ≡ cond t (Some v) (option_or o r)
or_cond true v o r = refl
or_cond false v o r = refl

block_of_append : (xs ys : List (Bytes × ℕ)) (q : Bytes) → block_of_id (xs ++ ys) q ≡ option_or (block_of_id xs q) (block_of_id ys q)
block_of_append [] ys q = refl
block_of_append (x ∷ xs) ys q =
    ap (cond (bytes_eq x.0 q) (Some x.1)) (block_of_append xs ys q) ∙ sym (or_cond (bytes_eq x.0 q) x.1 (block_of_id xs q) (block_of_id ys q))

one_of : (a b : Bool) (v : ℕ) → cond a (Some v) (cond b (Some v) None) ≡ cond (a || b) (Some v) None
one_of true b v = refl
one_of false b v = refl

-- the ids of a block's transactions have its number
placed_block : (block place : ℕ) (es : List Envelope) (fs : List Flag) (q : Bytes) → length fs ≡ length es →
    block_of_id (placed_ids (transactions_from block place es fs)) q ≡ cond (has_id (ids_of es) q) (Some block) None
placed_block block place [] fs q h = refl
placed_block block place (e ∷ es) [] q h = absurd (omega (arith, h))
placed_block block place (e ∷ es) (f ∷ fs) q h =
    ap (cond (bytes_eq (id_of e.payload.proposal) q) (Some block)) (placed_block block (suc place) es fs q (omega (arith, h)))
    ∙ one_of (bytes_eq (id_of e.payload.proposal) q) (has_id (ids_of es) q) block

pub ids_more : (chain : Chain) (c : Committed) (old new : List (Bytes × ℕ)) → c.block.header.number ≡ length chain + 1 →
    length c.flags ≡ length c.block.envelopes → AreIdsOf old (history chain) → ((q : Bytes) → block_of_id new q ≡ block_behind old c.block.header.number (ids_of c.block.envelopes) q) →
    AreIdsOf new (history (chain ++ c ∷ []))
ids_more chain c old new number each h k q =
    let next = transactions_from (length chain + 1) 0 c.block.envelopes c.flags in
    let own = λ (n : ℕ). cond (has_id (ids_of c.block.envelopes) q) (Some n) None in
    k q
    ∙ (λ i. option_or (h q i) (own (number i)))
    ∙ ap (option_or (block_of_id (placed_ids (history chain)) q)) (sym (placed_block (length chain + 1) 0 c.block.envelopes c.flags q each))
    ∙ sym (block_of_append (placed_ids (history chain)) (placed_ids next) q)
    ∙ ap (λ l. block_of_id l q) (sym (map-append (λ (t : Placed). (id_of t.envelope.payload.proposal, t.version.block)) (history chain) next))
    ∙ ap (λ ts. block_of_id (placed_ids ts) q) (sym (history-push chain c))

-- ---- an id has a block where it stands

some_by : {X : Type 0} (b c : Bool) (n : X) (o : Option X) → is_some o ≡ c → is_some (cond b (Some n) o) ≡ (b || c)
some_by true c n o h = refl
some_by false c n o h = h

pub stands_placed : (ts : List Placed) (sought : Bytes) → is_some (block_of_id (placed_ids ts) sought) ≡ stands_in id_of ts sought
stands_placed [] sought = refl
stands_placed (t ∷ ts) sought =
    some_by (bytes_eq (id_of t.envelope.payload.proposal) sought) (stands_in id_of ts sought) t.version.block (block_of_id (placed_ids ts) sought)
    (stands_placed ts sought)
