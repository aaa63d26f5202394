-- What `state` is asked for, of one block more.
use Rattle.std.proofs.Common.{◌≡◌, ◌<◌, ◌≤◌, ℕ, ◌+◌, List, [], ◌∷◌, ◌++◌, ◌⊎◌, inl, inr, Some, length, take, sym, ap, ◌∙◌, subst, arith, length-append}
use Rattle.std.specs.FinMap.{get}
use Rattle.std.specs.List.Sorted.{IsStrictlySortedBy}
use Rattle.std.specs.Map.{keys_of}
use Rattle.std.proofs.lemmas.List.{take-append-le, take_all}
use Rattle.fab_types.specs.Committed.{Committed}
use Rattle.fab_types.specs.Memberships.{membership_key}
use Rattle.ledger_model.specs.Chain.{Bytes, Chain, Version, history, transactions_from}
use Rattle.ledger_model.specs.State.{state}
use Rattle.ledger_model.specs.Views.{Versioned, key_cmp, values_of}
use Rattle.world_state.specs.Writing.{as_state, put_block}
use Rattle.world_state.proofs.Blocks.{state_more}
use Rattle.world_state.proofs.Entries.{entries_of, state_none}
use Rattle.endorsement_policy.specs.Endorsed.{Listed}
use Rattle.endorsement_policy.specs.Membership.{usable_membership}
use Rattle.json_chain.specs.Memberships.{standing_json}
use Rattle.cli_show.specs.Answers.{IsSought, members_json, state_json}
use Rattle.cli_show.specs.Lines.{AreLines, HasLines, entries_json, writes_json}
use Rattle.cli_show.specs.declared.showing.Part.{Part}
use Rattle.cli_show.specs.declared.showing.Part.TheVariants as part
use Rattle.cli_show.proofs.WriteLines.{writes_block}

-- before the first block
pub sought_none : (p : Part) (at : ℕ) (es : List (Bytes × (Bytes × Version))) (text : Bytes) → es ≡ [] → text ≡ [] → IsSought p at es text []
sought_none part.Entries at es text none empty =
    ap (λ (xs : List (Bytes × (Bytes × Version))). as_state xs) none ∙ state_none ∙ ap (λ (cs : Chain). state (history cs)) (sym (take_all at [] (omega arith)))
sought_none (part.Writes key) at es text none empty =
    subst (λ (cs : Chain). AreLines (writes_json key.now (history cs)) text) (sym (take_all at [] (omega arith))) ([], tt, empty)
sought_none part.Members at es text none empty =
    ap (λ (xs : List (Bytes × (Bytes × Version))). as_state xs) none ∙ state_none ∙ ap (λ (cs : Chain). state (history cs)) (sym (take_all at [] (omega arith)))

-- a block behind those that are asked for changes nothing
pub sought_past : (p : Part) (at n : ℕ) (es : List (Bytes × (Bytes × Version))) (text : Bytes) (chain : Chain) (c : Committed) → n ≡ length chain + 1 →
    at < n → IsSought p at es text chain → IsSought p at es text (chain ++ c ∷ [])
sought_past part.Entries at n es text chain c is past was =
    was ∙ ap (λ (cs : Chain). state (history cs)) (sym (take-append-le at chain (c ∷ []) (omega (arith, is, past))))
sought_past (part.Writes key) at n es text chain c is past was =
    subst (λ (cs : Chain). AreLines (writes_json key.now (history cs)) text) (sym (take-append-le at chain (c ∷ []) (omega (arith, is, past)))) was
sought_past part.Members at n es text chain c is past was =
    was ∙ ap (λ (cs : Chain). state (history cs)) (sym (take-append-le at chain (c ∷ []) (omega (arith, is, past))))

-- all blocks are asked for
all_longer : (at n : ℕ) (chain : Chain) (c : Committed) → n ≡ length chain + 1 → n ≤ at → take at (chain ++ c ∷ []) ≡ chain ++ c ∷ []
all_longer at n chain c is early = take_all at (chain ++ c ∷ []) (omega (arith, is, early, length-append chain (c ∷ [])))

-- the state after one that is asked for
sought_state : (at n : ℕ) (es now : List (Bytes × (Bytes × Version))) (chain : Chain) (c : Committed) → n ≡ length chain + 1 → n ≤ at →
    as_state es ≡ state (history (take at chain)) → as_state now ≡ put_block (as_state es) n 0 c.block.envelopes c.flags →
    as_state now ≡ state (history (take at (chain ++ c ∷ [])))
sought_state at n es now chain c is early was put =
    put ∙ ap (λ (m : Versioned). put_block m n 0 c.block.envelopes c.flags)
    (was ∙ ap (λ (cs : Chain). state (history cs)) (take_all at chain (omega (arith, is, early)))) ∙ state_more chain c n is
    ∙ ap (λ (cs : Chain). state (history cs)) (sym (all_longer at n chain c is early))

-- of a part that is read off the state the state is known
state_sought : (p : Part) (at : ℕ) (es : List (Bytes × (Bytes × Version))) (text : Bytes) (chain : Chain) → (p ≡ part.Entries) ⊎ (p ≡ part.Members) →
    IsSought p at es text chain → as_state es ≡ state (history (take at chain))
state_sought p at es text chain is was = elim is [
  | inl e ↦ subst (λ (q : Part). IsSought q at es text chain) e was
  | inr e ↦ subst (λ (q : Part). IsSought q at es text chain) e was
]

-- and that is all
sought_from : (p : Part) (at : ℕ) (es : List (Bytes × (Bytes × Version))) (text : Bytes) (chain : Chain) → (p ≡ part.Entries) ⊎ (p ≡ part.Members) →
    as_state es ≡ state (history (take at chain)) → IsSought p at es text chain
sought_from p at es text chain is now = elim is [
  | inl e ↦ subst (λ (q : Part). IsSought q at es text chain) (sym e) now
  | inr e ↦ subst (λ (q : Part). IsSought q at es text chain) (sym e) now
]

-- such a part, after a block that is asked for
pub sought_next : (p : Part) (at n : ℕ) (es now : List (Bytes × (Bytes × Version))) (text : Bytes) (chain : Chain) (c : Committed) →
    (p ≡ part.Entries) ⊎ (p ≡ part.Members) → n ≡ length chain + 1 → n ≤ at → IsSought p at es text chain →
    as_state now ≡ put_block (as_state es) n 0 c.block.envelopes c.flags → IsSought p at now text (chain ++ c ∷ [])
sought_next p at n es now text chain c which is early was put =
    sought_from p at now text (chain ++ c ∷ []) which (sought_state at n es now chain c is early (state_sought p at es text chain which was) put)

-- the writes in one that is asked for
pub sought_writes : (at n : ℕ) (key text now : Bytes) (chain : Chain) (c : Committed) → n ≡ length chain + 1 → n ≤ at →
    AreLines (writes_json key (history (take at chain))) text →
    HasLines (writes_json key (transactions_from n 0 c.block.envelopes c.flags)) (Some text) (Some now) →
    AreLines (writes_json key (history (take at (chain ++ c ∷ [])))) now
sought_writes at n key text now chain c is early was put =
    writes_block key (take at chain) (take at (chain ++ c ∷ [])) c n (Some []) (Some text) (Some now)
    (all_longer at n chain c is early ∙ ap (λ (cs : Chain). cs ++ c ∷ []) (sym (take_all at chain (omega (arith, is, early)))))
    (is ∙ ap (λ (cs : Chain). length cs + 1) (sym (take_all at chain (omega (arith, is, early))))) was put

-- the entries of a state that was sought
pub state_shown : (at : ℕ) (es : List (Bytes × (Bytes × Version))) (chain : Chain) → as_state es ≡ state (history (take at chain)) →
    IsStrictlySortedBy key_cmp (keys_of es) → entries_json es ≡ state_json at chain
state_shown at es chain was sorted =
    ap (λ (xs : List (Bytes × (Bytes × Version))). entries_json xs) (entries_of es (state (history (take at chain))) was sorted)

-- who stands in it
pub members_shown : (r : Listed) (at : ℕ) (es : List (Bytes × (Bytes × Version))) (chain : Chain) → as_state es ≡ state (history (take at chain)) →
    standing_json r (usable_membership r.installed.orgs (get (values_of (as_state es)) membership_key)) ≡ members_json r at chain
members_shown r at es chain was =
    ap (λ (m : Versioned). standing_json r (usable_membership r.installed.orgs (get (values_of m) membership_key))) was
