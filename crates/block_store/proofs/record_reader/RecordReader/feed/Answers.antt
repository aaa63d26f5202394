use Rattle.std.proofs.Common.{◌≡◌, ◌∙◌, ◌++◌, ◌<◌, List, [], ℕ, Bool, true, false, length, drop, refl, sym, ap, subst, arith}
use Rattle.fab_types.specs.Committed.{Committed}
use Rattle.block_store.specs.Store.{Awaits}
use Rattle.block_store.specs.Progress.{Progress, Feeds, Reads}
use Rattle.block_store.proofs.Reading.{now_reading, still_reading}
use Rattle.block_store.proofs.record_reader.RecordReader.feed.Goals as goal

pub invariant_of-self-in-Ok : goal.invariant_of-self-in-Ok
invariant_of-self-in-Ok c =
    let read = c.in-Ok.read in
    let bytes = c.deref.result.now in
    let q : Progress = record { next = read.next; held = drop read.taken bytes; is_damaged = read.is_damaged } in
    now_reading c.self.inside.next bytes c.forget.new.held.items read.records.items q read.needed
    (c.forget.ensures ∙ ap (λ (t : List ℕ). drop read.taken t) (sym c.deref.ensures.value)) c.in-Ok.ensures.read c.in-Ok.ensures.next c.in-Ok.ensures.awaits

pub returns-in-Ok-clause-held : goal.returns-in-Ok-clause-held
returns-in-Ok-clause-held c =
    let read = c.in-Ok.read in
    let bytes = c.deref.result.now in
    let q : Progress = record { next = read.next; held = drop read.taken bytes; is_damaged = read.is_damaged } in
    let h = now_reading c.self.inside.next bytes c.forget.new.held.items read.records.items q read.needed
    (c.forget.ensures ∙ ap (λ (t : List ℕ). drop read.taken t) (sym c.deref.ensures.value)) c.in-Ok.ensures.read c.in-Ok.ensures.next c.in-Ok.ensures.awaits
    in
    h.small

pub invariant_of-self-then-len-self : goal.invariant_of-self-then-len-self
invariant_of-self-then-len-self c =
    still_reading c.self.inside.next c.self.inside.needed c.self.inside.held.items c.args.piece.now c.extend_from_slice.new.self.items c.self.invariant
    c.in_ok-extend_from_slice.ensures.items (omega (arith, c.if-len-self.true))

pub returns-then-len-self-clause-held : goal.returns-then-len-self-clause-held
returns-then-len-self-clause-held c =
    let h = still_reading c.self.inside.next c.self.inside.needed c.self.inside.held.items c.args.piece.now c.extend_from_slice.new.self.items c.self.invariant
    c.in_ok-extend_from_slice.ensures.items (omega (arith, c.if-len-self.true)) in
    h.small

-- the reading goes on to q
goes_on : (d : Bool) (n : ℕ) (held piece bytes : List ℕ) (cs : List Committed) (q : Progress) → d ≡ false → bytes ≡ held ++ piece → Reads n bytes cs q →
    Feeds (record { next = n; held = held; is_damaged = d }) piece cs q
goes_on true n held piece bytes cs q sound e h = absurd cc
goes_on false n held piece bytes cs q sound e h = subst (λ (t : List ℕ). Reads n t cs q) e h

-- or waits for more
waits : (d : Bool) (n needed : ℕ) (held piece now : List ℕ) (cs : List Committed) → d ≡ false → cs ≡ [] → now ≡ held ++ piece → length now < needed →
    Awaits n held needed → Feeds (record { next = n; held = held; is_damaged = d }) piece cs (record { next = n; held = now; is_damaged = d })
waits true n needed held piece now cs sound none e short awaits = absurd cc
waits false n needed held piece now cs sound none e short awaits =
    subst (λ (rs : List Committed). Reads n (held ++ piece) rs (record { next = n; held = now; is_damaged = false })) (sym none)
    (refl, (awaits piece (subst (λ (t : List ℕ). length t < needed) e short), e))

pub returns-in-Ok-clause-fed : goal.returns-in-Ok-clause-fed
returns-in-Ok-clause-fed c =
    let inside = c.self.inside in
    let read = c.in-Ok.read in
    let q : Progress = record { next = read.next; held = c.forget.new.held.items; is_damaged = read.is_damaged } in
    let held : drop read.taken c.deref.result.now ≡ c.forget.new.held.items =
    ap (λ (t : List ℕ). drop read.taken t) c.deref.ensures.value ∙ sym c.forget.ensures in
    subst (λ (p : Progress). Feeds p c.args.piece.now read.records.items q) c.self.view_is
    (goes_on inside.is_damaged inside.next inside.held.items c.args.piece.now c.deref.result.now read.records.items q c.if-self.false
    (c.deref.ensures.value ∙ c.in_ok-extend_from_slice.ensures.items)
    (subst (λ (h : List ℕ). Reads inside.next c.deref.result.now read.records.items (record { next = read.next; held = h; is_damaged = read.is_damaged })) held
    c.in-Ok.ensures.read))

pub returns-then-len-self-clause-fed : goal.returns-then-len-self-clause-fed
returns-then-len-self-clause-fed c =
    let inside = c.self.inside in
    let now = c.extend_from_slice.new.self.items in
    let q : Progress = record { next = inside.next; held = now; is_damaged = inside.is_damaged } in
    subst (λ (p : Progress). Feeds p c.args.piece.now c.new-then-len-self.result.items q) c.self.view_is
    (waits inside.is_damaged inside.next inside.needed inside.held.items c.args.piece.now now c.new-then-len-self.result.items c.if-self.false
    c.new-then-len-self.ensures.items c.in_ok-extend_from_slice.ensures.items (omega (arith, c.if-len-self.true)) c.self.invariant.awaits)
