-- Records one after another.
use Rattle.std.proofs.Common.{◌≡◌, ℕ, suc, ◌+◌, ◌-◌, ◌*◌, ◌<◌, ◌≤◌, ◌⊎◌, inl, inr, Bool, true, false, List, [], ◌∷◌, ◌++◌, length, take, refl, sym, ap, subst}
use Rattle.std.proofs.Common.{◌∙◌, append_assoc, arith}
use Rattle.std.specs.List.{flat_map}
use Rattle.std.specs.Int.{w32, to_be_bytes}
use Rattle.std.proofs.lemmas.List.{append-nil, length-append}
use Rattle.fab_types.specs.Committed.{Committed}
use Rattle.fab_types.specs.BlockSpelling.{block_bytes}
use Rattle.wire.proofs.BlockLaws.{block_length}
use Rattle.block_store.specs.Record.{framed_bytes, record_bytes}
use Rattle.block_store.specs.Store.{AreRecords, Loads, Awaits, IsBeginning, IsDamaged, EndsInBlock, EndsBehindBlock}
use Rattle.block_store.specs.Progress.{Progress, IsReading, RestsBy, Reads, FeedsBy, Feeds, FeedsAll, end_by, end_of, at_start}
use Rattle.block_store.specs.Loading.{Gives, Holds, IsBehind, IsLoaded}
use Rattle.block_store.specs.declared.end.End.{End}
use Rattle.block_store.specs.declared.end.End.TheVariants.{Clean, DeviceFailed}

pub all_load : (n : ℕ) (cs : List Committed) → AreRecords n cs → Loads n (flat_map record_bytes cs) cs Clean
all_load n [] h = refl
all_load n (c ∷ cs) h = (flat_map record_bytes cs, h.0, refl, all_load (suc n) cs h.1)

-- ---- how much is held

in_block_small : (bytes : List ℕ) → EndsInBlock bytes → length bytes < 526954
in_block_small bytes h =
    let all = ap length h.bytes_are in
    let most = h.is_length.1 in
    let short = h.short in
    omega (arith, all, most, short, length-append (to_be_bytes w32 h.len) h.part)

behind_sum : (all text part count : ℕ) {front : ℕ} → all ≡ front + part → front ≡ 4 + text → text ≤ 526406 → count ≤ 512 → part < count + 32 → all < 526954
behind_sum all text part count a f t c s = omega (arith, a, f, t, c, s)

behind_small : (n : ℕ) (bytes : List ℕ) → EndsBehindBlock n bytes → length bytes < 526954
behind_small n bytes h =
    let all = ap length h.bytes_are in
    let known = h.is_block.block in
    let most = (block_length h.block known).1 in
    let count = known.envelopes.greatest in
    let short = h.short in
    behind_sum (length bytes) (length (block_bytes h.block)) (length h.part) (length h.block.envelopes) (all ∙ length-append (framed_bytes h.block) h.part)
    (length-append (to_be_bytes w32 (length (block_bytes h.block))) (block_bytes h.block)) most count short

pub beginning_small : (n : ℕ) (bytes : List ℕ) → IsBeginning n bytes → length bytes < 526954
beginning_small n bytes (inl h) = omega (arith, h)
beginning_small n bytes (inr (inl h)) = in_block_small bytes h
beginning_small n bytes (inr (inr h)) = behind_small n bytes h

-- what is awaited
pub in_length_awaits : (n : ℕ) (bytes : List ℕ) → Awaits n bytes 4
in_length_awaits n bytes more h = inl h

pub in_block_awaits : (n : ℕ) (bytes : List ℕ) (h : EndsInBlock bytes) → Awaits n bytes (4 + h.len)
in_block_awaits n bytes h more short =
    let all = ap length h.bytes_are in
    inr (inl (record {
      len = h.len;
      part = h.part ++ more;
      is_length = h.is_length;
      bytes_are = ap (λ (t : List ℕ). t ++ more) h.bytes_are ∙ append_assoc (to_be_bytes w32 h.len) h.part more;
      short = omega (arith, all, short, length-append bytes more, length-append (to_be_bytes w32 h.len) h.part, length-append h.part more);
    }))

pub behind_block_awaits : (n : ℕ) (bytes : List ℕ) (h : EndsBehindBlock n bytes) →
    Awaits n bytes (length (framed_bytes h.block) + (length h.block.envelopes + 32))
behind_block_awaits n bytes h more short =
    let all = ap length h.bytes_are in
    inr (inr (record {
      block = h.block;
      part = h.part ++ more;
      is_block = h.is_block;
      bytes_are = ap (λ (t : List ℕ). t ++ more) h.bytes_are ∙ append_assoc (framed_bytes h.block) h.part more;
      short = omega (arith, all, short, length-append bytes more, length-append (framed_bytes h.block) h.part, length-append h.part more);
    }))

-- with more bytes, still too few
pub awaits_on : (n : ℕ) (bytes piece : List ℕ) (needed : ℕ) → Awaits n bytes needed → Awaits n (bytes ++ piece) needed
awaits_on n bytes piece needed h more short =
    subst (IsBeginning n) (sym (append_assoc bytes piece more))
    (h (piece ++ more) (subst (λ (t : List ℕ). length t < needed) (append_assoc bytes piece more) short))

rests_small : (d : Bool) (n : ℕ) (bytes held : List ℕ) → RestsBy d n bytes held → length held < 526954
rests_small false n bytes held h = subst (λ (t : List ℕ). length t < 526954) (sym h.1) (beginning_small n bytes h.0)
rests_small true n bytes held h = subst (λ (t : List ℕ). length t < 526954) (sym h.1) (omega arith)

pub reads_small : (n : ℕ) (bytes : List ℕ) (cs : List Committed) (q : Progress) → Reads n bytes cs q → length q.held < 526954
reads_small n bytes [] q h = rests_small q.is_damaged n bytes q.held h.1
reads_small n bytes (c ∷ cs) q h = reads_small (suc n) h.0 cs q h.3

-- too few bytes have come for a record
pub still_reading : (next needed : ℕ) (held piece now : List ℕ) → IsReading next held needed → now ≡ held ++ piece → length now < needed →
    IsReading next now needed
still_reading next needed held piece now h e short =
    let few : length (held ++ piece) < needed = subst (λ (t : List ℕ). length t < needed) e short in
    subst (λ (t : List ℕ). IsReading next t needed) (sym e)
    (record { number = h.number; small = beginning_small next (held ++ piece) (h.awaits piece few); awaits = awaits_on next held piece needed h.awaits })

-- the records were taken out
pub now_reading : (n : ℕ) (bytes now : List ℕ) (cs : List Committed) (q : Progress) (needed : ℕ) → now ≡ q.held → Reads n bytes cs q →
    q.next ≤ 4000000001 → Awaits q.next q.held needed → IsReading q.next now needed
now_reading n bytes now cs q needed e h k awaits =
    subst (λ (t : List ℕ). IsReading q.next t needed) (sym e) (record { number = k; small = reads_small n bytes cs q h; awaits = awaits })

-- ---- from piece to piece

pub reads_next : (n : ℕ) (bytes : List ℕ) (cs : List Committed) (q : Progress) → Reads n bytes cs q → q.next ≡ n + length cs
reads_next n bytes [] q h = let e = h.0 in omega (arith, e)
reads_next n bytes (c ∷ cs) q h = let e = reads_next (suc n) h.0 cs q h.3 in omega (arith, e)

pub reads_on : (n : ℕ) (bytes : List ℕ) (cs : List Committed) (p : Progress) (piece : List ℕ) (ds : List Committed) (q : Progress) → p.is_damaged ≡ false →
    Reads n bytes cs p → Reads p.next (p.held ++ piece) ds q → Reads n (bytes ++ piece) (cs ++ ds) q
reads_on n bytes [] p piece ds q sound h k =
    let rests : RestsBy false n bytes p.held = subst (λ d. RestsBy d n bytes p.held) sound h.1 in
    let same : Reads p.next (bytes ++ piece) ds q = subst (λ (t : List ℕ). Reads p.next (t ++ piece) ds q) rests.1 k in
    subst (λ (m : ℕ). Reads m (bytes ++ piece) ds q) h.0 same
reads_on n bytes (c ∷ cs) p piece ds q sound h k =
    (h.0 ++ piece, h.1, ap (λ (t : List ℕ). t ++ piece) h.2 ∙ append_assoc (record_bytes c) h.0 piece, reads_on (suc n) h.0 cs p piece ds q sound h.3 k)

fed_reads : (p : Progress) (piece : List ℕ) (ds : List Committed) (q : Progress) → p.is_damaged ≡ false → Feeds p piece ds q →
    Reads p.next (p.held ++ piece) ds q
fed_reads p piece ds q sound h = subst (λ d. FeedsBy d p piece ds q) sound h

-- ---- what is left to read

left_same : (p-next q-next p-held q-held more : ℕ) → p-next ≤ 4000000001 → p-held < 526954 → q-next ≡ p-next → q-held ≡ p-held + more → 0 < more →
    q-held < 526954 → (4000000002 - q-next) * 526954 - q-held < (4000000002 - p-next) * 526954 - p-held
left_same a b h k m u v e f s w = omega (arith, u, v, e, f, s, w)

left_fewer : (p-next q-next p-held q-held : ℕ) → q-next ≤ 4000000001 → p-held < 526954 → p-next < q-next →
    (4000000002 - q-next) * 526954 - q-held < (4000000002 - p-next) * 526954 - p-held
left_fewer a b h k u v s = omega (arith, u, v, s)

pub left_falls : (p : Progress) (piece : List ℕ) (ds : List Committed) (q : Progress) → p.is_damaged ≡ false → q.is_damaged ≡ false → Feeds p piece ds q →
    p.next ≤ 4000000001 → length p.held < 526954 → q.next ≤ 4000000001 → length q.held < 526954 → 0 < length piece
    → (4000000002 - q.next) * 526954 - length q.held < (4000000002 - p.next) * 526954 - length p.held
left_falls p piece [] q sound still fed pn ph qn qh some =
    let h = fed_reads p piece [] q sound fed in
    let rests : RestsBy false p.next (p.held ++ piece) q.held = subst (λ d. RestsBy d p.next (p.held ++ piece) q.held) still h.1 in
    left_same p.next q.next (length p.held) (length q.held) (length piece) pn ph h.0 (ap length rests.1 ∙ length-append p.held piece) some qh
left_falls p piece (d ∷ ds) q sound still fed pn ph qn qh some =
    let e = reads_next p.next (p.held ++ piece) (d ∷ ds) q (fed_reads p piece (d ∷ ds) q sound fed) in
    left_fewer p.next q.next (length p.held) (length q.held) qn ph (omega (arith, e))

-- ---- the end

loads_of : (d : Bool) (next : ℕ) (held : List ℕ) (n : ℕ) (bytes : List ℕ) (cs : List Committed) →
    Reads n bytes cs (record { next = next; held = held; is_damaged = d }) → Loads n bytes cs (end_by d next held)
loads_of d next held n bytes (c ∷ cs) h = (h.0, h.1, h.2, loads_of d next held (suc n) h.0 cs h.3)
loads_of true next held n bytes [] h = (h.0, h.1.0)
loads_of false next [] n bytes [] h = sym h.1.1
loads_of false next (b ∷ held) n bytes [] h = (λ e. let none : b ∷ held ≡ [] = h.1.1 ∙ e in absurd (cc none), h.1.0)

gives_by : (d : Bool) (next : ℕ) (held : List ℕ) (bytes : List ℕ) (cs : List Committed) → Loads 1 bytes cs (end_by d next held) →
    Gives bytes cs (end_by d next held)
gives_by true next held bytes cs h = h
gives_by false next [] bytes cs h = h
gives_by false next (b ∷ held) bytes cs h = h

failed_by : (next : ℕ) (held : List ℕ) (bytes : List ℕ) (cs : List Committed) → Loads 1 bytes cs (end_by false next held) → Gives bytes cs DeviceFailed
failed_by next [] bytes cs h = inl h
failed_by next (b ∷ held) bytes cs h = inr h

-- ---- as a load goes on

pub record HasRead (before now : List ℕ) (cs : List Committed) (p : Progress) : Type 0 where
  pub bytes : List ℕ
  pub read : now ≡ before ++ bytes
  pub reads : Reads 1 bytes cs p

pub nothing_read : (before : List ℕ) (cs : List Committed) (p : Progress) → cs ≡ [] → p ≡ at_start → HasRead before before cs p
nothing_read before cs p none start =
    let begun : Reads 1 [] [] at_start = (refl, (inl (omega arith), refl)) in
    record {
      bytes = [];
      read = sym (append-nil before);
      reads = subst (λ (ds : List Committed). Reads 1 [] ds p) (sym none) (subst (λ (q : Progress). Reads 1 [] [] q) (sym start) begun);
    }

pub more_read : (before now later piece : List ℕ) (cs ds all : List Committed) (p q : Progress) → HasRead before now cs p → p.is_damaged ≡ false →
    later ≡ now ++ piece → Feeds p piece ds q → all ≡ cs ++ ds → HasRead before later all q
more_read before now later piece cs ds all p q h sound more fed joined =
    record {
      bytes = h.bytes ++ piece;
      read = more ∙ ap (λ (t : List ℕ). t ++ piece) h.read ∙ append_assoc before h.bytes piece;
      reads = subst (λ (es : List Committed). Reads 1 (h.bytes ++ piece) es q) (sym joined)
          (reads_on 1 h.bytes cs p piece ds q sound h.reads (fed_reads p piece ds q sound fed));
    }

pub no_more_read : (before now later buffer : List ℕ) (cs : List Committed) (p : Progress) → HasRead before now cs p → (count : ℕ) → count ≡ 0 →
    later ≡ now ++ take count buffer → HasRead before later cs p
no_more_read before now later buffer cs p h count none e =
    record { bytes = h.bytes; read = e ∙ ap (λ (k : ℕ). now ++ take k buffer) none ∙ append-nil now ∙ h.read; reads = h.reads }

pub all_read : (before now : List ℕ) (cs : List Committed) (p : Progress) (end : End) → HasRead before now cs p → end ≡ end_of p → IsLoaded before now cs end
all_read before now cs p end h e =
    record {
      bytes = h.bytes;
      read = h.read;
      gives = subst (λ (x : End). Gives h.bytes cs x) (sym e)
          (gives_by p.is_damaged p.next p.held h.bytes cs (loads_of p.is_damaged p.next p.held 1 h.bytes cs h.reads));
    }

pub device_failed : (before now later : List ℕ) (cs : List Committed) (p : Progress) → HasRead before now cs p → p.is_damaged ≡ false → later ≡ now →
    IsLoaded before later cs DeviceFailed
device_failed before now later cs p h sound same =
    record {
      bytes = h.bytes;
      read = same ∙ h.read;
      gives = failed_by p.next p.held h.bytes cs
          (subst (λ d. Loads 1 h.bytes cs (end_by d p.next p.held)) sound (loads_of p.is_damaged p.next p.held 1 h.bytes cs h.reads));
    }

-- the whole records and what is held behind them are all the bytes
reads_all : (d : Bool) (next : ℕ) (held : List ℕ) (n : ℕ) (bytes : List ℕ) (cs : List Committed) → d ≡ false →
    Reads n bytes cs (record { next = next; held = held; is_damaged = d }) → bytes ≡ flat_map record_bytes cs ++ held
reads_all d next held n bytes [] sound h =
    let rests : RestsBy false n bytes held = subst (λ x. RestsBy x n bytes held) sound h.1 in
    sym rests.1
reads_all d next held n bytes (c ∷ cs) sound h =
    h.2 ∙ ap (λ (t : List ℕ). record_bytes c ++ t) (reads_all d next held (suc n) h.0 cs sound h.3)
    ∙ sym (append_assoc (record_bytes c) (flat_map record_bytes cs) held)

pub stands_behind : (before now : List ℕ) (cs : List Committed) (p : Progress) → HasRead before now cs p → p.is_damaged ≡ false →
    IsBehind before now cs (length p.held)
stands_behind before now cs p h sound =
    let all = reads_all p.is_damaged p.next p.held 1 h.bytes cs sound h.reads in
    (p.held, h.read ∙ ap (λ (t : List ℕ). before ++ t) all ∙ sym (append_assoc before (flat_map record_bytes cs) p.held), refl)

holds_by : (d : Bool) (next : ℕ) (held : List ℕ) (before now : List ℕ) (cs : List Committed) → IsBehind before now cs (length held) →
    d ≡ false → Holds (end_by d next held) before now cs (length held)
holds_by false next [] before now cs h sound = (refl, h)
holds_by false next (b ∷ held) before now cs h sound = h
holds_by true next held before now cs h sound = absurd (cc sound)

-- an end is held as it stands
pub holds_at_end : (before now : List ℕ) (cs : List Committed) (p : Progress) (end : End) (held : ℕ) → HasRead before now cs p → p.is_damaged ≡ false →
    end ≡ end_of p → held ≡ length p.held → Holds end before now cs held
holds_at_end before now cs p end held h sound e k =
    subst (λ (n : ℕ). Holds end before now cs n) (sym k)
    (subst (λ (x : End). Holds x before now cs (length p.held)) (sym e)
    (holds_by p.is_damaged p.next p.held before now cs (stands_behind before now cs p h sound) sound))

pub failed_holds : (before now later : List ℕ) (cs : List Committed) (p : Progress) (held : ℕ) → HasRead before now cs p → p.is_damaged ≡ false →
    later ≡ now → held ≡ length p.held → Holds DeviceFailed before later cs held
failed_holds before now later cs p held h sound same k =
    subst (λ (n : ℕ). IsBehind before later cs n) (sym k)
    (subst (λ (t : List ℕ). IsBehind before t cs (length p.held)) (sym same) (stands_behind before now cs p h sound))

-- behind damage nothing is held
nothing_held : (d : Bool) (next : ℕ) (held : List ℕ) (n : ℕ) (bytes : List ℕ) (cs : List Committed) → d ≡ true →
    Reads n bytes cs (record { next = next; held = held; is_damaged = d }) → length held ≡ 0
nothing_held d next held n bytes [] bad h =
    let rests : RestsBy true n bytes held = subst (λ x. RestsBy x n bytes held) bad h.1 in
    ap length rests.1
nothing_held d next held n bytes (c ∷ cs) bad h = nothing_held d next held (suc n) h.0 cs bad h.3

damaged_by : (d : Bool) (next : ℕ) (held : List ℕ) (before now : List ℕ) (cs : List Committed) (n : ℕ) → d ≡ true → n ≡ 0 →
    Holds (end_by d next held) before now cs n
damaged_by true next held before now cs n bad none = none
damaged_by false next held before now cs n bad none = absurd (cc bad)

pub damage_holds_nothing : (before now : List ℕ) (cs : List Committed) (p : Progress) (end : End) (held : ℕ) → HasRead before now cs p →
    p.is_damaged ≡ true → end ≡ end_of p → held ≡ length p.held → Holds end before now cs held
damage_holds_nothing before now cs p end held h bad e k =
    subst (λ (x : End). Holds x before now cs held) (sym e)
    (damaged_by p.is_damaged p.next p.held before now cs held bad (k ∙ nothing_held p.is_damaged p.next p.held 1 h.bytes cs bad h.reads))

-- ---- any pieces

-- what is damaged stays so, whatever follows
pub damaged_longer : (n : ℕ) (bytes more : List ℕ) → IsDamaged n bytes → IsDamaged n (bytes ++ more)
damaged_longer n bytes more (inl h) =
    inl (record {
      len = h.len;
      rest = h.rest ++ more;
      fits = h.fits;
      no_length = h.no_length;
      bytes_are = ap (λ (t : List ℕ). t ++ more) h.bytes_are ∙ append_assoc (to_be_bytes w32 h.len) h.rest more;
    })
damaged_longer n bytes more (inr (inl h)) =
    inr (inl (record {
      text = h.text;
      rest = h.rest ++ more;
      is_length = h.is_length;
      no_block = h.no_block;
      bytes_are = ap (λ (t : List ℕ). t ++ more) h.bytes_are ∙ append_assoc (to_be_bytes w32 (length h.text) ++ h.text) h.rest more;
    }))
damaged_longer n bytes more (inr (inr h)) =
    inr (inr (record {
      block = h.block;
      numbers = h.numbers;
      digest = h.digest;
      rest = h.rest ++ more;
      is_block = h.is_block;
      one_each = h.one_each;
      digest_len = h.digest_len;
      bad = h.bad;
      bytes_are = ap (λ (t : List ℕ). t ++ more) h.bytes_are ∙ append_assoc (framed_bytes h.block ++ h.numbers ++ h.digest) h.rest more;
    }))

stays_damaged : (n : ℕ) (bytes more : List ℕ) (cs : List Committed) (p : Progress) → p.is_damaged ≡ true → Reads n bytes cs p → Reads n (bytes ++ more) cs p
stays_damaged n bytes more [] p bad h =
    let rests : RestsBy true n bytes p.held = subst (λ d. RestsBy d n bytes p.held) bad h.1 in
    let later : RestsBy true n (bytes ++ more) p.held = (damaged_longer n bytes more rests.0, rests.1) in
    (h.0, subst (λ d. RestsBy d n (bytes ++ more) p.held) (sym bad) later)
stays_damaged n bytes more (c ∷ cs) p bad h =
    (h.0 ++ more, h.1, ap (λ (t : List ℕ). t ++ more) h.2 ∙ append_assoc (record_bytes c) h.0 more, stays_damaged (suc n) h.0 more cs p bad h.3)

sound_or_not : (d : Bool) → (d ≡ true) ⊎ (d ≡ false)
sound_or_not true = inl refl
sound_or_not false = inr refl

fed_damaged : (bytes : List ℕ) (cs : List Committed) (p : Progress) (piece : List ℕ) (ds : List Committed) (q : Progress) → p.is_damaged ≡ true →
    Reads 1 bytes cs p → Feeds p piece ds q → Reads 1 (bytes ++ piece) (cs ++ ds) q
fed_damaged bytes cs p piece ds q bad h fed =
    let k : FeedsBy true p piece ds q = subst (λ d. FeedsBy d p piece ds q) bad fed in
    let later : Reads 1 (bytes ++ piece) cs p = stays_damaged 1 bytes piece cs p bad h in
    let same : cs ≡ cs ++ ds = sym (append-nil cs) ∙ ap (λ (es : List Committed). cs ++ es) (sym k.0) in
    subst (λ (r : Progress). Reads 1 (bytes ++ piece) (cs ++ ds) r) (sym k.1) (subst (λ (es : List Committed). Reads 1 (bytes ++ piece) es p) same later)

feeds_on : (bytes : List ℕ) (cs : List Committed) (p : Progress) (piece : List ℕ) (ds : List Committed) (q : Progress) → Reads 1 bytes cs p →
    Feeds p piece ds q → Reads 1 (bytes ++ piece) (cs ++ ds) q
feeds_on bytes cs p piece ds q h fed =
    elim (sound_or_not p.is_damaged) [
      | inl bad ↦ fed_damaged bytes cs p piece ds q bad h fed
      | inr sound ↦ reads_on 1 bytes cs p piece ds q sound h (fed_reads p piece ds q sound fed)
    ]

feeds_all : (bytes : List ℕ) (cs : List Committed) (p : Progress) (pieces : List (List ℕ)) (ds : List Committed) (q : Progress) → Reads 1 bytes cs p →
    FeedsAll p pieces ds q → Reads 1 (bytes ++ flat_map (λ (piece : List ℕ). piece) pieces) (cs ++ ds) q
feeds_all bytes cs p [] ds q h fed =
    let one : Reads 1 (bytes ++ []) cs p = subst (λ (t : List ℕ). Reads 1 t cs p) (sym (append-nil bytes)) h in
    let same : cs ≡ cs ++ ds = sym (append-nil cs) ∙ ap (λ (es : List Committed). cs ++ es) (sym fed.0) in
    subst (λ (r : Progress). Reads 1 (bytes ++ []) (cs ++ ds) r) (sym fed.1) (subst (λ (es : List Committed). Reads 1 (bytes ++ []) es p) same one)
feeds_all bytes cs p (piece ∷ pieces) ds q h fed =
    let rest = flat_map (λ (t : List ℕ). t) pieces in
    let all = feeds_all (bytes ++ piece) (cs ++ fed.1) fed.0 pieces fed.2 q (feeds_on bytes cs p piece fed.1 fed.0 h fed.3) fed.4 in
    let records : (cs ++ fed.1) ++ fed.2 ≡ cs ++ ds = append_assoc cs fed.1 fed.2 ∙ ap (λ (es : List Committed). cs ++ es) (sym fed.5) in
    subst (λ (es : List Committed). Reads 1 (bytes ++ (piece ++ rest)) es q) records
    (subst (λ (t : List ℕ). Reads 1 t ((cs ++ fed.1) ++ fed.2) q) (append_assoc bytes piece rest) all)

pub pieces_give : (pieces : List (List ℕ)) (cs : List Committed) (q : Progress) → FeedsAll at_start pieces cs q →
    Loads 1 (flat_map (λ (piece : List ℕ). piece) pieces) cs (end_of q)
pieces_give pieces cs q fed =
    let begun : Reads 1 [] [] at_start = (refl, (inl (omega arith), refl)) in
    loads_of q.is_damaged q.next q.held 1 (flat_map (λ (piece : List ℕ). piece) pieces) cs (feeds_all [] [] at_start pieces cs q begun fed)
