-- The bytes of a checkpoint tell what is kept.
use Rattle.std.proofs.Common.{◌≡◌, ◌<◌, ◌^◌, ℕ, List, ◌++◌, length, refl, sym, ap, ◌∙◌, arith}
use Rattle.std.specs.Int.{w32, w64}
use Rattle.std.proofs.lemmas.List.{length-map}
use Rattle.sha2.specs.Sha256.{sha256}
use Rattle.fab_types.specs.BlockSpelling.{header_bytes}
use Rattle.fab_types.specs.declared.membership.Membership.{Membership}
use Rattle.ledger_model.specs.Chain.{Bytes, Chain, Committed, history}
use Rattle.world_state.specs.Kept.{Kept, amendments_of, block_of_id, hashes_of, state_in}
use Rattle.checkpoint.specs.Checkpoint.{AreKeptAlike, IsCheckpointOf, amendment_bytes, checkpoint_body, checkpoint_bytes, counted_bytes, form_bytes, head_bytes, kept_entry_bytes, placed_id_bytes, sizes_of}
use Rattle.checkpoint.specs.Within.{IsKeptWithin}
use Rattle.checkpoint.proofs.SizedHashes.{parts_of, parts_spelled, parts_within, same_hashes, sized_hashes}
use Rattle.checkpoint.proofs.Spans.{length-sizes}
use Rattle.checkpoint.proofs.Unique.{amendment, both, bytes_of, counted, eight_bytes, four_bytes, kept_entry, placed_id}

-- the body, by the bytes of the lengths
abbrev body_of : (genesis : Bytes) → Kept → List (Bytes × Bytes) → Bytes
body_of genesis kept parts =
    head_bytes genesis kept
    ++ counted_bytes w32 (λ (p : Bytes × Bytes). p.0 ++ p.1) parts
    ++ counted_bytes w32 amendment_bytes kept.amended
    ++ counted_bytes w64 kept_entry_bytes kept.entries
    ++ counted_bytes w64 placed_id_bytes kept.ids

body_is : (genesis : Bytes) (kept : Kept) (sizes : List ℕ) → body_of genesis kept (parts_of kept.hashes sizes) ≡ checkpoint_body genesis kept sizes
body_is genesis kept sizes =
    let listed = parts_spelled kept.hashes sizes in
    λ i. head_bytes genesis kept
    ++ listed i
    ++ counted_bytes w32 amendment_bytes kept.amended
    ++ counted_bytes w64 kept_entry_bytes kept.entries
    ++ counted_bytes w64 placed_id_bytes kept.ids

one_kept : (genesis other : Bytes) (a b : Kept) (i j : List ℕ) → length genesis ≡ 32 → length other ≡ 32 → IsKeptWithin a → IsKeptWithin b →
    length a.amended < 2 ^ 32 → length b.amended < 2 ^ 32 → length a.hashes ≡ length i → length b.hashes ≡ length j →
    checkpoint_bytes genesis a i ≡ checkpoint_bytes other b j → (genesis ≡ other) × (a ≡ b)
one_kept genesis other a b i j g o f h m n p q e =
    let head = both (both (both (bytes_of 8) (bytes_of 32)) four_bytes) (bytes_of 32) in
    let lists = both (both (both (both head sized_hashes) (counted w32 four_bytes amendment)) (counted w64 eight_bytes kept_entry))
    (counted w64 eight_bytes placed_id) in
    let end = sha256 (checkpoint_body genesis a i) in
    let ending = sha256 (checkpoint_body other b j) in
    let same =
    lists.one
    (((((((form_bytes, genesis), a.height), a.link), parts_of a.hashes i), a.amended), a.entries), a.ids)
    (((((((form_bytes, other), b.height), b.link), parts_of b.hashes j), b.amended), b.entries), b.ids)
    end ending
    (((((((refl, g), f.height), f.link), parts_within a.hashes i f.hashes), (m, f.amended)), f.entries), f.ids)
    (((((((refl, o), h.height), h.link), parts_within b.hashes j h.hashes), (n, h.amended)), h.entries), h.ids)
    (ap (λ (t : Bytes). t ++ end) (body_is genesis a i) ∙ e ∙ sym (ap (λ (t : Bytes). t ++ ending) (body_is other b j))) in
    let hashes = same_hashes a.hashes b.hashes i j p q (λ t. (same.0 t).0.0.0.1) in (
      λ t. (same.0 t).0.0.0.0.0.0.1,
      λ t. record {
        entries = (same.0 t).0.1;
        ids = (same.0 t).1;
        height = (same.0 t).0.0.0.0.0.1;
        link = (same.0 t).0.0.0.0.1;
        hashes = hashes t;
        amended = (same.0 t).0.0.1;
      },
    )

-- as many hashes as lengths
as_many : (kept : Kept) (chain : Chain) → kept.hashes ≡ hashes_of chain → length kept.hashes ≡ length (sizes_of chain)
as_many kept chain are =
    let hashes = length-map chain (λ (c : Committed). sha256 (header_bytes c.block.header)) in
    let sizes = length-sizes chain in
    let each = ap (λ (l : List Bytes). length l) are in
    omega (arith, hashes, sizes, each)

-- of chains with one checkpoint the same is kept
pub kept_alike : (genesis other bytes : Bytes) (chain rival : Chain) → length genesis ≡ 32 → length other ≡ 32 →
    length (amendments_of (history chain)) < 2 ^ 32 → length (amendments_of (history rival)) < 2 ^ 32 →
    IsCheckpointOf genesis bytes chain → IsCheckpointOf other bytes rival → (genesis ≡ other) × AreKeptAlike chain rival
kept_alike genesis other bytes chain rival g o m n one two =
    let a = one.1 in
    let b = two.1 in
    let few = ap (λ (l : List (ℕ × Membership)). length l) a.is_kept.amended in
    let few_too = ap (λ (l : List (ℕ × Membership)). length l) b.is_kept.amended in
    let same = one_kept genesis other one.0 two.0 (sizes_of chain) (sizes_of rival) g o a.within b.within (omega (arith, m, few)) (omega (arith, n, few_too))
    (as_many one.0 chain a.hashes) (as_many two.0 rival b.hashes) (sym one.2 ∙ two.2) in (
      same.0,
      record {
        state = sym a.is_kept.state ∙ ap state_in same.1 ∙ b.is_kept.state;
        ids = λ q. sym (a.is_kept.ids q) ∙ ap (λ (k : Kept). block_of_id k.ids q) same.1 ∙ b.is_kept.ids q;
        hashes = sym a.hashes ∙ ap (λ (k : Kept). k.hashes) same.1 ∙ b.hashes;
        amended = sym a.is_kept.amended ∙ ap (λ (k : Kept). k.amended) same.1 ∙ b.is_kept.amended;
      },
    )
