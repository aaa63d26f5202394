-- The tip of a chain, by the hashes of its headers.
use Rattle.std.proofs.Common.{◌≡◌, ◌≤◌, ℕ, zero, suc, ◌+◌, ◌-◌, ◌++◌, List, [], ◌∷◌, length, Option, Some, refl, sym, ap, ap₂, ◌∙◌, arith, slice_get}
use Rattle.std.specs.Prelude.{replicate}
use Rattle.std.specs.Option.{option_map_or}
use Rattle.std.proofs.lemmas.List.{length-append, length-map}
use Rattle.std.proofs.lemmas.Option.{slice_get-map, slice_get_within}
use Rattle.fab_types.specs.declared.block.Block.{Block}
use Rattle.orderer.specs.Blocks.{link_from}
use Rattle.orderer.specs.Making.{tip_of}
use Rattle.orderer.specs.declared.making.Tip.{Tip}
use Rattle.orderer.specs.Headers.{hash_at, hashes_of, header_hash}

abbrev tip_at : ℕ → List ℕ → Tip
tip_at height link = record { height = height; link = link }

names_last : (link : List ℕ) (chain : List Block) (i : ℕ) (hash : List ℕ) → slice_get (hashes_of chain) i ≡ Some hash → suc i ≡ length chain →
    link_from link chain ≡ hash
names_last link [] i hash at last = absurd omega (arith, last)
names_last link (b ∷ []) zero hash at last = ap (λ (o : Option (List ℕ)). option_map_or (λ h. h) o link) at
names_last link (b ∷ []) (suc i) hash at last = absurd omega (arith, last)
names_last link (b ∷ c ∷ chain) zero hash at last = absurd omega (arith, last)
names_last link (b ∷ c ∷ chain) (suc i) hash at last = names_last (header_hash b) (c ∷ chain) i hash at (omega (arith, last))

pub tip_named : (hashes : List (List ℕ)) (hash : List ℕ) → slice_get hashes (length hashes - 1) ≡ Some hash → (chain : List Block) →
    hashes ≡ hashes_of chain → tip_at (length hashes) hash ≡ tip_of chain
tip_named hashes hash at chain are =
    let count : length hashes ≡ length chain = ap length are ∙ length-map chain header_hash in
    let within = slice_get_within hashes (length hashes - 1) hash at in
    let here : slice_get (hashes_of chain) (length hashes - 1) ≡ Some hash = ap (λ (hs : List (List ℕ)). slice_get hs (length hashes - 1)) (sym are) ∙ at in
    ap₂ tip_at count (sym (names_last (replicate 32 0) chain (length hashes - 1) hash here (omega (arith, count, within))))

link_behind : (link : List ℕ) (chain : List Block) (b : Block) → link_from link (chain ++ b ∷ []) ≡ header_hash b
link_behind link [] b = refl
link_behind link (c ∷ chain) b = link_behind (header_hash c) chain b

-- one block more
pub tip_behind : (tip : Tip) (b : Block) (chain : List Block) → tip ≡ tip_of chain → tip_at (tip.height + 1) (header_hash b) ≡ tip_of (chain ++ b ∷ [])
tip_behind tip b chain is =
    let count = length-append chain (b ∷ []) in
    let height : tip.height + 1 ≡ length (chain ++ b ∷ []) = omega (arith, ap (λ (t : Tip). t.height) is, count) in
    ap₂ tip_at height (sym (link_behind (replicate 32 0) chain b))

-- the hash of a header stands at the place before its number
pub hash_there : (chain : List Block) (number : ℕ) → 1 ≤ number → slice_get (hashes_of chain) (number - 1) ≡ hash_at chain number
hash_there chain zero some = absurd omega (arith, some)
hash_there chain (suc place) some =
    let e : suc place - 1 ≡ place = omega arith in
    ap (λ (n : ℕ). slice_get (hashes_of chain) n) e ∙ slice_get-map header_hash chain place
