-- Blocks are numbered by where they stand.
use Rattle.std.proofs.Common.{◌≡◌, ℕ, suc, ◌-◌, ◌≤◌, Bool, true, false, leb, cond, List, [], ◌∷◌, length, take, drop, refl, sym, ap, ◌∙◌, arith}
use Rattle.std.proofs.lemmas.Bool.{leb-true, leb-false}
use Rattle.std.proofs.Math.Seq.{drop-nil, take-length}
use Rattle.std.proofs.Math.ListN.{drop_of_length-le}
use Rattle.std.proofs.lemmas.List.{length-drop}
use Rattle.fab_types.specs.declared.block.Block.{Block}
use Rattle.orderer.specs.Blocks.{AreNumbered, from_number}

kept_or_not : (n k : ℕ) (b : Block) (blocks : List Block) (test : Bool) → leb n b.header.number ≡ test → b.header.number ≡ k →
    from_number n blocks ≡ drop (n - suc k) blocks
    → cond test (b ∷ from_number n blocks) (from_number n blocks) ≡ drop (n - k) (b ∷ blocks)
kept_or_not n k b blocks true passes number later =
    let below = leb-true n b.header.number passes in
    let none : n - k ≡ 0 = omega (arith, below, number) in
    let none_later : n - suc k ≡ 0 = omega (arith, below, number) in
    ap (λ (bs : List Block). b ∷ bs) (later ∙ ap (λ m. drop m blocks) none_later) ∙ sym (ap (λ m. drop m (b ∷ blocks)) none)
kept_or_not n k b blocks false fails number later =
    let above = leb-false n b.header.number fails in
    let one : n - k ≡ suc (n - suc k) = omega (arith, above, number) in
    later ∙ sym (ap (λ m. drop m (b ∷ blocks)) one)

-- the blocks from a number on are those after the ones before it
pub numbered_from : (n k : ℕ) (blocks : List Block) → AreNumbered k blocks → from_number n blocks ≡ drop (n - k) blocks
numbered_from n k [] are = sym (drop-nil (n - k))
numbered_from n k (b ∷ blocks) are = kept_or_not n k b blocks (leb n b.header.number) refl are.0 (numbered_from n (suc k) blocks are.1)

pub none_from : (n start : ℕ) (blocks : List Block) → AreNumbered 1 blocks → start ≡ n - 1 → length blocks ≤ start → [] ≡ from_number n blocks
none_from n start blocks are at past = sym (numbered_from n 1 blocks are ∙ drop_of_length-le blocks (omega (arith, at, past)))

pub rest_from : (n start : ℕ) (blocks : List Block) → AreNumbered 1 blocks → start ≡ n - 1 →
    take (length blocks - start) (drop start blocks) ≡ from_number n blocks
rest_from n start blocks are at =
    ap (λ m. take m (drop start blocks)) (sym (length-drop start blocks)) ∙ take-length (drop start blocks) ∙ ap (λ m. drop m blocks) at ∙
    sym (numbered_from n 1 blocks are)
