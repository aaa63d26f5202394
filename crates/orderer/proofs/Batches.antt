-- What the batches of a cut become.
use Rattle.std.proofs.Common.{◌≡◌, ℕ, List, [], ◌∷◌, ◌++◌, append-nil, append_assoc, refl, sym, ap, ◌∙◌}
use Rattle.std.specs.Option.{option_to_list}
use Rattle.fab_types.specs.declared.block.Block.{Block}
use Rattle.fab_types.specs.declared.envelope.Envelope.{Envelope}
use Rattle.orderer.specs.Blocks.{Adds, AddsEach}
use Rattle.orderer.specs.declared.making.Made.{Made}
use Rattle.orderer.specs.declared.arrangement.AbortCause.{AbortCause}
use Rattle.orderer.specs.Headers.{blocks_made, reports_made}

module _ (arranges : List Envelope → List ℕ → List (ℕ × AbortCause) → Type 0) (chain : List Block) where
  module _ (first : List Envelope) (one : Made) (all : List Made) where
    abbrev next : List Block
    next = chain ++ option_to_list one.block

    pub one_added : all ≡ one ∷ [] → Adds arranges chain first one.report next →
        AddsEach arranges chain (first ∷ []) (reports_made all) (chain ++ blocks_made all)
    one_added is adds = rw is (one.report, [], next, refl, adds, (refl, ap (λ (bs : List Block). chain ++ bs) (append-nil (option_to_list one.block))))

    pub two_added : (second : List Envelope) (two : Made) → all ≡ one ∷ two ∷ [] → Adds arranges chain first one.report next →
        Adds arranges next second two.report (next ++ option_to_list two.block) →
        AddsEach arranges chain (first ∷ second ∷ []) (reports_made all) (chain ++ blocks_made all)
    two_added second two is adds more =
        let end = option_to_list two.block in
        let last : chain ++ blocks_made (one ∷ two ∷ []) ≡ next ++ end =
        ap (λ (bs : List Block). chain ++ (option_to_list one.block ++ bs)) (append-nil end) ∙ sym (append_assoc chain (option_to_list one.block) end) in
        rw is (one.report, two.report ∷ [], next, refl, adds, (two.report, [], next ++ end, refl, more, (refl, last)))
