-- The blocks that come with batches are those that were made.
use Rattle.std.proofs.Common.{◌≡◌, ◌++◌, List, [], ◌∷◌, Option, map, refl, sym, ap, ap₂, ◌∙◌}
use Rattle.std.specs.List.{AllByRecursion}
use Rattle.std.specs.Option.{option_to_list}
use Rattle.fab_types.specs.declared.block.Block.{Block}
use Rattle.orderer.specs.Making.{number_in}
use Rattle.orderer.specs.declared.making.Made.{Made}
use Rattle.log_orderer.specs.Handed.{blocks_of}
use Rattle.orderer.specs.Headers.{AreOwn, blocks_made, reports_made}
use Rattle.log_orderer.specs.Reported.{reports_of}
use Rattle.log_orderer.specs.declared.batch.LogBatch.{LogBatch}

abbrev pub blocks_in : List LogBatch → List (Option Block)
blocks_in batches = map (λ (batch : LogBatch). batch.block) batches

abbrev pub blocks_each : List Made → List (Option Block)
blocks_each made = map (λ (each : Made). each.block) made

handed : (made : List Made) (batches : List LogBatch) → reports_of batches ≡ reports_made made → blocks_in batches ≡ blocks_each made → AreOwn made →
    (blocks_of batches ≡ blocks_made made) × AllByRecursion (λ (batch : LogBatch). batch.report.block ≡ number_in batch.block) batches
handed [] [] reports blocks own = (refl, tt)
handed [] (batch ∷ batches) reports blocks own = absurd (cc)
handed (each ∷ made) [] reports blocks own = absurd (cc)
handed (each ∷ made) (batch ∷ batches) reports blocks own =
    let report : batch.report ≡ each.report = cc in
    let block : batch.block ≡ each.block = cc in
    let later = handed made batches (cc) (cc) own.1 in (
      ap₂ (λ (b : Option Block) (bs : List Block). option_to_list b ++ bs) block later.0,
      (ap (λ r. r.block) report ∙ own.0 ∙ ap number_in (sym block), later.1),
    )

pub hands_out : (old new : List Block) (made : List Made) (batches : List LogBatch) → new ≡ old ++ blocks_made made → AreOwn made →
    reports_of batches ≡ reports_made made → blocks_in batches ≡ blocks_each made →
    (new ≡ old ++ blocks_of batches) × AllByRecursion (λ (batch : LogBatch). batch.report.block ≡ number_in batch.block) batches
hands_out old new made batches longer own reports blocks =
    let is = handed made batches reports blocks own in
    (longer ∙ ap (λ (bs : List Block). old ++ bs) (sym is.0), is.1)
