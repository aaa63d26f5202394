use Rattle.std.proofs.Common.{◌≡◌, ◌+◌, ◌∙◌, sym, ap, ap₂, length, ℕ}
use Rattle.fab_types.specs.BlockSpelling.{block_size}
use Rattle.fab_types.specs.declared.block.Block.{Block}
use Rattle.block_store.proofs.OneRecord.{record_length}
use Rattle.block_store.proofs.one_record.record_size.Goals as goal

pub returns-clause-value : goal.returns-clause-value
returns-clause-value c =
    let own = c.args.committed.now in
    let size : c.size.result ≡ block_size own.block = c.size.ensures.value ∙ ap (λ (b : Block). block_size b) c.block-block.ensures in
    let envelopes = c.as_slice.ensures.value ∙ ap (λ (b : Block). b.envelopes) c.block-block.ensures in
    let count = ap length envelopes ∙ sym c.flags-flags.ensures.one_each in
    λ within. ap₂ (λ (m n : ℕ). 4 + m + n + 32) size count ∙ sym (record_length own within)
