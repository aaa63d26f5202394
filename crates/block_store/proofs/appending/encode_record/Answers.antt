use Rattle.std.proofs.Common.{◌≡◌, ℕ, List, ◌++◌, length, map, sym, ap, ap₂, ◌∙◌}
use Rattle.std.specs.Int.{w32, to_be_bytes}
use Rattle.sha2.specs.Sha256.{sha256}
use Rattle.fab_types.specs.FlagNumber.{flag_number}
use Rattle.fab_types.specs.BlockSpelling.{block_bytes}
use Rattle.block_store.specs.Record.{digest_input}
use Rattle.block_store.proofs.appending.encode_record.Goals as goal

pub returns-clause-spelled : goal.returns-clause-spelled
returns-clause-spelled c =
    let block = c.args.block.now in
    let flags = c.args.flags.now in
    let size : c.size-size.result ≡ length (block_bytes block) = c.size-size.ensures.value ∙ sym c.in_ok-write_block.ensures.size in
    let front : c.extend_from_slice.new.self.items ≡ to_be_bytes w32 (length (block_bytes block)) =
    c.in_ok-extend_from_slice.ensures.items ∙ ap (λ (t : List ℕ). t ++ c.to_be_bytes.result) c.in_ok-out.ensures.items
    ∙ c.to_be_bytes.ensures ∙ ap (to_be_bytes w32) size in
    let framed = c.in_ok-write_block.ensures.spelled ∙ ap (λ (t : List ℕ). t ++ block_bytes block) front in
    let input : c.push_flags.new.out.items ≡ digest_input (record { block = block; flags = flags }) =
    c.in_ok-push_flags.ensures ∙ ap (λ (t : List ℕ). t ++ map flag_number flags) framed in
    c.in_ok-extend_from_slice-2.ensures.items
    ∙ ap₂ (λ (t d : List ℕ). t ++ d) input (c.digest-digest.ensures ∙ ap (λ (t : List ℕ). sha256 t) (c.as_slice.ensures.value ∙ input))
