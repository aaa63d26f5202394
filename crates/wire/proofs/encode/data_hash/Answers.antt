use Rattle.std.proofs.Common.{◌++◌, [], List, ℕ, ◌∙◌, ap}
use Rattle.std.specs.List.{flat_map}
use Rattle.sha2.specs.Sha256.{sha256}
use Rattle.fab_types.specs.declared.envelope.Envelope.{Envelope}
use Rattle.fab_types.specs.BlockSpelling.{data_bytes, sized_bytes}
use Rattle.wire.proofs.encode.data_hash.Goals as goal

pub returns : goal.returns
returns c =
    let es = c.as_slice-listed.result.now in
    let front = c.to_be_bytes.result in
    let fed = c.in_ok-feed_each_sized.ensures front (c.update.ensures [] c.new-hasher.ensures) in
    c.finalize.ensures (front ++ flat_map sized_bytes es) fed
    ∙ ap (λ (t : List ℕ). sha256 (t ++ flat_map sized_bytes es)) c.to_be_bytes.ensures
    ∙ ap (λ (ds : List Envelope). sha256 (data_bytes ds)) c.as_slice-listed.ensures.value
