use Rattle.std.proofs.Common.{◌++◌, List, ℕ, ◌∙◌, ap, subst}
use Rattle.sha2.specs.Hashers.{Holds256}
use Rattle.fab_types.specs.Spelling.{few_bytes}
use Rattle.fab_types.specs.BlockSpelling.{endorsement_bytes}
use Rattle.fab_types.specs.BlockWithin.{IsEnvelope}
use Rattle.wire.proofs.BlockLaws.{sized_fed}
use Rattle.wire.proofs.encode.feed_sized.Goals as goal

pub returns : goal.returns
returns c =
    let e = c.args.envelope.now in
    let size = c.to_be_bytes.result in
    let payload = c.bytes.result.now in
    let known : IsEnvelope e = record {
      payload = c.bytes.ensures.within;
      endorsements = c.in_ok-write.ensures.within.0;
      each_endorsement = c.in_ok-write.ensures.within.1;
    } in
    let tags = c.as_slice.ensures.value ∙ c.in_ok-write.ensures.spelled
    ∙ ap (λ (t : List ℕ). t ++ few_bytes endorsement_bytes e.endorsements) c.clear.ensures.items in
    λ front held.
    subst (Holds256 c.update-3.new.self)
    (sized_fed front size payload c.as_slice.result.now e c.size-len.result known c.size-len.ensures.value c.to_be_bytes.ensures c.bytes.ensures.spelled tags)
    (c.update-3.ensures ((front ++ size) ++ payload) (c.update-2.ensures (front ++ size) (c.update.ensures front held)))
