use Rattle.std.proofs.Common.{ap, ◌∙◌}
use Rattle.ledger_model.specs.Views.{values_of}
use Rattle.endorser.specs.Endorsing.{endorsing_of}
use Rattle.endorser.proofs.endorsing.Endorser.endorse_payload_behind.Goals as goal

pub returns-clause-endorsed : goal.returns-clause-endorsed
returns-clause-endorsed g c = (
  c.in_ok-recheck_behind.ensures.current,
  c.in_ok-seal.ensures ∙ ap (λ m. (endorsing_of c.args.self.now).seal (values_of m) c.args.payload.now) c.map.ensures,
)
