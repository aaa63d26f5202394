use Rattle.std.proofs.Common.{refl, sym}
use Rattle.fab_types.specs.declared.definition.Definition.{Definition}
use Rattle.json_events.proofs.values.definition.Goals as goal

pub returns-clause-ok : goal.returns-clause-ok
returns-clause-ok c =
    let s = c.in-Some-Some in
    let policy = c.in_ok-policy.policy in
    let d : Definition = record { profile = s.profile; is_open = s.is_open; digest = c.in-Ok.digest; fuel = s.fuel; policy = policy } in
    (s.ensures d refl refl, sym c.in-Ok.ensures, s.ensures'.0, s.ensures'.1, c.in_ok-policy.ensures.ok.0, c.in_ok-policy.ensures.ok.1)
