use Rattle.std.proofs.Common.{sym, ap, ◌∙◌}
use Rattle.std.specs.FinMap.{get}
use Rattle.world_state.specs.Writing.{as_state}
use Rattle.world_state.proofs.Entries.{get_lookup}
use Rattle.host_api.proofs.plain_map.PlainMapView.get.Goals as goal

pub returns-in-Some : goal.returns-in-Some
returns-in-Some c =
    c.in-Some.ensures ∙ sym (get_lookup c.self.inside.map.entries c.args.key.now) ∙ ap (λ es. get (as_state es) c.args.key.now) c.self.view_is

pub returns-in-None : goal.returns-in-None
returns-in-None c =
    c.in-None.ensures ∙ sym (get_lookup c.self.inside.map.entries c.args.key.now) ∙ ap (λ es. get (as_state es) c.args.key.now) c.self.view_is
