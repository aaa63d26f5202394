use Rattle.std.proofs.Common.{option_map, sym, ap, ◌∙◌}
use Rattle.std.specs.FinMap.{get}
use Rattle.ledger_model.proofs.Views.{get-values_of}
use Rattle.world_state.specs.Writing.{as_state}
use Rattle.world_state.proofs.Entries.{get_lookup}
use Rattle.host_api.specs.Plain.{plain_of}
use Rattle.host_api.proofs.plain_map.PlainMap.get.Goals as goal

pub returns-in-Some : goal.returns-in-Some
returns-in-Some c =
    ap (option_map (λ e. e.0)) (c.in-Some.ensures ∙ sym (get_lookup c.self.inside.map.entries c.args.key.now)) ∙
    sym (get-values_of (as_state c.self.inside.map.entries) c.args.key.now) ∙ ap (λ es. get (plain_of es) c.args.key.now) c.self.view_is

pub returns-in-None : goal.returns-in-None
returns-in-None c =
    ap (option_map (λ e. e.0)) (c.in-None.ensures ∙ sym (get_lookup c.self.inside.map.entries c.args.key.now)) ∙
    sym (get-values_of (as_state c.self.inside.map.entries) c.args.key.now) ∙ ap (λ es. get (plain_of es) c.args.key.now) c.self.view_is
