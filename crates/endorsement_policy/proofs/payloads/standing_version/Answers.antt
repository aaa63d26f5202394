use Rattle.std.proofs.Common.{◌∙◌, ap, sym, option_map}
use Rattle.world_state.proofs.Entries.{get_lookup}
use Rattle.endorsement_policy.proofs.payloads.standing_version.Goals as goal

pub returns-in-Some : goal.returns-in-Some
returns-in-Some c = sym (ap (option_map (λ e. e.1)) (get_lookup c.args.state.now.entries c.args.key.now ∙ sym c.in-Some.ensures))

pub returns-in-None : goal.returns-in-None
returns-in-None c = sym (ap (option_map (λ e. e.1)) (get_lookup c.args.state.now.entries c.args.key.now ∙ sym c.in-None.ensures))
