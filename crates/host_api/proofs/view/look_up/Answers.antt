use Rattle.std.proofs.Common.{option_map, sym, ap, ◌∙◌}
use Rattle.ledger_model.proofs.Views.{get-values_of}
use Rattle.host_api.proofs.view.look_up.Goals as goal

pub returns-in-Some-clause-value : goal.returns-in-Some-clause-value
returns-in-Some-clause-value g c =
    ap (option_map (λ e. e.0)) c.in-Some.ensures ∙ sym (get-values_of (g.V.View.state c.args.view.now) c.args.key.now)

pub returns-in-None-clause-value : goal.returns-in-None-clause-value
returns-in-None-clause-value g c =
    ap (option_map (λ e. e.0)) c.in-None.ensures ∙ sym (get-values_of (g.V.View.state c.args.view.now) c.args.key.now)
