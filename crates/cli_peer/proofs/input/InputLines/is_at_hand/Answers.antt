use Rattle.std.proofs.Common.{ℕ, ◌==◌, ◌∙◌, ap}
use Rattle.std.specs.List.{list_any}
use Rattle.cli_peer.specs.Input.{Input}
use Rattle.cli_peer.proofs.input.InputLines.is_at_hand.Goals as goal

pub returns : goal.returns
returns g c = c.contains.ensures.value ∙ ap (list_any (λ (b : ℕ). b == 10)) (c.buffer.ensures ∙ ap (λ (i : Input). i.ahead) c.self.view_is)
