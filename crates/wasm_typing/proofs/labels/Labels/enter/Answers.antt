use Rattle.std.proofs.Common.{◌∷◌, [], ◌∙◌, ap, reverse}
use Rattle.std.proofs.lemmas.List.{reverse-append}
use Rattle.wasm_typing.proofs.labels.Labels.enter.Goals as goal

pub returns-clause-ok : goal.returns-clause-ok
returns-clause-ok c =
    ap reverse c.in_ok-push.ensures.items ∙ reverse-append c.self.inside.carried.items (c.args.carried ∷ []) ∙ ap (λ ls. c.args.carried ∷ ls) c.self.view_is
