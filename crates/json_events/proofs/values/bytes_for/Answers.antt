use Rattle.std.proofs.Common.{rules, ◌≡◌, IfErr, subst, sym}
use Rattle.serde_json.specs.Data.{Data, array}
use Rattle.serde_json.specs.View.{items_view, view}
use Rattle.serde_json.specs.declared.value.Value.{the_lemmas}
use Rattle.json_events.specs.Refused.{NoneIs}
use Rattle.json_events.specs.Spelling.{StandsFor}
use Rattle.json_events.proofs.values.bytes_for.Goals as goal

pub returns-in-Array-clause-refused : goal.returns-in-Array-clause-refused
returns-in-Array-clause-refused c =
    let list : view c.args.value.now ≡ array (items_view c.deref.result.now) = search (rules, the_lemmas) in
    subst (λ (d : Data). IfErr c.joined.result (λ r. NoneIs (StandsFor d) r)) (sym list) c.joined.ensures.refused
