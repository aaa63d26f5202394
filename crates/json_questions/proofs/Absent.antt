-- Where there is nothing to show.
use Rattle.std.proofs.Common.{rules, ◌≡◌, Option, None, sym, ap, ◌∙◌}
use Rattle.serde_json.specs.Data.{Data, null}
use Rattle.serde_json.specs.View.{view}
use Rattle.serde_json.specs.declared.value.Value.{the_lemmas}
use Rattle.serde_json.specs.declared.value.Value.TheVariants.{Null}
use Rattle.json_questions.specs.Answers.{or_null}

shown : view Null ≡ null
shown = search (rules, the_lemmas)

pub absent : {A : Type 0} (json : A → Data) (o : Option A) → o ≡ None → view Null ≡ or_null json o
absent json o none = shown ∙ sym (ap (or_null json) none)
