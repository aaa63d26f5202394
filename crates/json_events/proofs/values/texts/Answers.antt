use Rattle.std.proofs.Common.{◌≡◌, String, Global, string_bytes, sym, ap, ◌∙◌}
use Rattle.serde_json.specs.Data.{Data, string}
use Rattle.json_fields.proofs.ReadItems.{AreItems-more}
use Rattle.json_events.proofs.Texts.{no_texts}
use Rattle.json_events.proofs.values.texts.Goals as goal

pub returns-in_default-clause-refused : goal.returns-in_default-clause-refused
returns-in_default-clause-refused c = λ real. no_texts _ _ c.value-item.result c.items-test.true c.value-item.is c.in_default.ensures

pub items-preserved : goal.items-preserved
items-preserved c =
    let P : Data → String Global → Type 0 = λ d x. d ≡ string (string_bytes x) in
    let text = c.in-Some.ensures ∙ ap string (sym c.in_ok-from_str.ensures.ok) in
    rw c.in_ok-push.ensures.items (AreItems-more P _ _ _ c.value-item.result _ c.items.invariant c.items-test.true c.value-item.is text)
