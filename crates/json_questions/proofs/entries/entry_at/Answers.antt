use Rattle.std.proofs.Common.{◌≡◌, IfOk, Option, Some, sym, subst, ◌∙◌}
use Rattle.std.specs.FinMap.{get}
use Rattle.serde_json.specs.View.{view}
use Rattle.ledger_model.specs.Chain.{Bytes, Version}
use Rattle.world_state.specs.Writing.{as_state}
use Rattle.world_state.proofs.Entries.{get_lookup}
use Rattle.json_chain.specs.Entries.{entry_json}
use Rattle.json_questions.specs.Answers.{or_null}
use Rattle.json_questions.proofs.Absent.{absent}
use Rattle.json_questions.proofs.entries.entry_at.Goals as goal

pub returns-in-Some : goal.returns-in-Some
returns-in-Some c =
    let key = c.args.key.now in
    let es = c.args.state.now.entries in
    let there : get (as_state es) key ≡ Some c.in-Some.entry.now = get_lookup es key ∙ sym c.in-Some.ensures in
    subst (λ (o : Option (Bytes × Version)). IfOk c.entry_of.result (λ v. view v ≡ or_null (λ e. entry_json key e.0 e.1) o)) (sym there) c.entry_of.ensures

pub returns-in-None : goal.returns-in-None
returns-in-None c =
    let key = c.args.key.now in
    let es = c.args.state.now.entries in
    absent (λ (e : Bytes × Version). entry_json key e.0 e.1) (get (as_state es) key) (get_lookup es key ∙ sym c.in-None.ensures)
