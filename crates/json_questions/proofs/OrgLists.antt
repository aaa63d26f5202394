-- A list of which an item is no organisation's name is none of names.
use Rattle.std.proofs.Common.{◌≡◌, ◌<◌, ◌≤◌, ℕ, List, length, get_or, sym, subst}
use Rattle.serde_json.specs.Data.{Items}
use Rattle.serde_json.specs.View.{view, items_view}
use Rattle.serde_json.specs.declared.value.Value.{Value}
use Rattle.json_fields.specs.Lists.{AreItems}
use Rattle.json_fields.proofs.ReadItems.{AreItems-at}
use Rattle.json_events.specs.Refused.{NoneIs}
use Rattle.json_events.specs.declared.action.BadLine.{BadLine}
use Rattle.json_questions.specs.Spelling.{AreOrgs, IsOrg}
use Rattle.json_questions.proofs.OneQuestion.{one_list}

-- more names than may be
pub no_orgs : (ds : Items) (xs : List (List ℕ)) → AreItems IsOrg ds xs → ¬ (length xs ≤ 32) → (names : List (List ℕ)) → ¬ AreOrgs ds names
no_orgs ds xs are many names h = many (subst (λ (ns : List (List ℕ)). length ns ≤ 32) (one_list ds names xs h.0 are) h.1)

-- where the value at a place is no name, nor are the items names
pub no_item : (vs : List Value) (i : ℕ) (v : Value) (r : BadLine) → i < length vs → v ≡ get_or vs i v → NoneIs (IsOrg (view v)) r
    → NoneIs (AreItems IsOrg (items_view vs)) r
no_item vs i v r less is none = λ real xs spelled.
    let found = AreItems-at IsOrg vs xs i v spelled less in
    none real found.0 (subst (λ w. IsOrg (view w) found.0) (sym is) found.1)
