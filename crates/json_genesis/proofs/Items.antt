-- Lists of which an item is refused, and lists of the same data.
use Rattle.std.proofs.Common.{◌≡◌, ℕ, ◌<◌, ◌≤◌, ◌∙◌, List, length, get_or, sym, subst, arith}
use Rattle.std.proofs.lemmas.List.{map-id}
use Rattle.serde_json.specs.Data.{Data, array}
use Rattle.serde_json.specs.View.{view, items_view}
use Rattle.serde_json.specs.declared.value.Value.{Value}
use Rattle.json_fields.specs.Lists.{AreItems}
use Rattle.json_fields.proofs.ReadItems.{AreItems-at, AreItems-length, AreItems-same, same_items}
use Rattle.json_genesis.specs.declared.refusal.GenesisRefusal.{GenesisRefusal}
use Rattle.json_genesis.specs.Lists.{IsWithin, IsListOf}
use Rattle.json_genesis.specs.Refused.{NoneIs}

-- where the value at a place spells nothing, nor does the list
pub NoneIs-items : {A : Type 0} (P : Data → A → Type 0) (vs : List Value) (i : ℕ) (v : Value) (r : GenesisRefusal)
    → i < length vs → v ≡ get_or vs i v → NoneIs (P (view v)) r → NoneIs (AreItems P (items_view vs)) r
NoneIs-items P vs i v r less is none = (
  none.0,
  λ real xs spelled.
      let found = AreItems-at P vs xs i v spelled less in none.1 real found.0 (subst (λ w. P (view w) found.0) (sym is) found.1),
)

pub IsListOf-read : {A : Type 0} (P : Data → A → Type 0) (least greatest : ℕ) (d : Data) (vs : List Value) (xs : List A)
    → d ≡ array (items_view vs) → least ≤ length vs → length vs ≤ greatest → AreItems P (items_view vs) xs → IsListOf P least greatest d xs
IsListOf-read P least greatest d vs xs is some few are =
    let n = AreItems-length P vs xs are in (items_view vs, is, are, (omega arith, omega arith))

-- a list of too few or too many items
pub NoneIs-count : {A : Type 0} (P : Data → A → Type 0) (least greatest : ℕ) (d : Data) (vs : List Value) (xs : List A)
    → d ≡ array (items_view vs) → ¬ IsWithin least greatest (length vs) → ¬ IsListOf P least greatest d xs
NoneIs-count P least greatest d vs xs is not spelled =
    let are = subst (λ ds. AreItems P ds xs) (same_items (sym spelled.1 ∙ is)) spelled.2 in
    not (subst (λ n. IsWithin least greatest n) (AreItems-length P vs xs are) spelled.3)

pub NoneIs-list : {A : Type 0} (P : Data → A → Type 0) (least greatest : ℕ) (d : Data) (vs : List Value) (r : GenesisRefusal)
    → d ≡ array (items_view vs) → NoneIs (AreItems P (items_view vs)) r → NoneIs (IsListOf P least greatest d) r
NoneIs-list P least greatest d vs r is none =
    (none.0, λ real xs spelled. none.1 real xs (subst (λ ds. AreItems P ds xs) (same_items (sym spelled.1 ∙ is)) spelled.2))

-- data are at most one list, where each item is at most one value
pub IsListOf-same : {A : Type 0} (P : Data → A → Type 0) → ((d : Data) (x y : A) → P d x → P d y → x ≡ y)
    → (least greatest : ℕ) (d : Data) (xs ys : List A) → IsListOf P least greatest d xs → IsListOf P least greatest d ys → xs ≡ ys
IsListOf-same {A} P one least greatest d xs ys h k =
    let are = subst (λ ds. AreItems P ds xs) (same_items (sym h.1 ∙ k.1)) h.2 in
    sym (map-id xs) ∙ AreItems-same P (λ (x : A). x) one k.0 xs ys are k.2 ∙ map-id ys
