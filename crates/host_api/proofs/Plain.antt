-- A map with versions, as a state of values alone.
use Rattle.std.proofs.Common.{◌≡◌, cond, [], Some, None, Option, option_map, refl, sym, ap, ◌∙◌, Bool, true, false}
use Rattle.std.specs.Ordering.{eq_by_cmp}
use Rattle.std.specs.FinMap.{get, empty, insert, remove, get-empty, get-insert, get-remove, same_map}
use Rattle.ledger_model.specs.Chain.{Bytes, Version}
use Rattle.ledger_model.specs.Views.{key_cmp, Versioned, values_of}
use Rattle.ledger_model.specs.Serial.{write}
use Rattle.ledger_model.proofs.Keys.{keys_total, keys_exact}
use Rattle.ledger_model.proofs.Views.{get-values_of}
use Rattle.world_state.specs.Writing.{as_state, put_write}
use Rattle.world_state.proofs.Entries.{get_lookup}

pub plain_none : values_of (as_state []) ≡ empty
plain_none =
    same_map keys_total keys_exact _ _ (λ q. get-values_of (as_state []) q ∙ ap (option_map (λ e. e.0)) (get_lookup [] q) ∙ sym (get-empty key_cmp q))

mapped : (b : Bool) (x y : Option (Bytes × Version)) → option_map (λ e. e.0) (cond b x y) ≡ cond b (option_map (λ e. e.0) x) (option_map (λ e. e.0) y)
mapped true x y = refl
mapped false x y = refl

-- a write of a value with any version is a write of the value
pub plain_write : (m : Versioned) (k : Bytes) (v : Option Bytes) (version : Version) → values_of (put_write m k v version) ≡ write (values_of m) k v
plain_write m k (Some v) version = same_map keys_total keys_exact _ _ (λ q.
    get-values_of (insert m k (v, version)) q ∙ ap (option_map (λ e. e.0)) (get-insert keys_total m k (v, version) q)
    ∙ mapped (eq_by_cmp key_cmp q k) (Some (v, version)) (get m q) ∙ ap (cond (eq_by_cmp key_cmp q k) (Some v)) (sym (get-values_of m q))
    ∙ sym (get-insert keys_total (values_of m) k v q))
plain_write m k None version = same_map keys_total keys_exact _ _ (λ q.
    get-values_of (remove m k) q ∙ ap (option_map (λ e. e.0)) (get-remove keys_total m k q)
    ∙ mapped (eq_by_cmp key_cmp q k) None (get m q) ∙ ap (cond (eq_by_cmp key_cmp q k) None) (sym (get-values_of m q))
    ∙ sym (get-remove keys_total (values_of m) k q))
