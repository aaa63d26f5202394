-- Entries in one order.
use Rattle.std.proofs.Common.{◌≡◌, ℕ, Bool, true, false, ◌&&◌, T, cond, List, [], ◌∷◌, Some, refl, sym, ap, ◌∙◌, subst, is_lt}
use Rattle.std.specs.declared.cmp.Ordering.{Ordering}
use Rattle.std.specs.declared.cmp.Ordering.TheVariants.{Less}
use Rattle.std.specs.List.{AllByRecursion}
use Rattle.std.specs.BTreeMap.{is_at}
use Rattle.std.specs.FinMap.{find, is_sorted}
use Rattle.std.specs.FinMap.Entries.{same_entries, below_all}
use Rattle.persist_map.proofs.Ordered.{ascend_head, ascend_tail}
use Rattle.id_runs.specs.Entries.{id_cmp, block_at, Ascends}
use Rattle.id_runs.proofs.Merges.{ids_total, ids_exact}

found_at : (es : List (List ℕ × ℕ)) (q : List ℕ) → find id_cmp q es ≡ block_at es q
found_at [] q = refl
found_at (e ∷ es) q = ap (cond (is_at (id_cmp q) e.0) (Some e.1)) (found_at es q)

both_hold : (a b : Bool) → T a → T b → T (a && b)
both_hold true b h k = k
both_hold false b h k = elim h [ ]

below_from : (id : List ℕ) (es : List (List ℕ × ℕ)) → AllByRecursion (λ e. id_cmp id e.0 ≡ Less) es → T (below_all id_cmp id es)
below_from id [] h = tt
below_from id (e ∷ es) h = both_hold _ _ (subst (λ (o : Ordering). T (is_lt o)) (sym h.0) tt) (below_from id es h.1)

sorted_from : (es : List (List ℕ × ℕ)) → Ascends es → T (is_sorted id_cmp es)
sorted_from [] up = tt
sorted_from (e ∷ es) up = both_hold _ _ (below_from e.0 es (ascend_head id_cmp e es up)) (sorted_from es (ascend_tail id_cmp e es up))

-- two lists that ascend, and have the same block at each id, are one
pub one_order : (es fs : List (List ℕ × ℕ)) → Ascends es → Ascends fs → ((sought : List ℕ) → block_at es sought ≡ block_at fs sought) → es ≡ fs
one_order es fs up upward same =
    same_entries id_cmp ids_total ids_exact es fs (sorted_from es up) (sorted_from fs upward) (λ q. found_at es q ∙ same q ∙ sym (found_at fs q))
