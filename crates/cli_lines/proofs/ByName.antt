-- What a change to one file in memory leaves of the others.
use Rattle.std.proofs.Common.{◌≡◌, ◌≢◌, ◌∙◌, ℕ, List, Option, String, BTreeMap, option_map, string_bytes, string_cmp, bytes_eq, nat_cmp, sym, ap}
use Rattle.std.specs.BTreeMap.{UpdatesBy, get_by_text}
use Rattle.std.specs.Cmp.Lexicographic.{slice_cmp}
use Rattle.std.proofs.lemmas.Bool.{false_from_ne_true}
use Rattle.std.proofs.lemmas.Map.{update_other}
use Rattle.std.proofs.lemmas.Map.Text.{btree_map_updates_text}
use Rattle.std.proofs.lemmas.Slice.Eq.{bytes_eq-Decides}

-- what stands by another name than the one that was changed, as it is shown
pub others_kept : {X Y : Type 0} (shown : X → List ℕ) (text name : List ℕ) (m n : BTreeMap (String Y) X) (w : Option X) → text ≡ name →
    UpdatesBy string_cmp (λ k. slice_cmp nat_cmp text (string_bytes k)) m n w → (other : List ℕ) → other ≢ name →
    option_map shown (get_by_text n other) ≡ option_map shown (get_by_text m other)
others_kept shown text name m n w same updates other apart =
    let differs = false_from_ne_true (bytes_eq text other) (λ is. apart (sym ((bytes_eq-Decides text other).0 is) ∙ same)) in
    ap (option_map shown) (btree_map_updates_text text m n w updates other ∙ update_other bytes_eq (get_by_text m) text w other differs)
