-- One of two numbers by a flag, and one of two rows.
use Rattle.std.proofs.Common.{◌≡◌, ℕ, Bool, true, false, ap, ap₂, ◌∙◌}
use Rattle.std.specs.Prelude.{nat_eq, if◌then◌else◌}
use Rattle.edwards25519.specs.declared.prepared.Row.{Row}

pub chosen_flag : (first : Bool) (a b flag r : ℕ) → flag ≡ (if first then 1 else 0) → r ≡ (if nat_eq flag 0 then b else a) → r ≡ (if first then a else b)
chosen_flag true a b flag r e h = h ∙ ap (λ f. if nat_eq f 0 then b else a) e
chosen_flag false a b flag r e h = h ∙ ap (λ f. if nat_eq f 0 then b else a) e

same_row : (a : Row) (d s t : ℕ) → d ≡ a.difference → s ≡ a.sum → t ≡ a.product → record { difference = d; sum = s; product = t } ≡ a
same_row a d s t hd hs ht =
    let make : ℕ → ℕ → ℕ → Row = λ d s t. record { difference = d; sum = s; product = t } in
    ap (λ d. make d s t) hd ∙ ap₂ (make a.difference) hs ht

pub chosen_row : (first : Bool) (a b : Row) (d s t : ℕ) →
    d ≡ (if first then a.difference else b.difference) → s ≡ (if first then a.sum else b.sum) → t ≡ (if first then a.product else b.product) →
    record { difference = d; sum = s; product = t } ≡ (if first then a else b)
chosen_row true a b d s t hd hs ht = same_row a d s t hd hs ht
chosen_row false a b d s t hd hs ht = same_row b d s t hd hs ht
