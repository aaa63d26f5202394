-- The next line, where its end is among the bytes that were read.
use Rattle.std.proofs.Common.{◌≡◌, ◌<◌, ◌==◌, ◌+◌, ℕ, Bool, true, false, cond, List, [], ◌∷◌, ◌++◌, Option, Some, None, length, take, drop, get_or, refl, sym, ap, ◌∙◌, subst, append_assoc, arith}
use Rattle.std.proofs.lemmas.Bool.{eqb-false, eqb-true, ltb-false, ltb-true}
use Rattle.std.proofs.lemmas.List.{drop_more, get_or-take, length-take, take-append-drop}
use Rattle.std.proofs.lemmas.List.Folds.{list_any_none}
use Rattle.std.proofs.lemmas.List.Sums.{fails_before_first, passes_at_first}
use Rattle.std.specs.Io.KnownBytes.{Consumes, prepend_known}
use Rattle.std.specs.Prelude.{nat_lt}
use Rattle.std.specs.List.{list_any, position, position_or_len}
use Rattle.cli_lines.specs.Texts.{line}
use Rattle.cli_peer.specs.Input.{HasNoEnd}

abbrev is_end : ℕ → Bool
is_end b = b == 10

some_of : (b : Bool) (k n : ℕ) → cond b (Some k) None ≡ Some n → (b ≡ true) × (k ≡ n)
some_of true k n is = (refl, cc)
some_of false k n is = absurd cc

none_of : (b : Bool) (k : ℕ) → cond b (Some k) None ≡ None → b ≡ false
none_of true k is = absurd cc
none_of false k is = refl

-- no end is there
pub none_at_hand : (bytes : List ℕ) → position is_end bytes ≡ None → list_any is_end bytes ≡ false
none_at_hand bytes is =
    let n = position_or_len is_end bytes in
    let over = ltb-false n (length bytes) (none_of (nat_lt n (length bytes)) n is) in
    list_any_none is_end bytes (λ k d within. fails_before_first is_end bytes k d (omega (arith, over, within)))

module _ (bytes : List ℕ) (n : ℕ) (is : position is_end bytes ≡ Some n) where
  first : (nat_lt (position_or_len is_end bytes) (length bytes) ≡ true) × (position_or_len is_end bytes ≡ n)
  first = some_of (nat_lt (position_or_len is_end bytes) (length bytes)) (position_or_len is_end bytes) n is

  within : n < length bytes
  within = subst (λ (k : ℕ). k < length bytes) first.1 (ltb-true (position_or_len is_end bytes) (length bytes) first.0)

  pub none_before_end : HasNoEnd (take n bytes)
  none_before_end = λ k d short same.
      let below : k < n = omega (arith, short, length-take n bytes) in
      let at : get_or bytes k d ≡ 10 = sym (get_or-take n bytes k d below) ∙ same in
      eqb-false (get_or bytes k d) 10 (fails_before_first is_end bytes k d (omega (arith, below, first.1))) at

  begins_with_line : bytes ≡ line (take n bytes) ++ drop (n + 1) bytes
  begins_with_line =
      let there : position_or_len is_end bytes < length bytes = omega (arith, within, first.1) in
      let end : get_or bytes n 0 ≡ 10 =
      eqb-true (get_or bytes n 0) 10 (subst (λ (k : ℕ). is_end (get_or bytes k 0) ≡ true) first.1 (passes_at_first is_end bytes 0 there)) in
      let rest : drop n bytes ≡ 10 ∷ drop (n + 1) bytes = drop_more bytes n 0 within ∙ ap (λ (b : ℕ). b ∷ drop (n + 1) bytes) end in
      sym (take-append-drop n bytes) ∙ ap (λ (l : List ℕ). take n bytes ++ l) rest ∙ sym (append_assoc (take n bytes) (10 ∷ []) (drop (n + 1) bytes))

  loses : (behind : Option (List ℕ)) → Consumes (prepend_known bytes behind) (prepend_known (drop (n + 1) bytes) behind) (line (take n bytes))
  loses None = tt
  loses (Some ys) = ap (λ (l : List ℕ). l ++ ys) begins_with_line ∙ append_assoc (line (take n bytes)) (drop (n + 1) bytes) ys

  -- the bytes that are left lose the line, where they are known
  pub loses_line : (unknown : Bool) (behind : Option (List ℕ))
      → Consumes (cond unknown None (prepend_known bytes behind)) (cond unknown None (prepend_known (drop (n + 1) bytes) behind)) (line (take n bytes))
  loses_line true behind = tt
  loses_line false behind = loses behind
