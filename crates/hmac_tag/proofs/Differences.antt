-- Two bytes are the same where their exclusive or is zero.
use Rattle.std.proofs.Common.{◌≡◌, ℕ, sym, ap, ◌∙◌, bit_xor}
use Rattle.std.specs.Int.Bits.{xor_self, xor_zero_l, xor_zero_r, xor_assoc}

pub same-xor : (a b : ℕ) → bit_xor a b ≡ 0 → a ≡ b
same-xor a b h =
    sym (xor_zero_r a) ∙ ap (bit_xor a) (sym (xor_self b)) ∙ sym (xor_assoc a b b) ∙ ap (λ x. bit_xor x b) h ∙ xor_zero_l b
