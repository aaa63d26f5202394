use Rattle.std.proofs.Common.{inl, inr, arith}
use Rattle.wasm_decode.proofs.item.number.Goals as goal

pub returns-then-number-most-clause-tells : goal.returns-then-number-most-clause-tells
returns-then-number-most-clause-tells c =
    rw (c.refuse.ensures, c.offset-offset.ensures)
    (λ _. inr (inl (c.in_ok-number.number, _, c.in_ok-number.ensures.stands.0, omega (arith, c.if-number-most.true))))
