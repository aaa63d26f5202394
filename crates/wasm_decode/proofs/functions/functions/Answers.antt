use Rattle.std.proofs.Common.{inr}
use Rattle.wasm_decode.proofs.Weights.{functions_small}
use Rattle.wasm_decode.proofs.functions.functions.Goals as goal

pub returns-then-count-type_indices-clause-tells : goal.returns-then-count-type_indices-clause-tells
returns-then-count-type_indices-clause-tells c =
    rw (c.refuse.ensures, c.offset-offset.ensures) (inr (c.in_ok-count.count, _, c.in_ok-count.ensures.stands, tt))

pub new-requires : goal.new-requires
new-requires c =
    functions_small c.args.profile c.args.type_indices.now c.args.cursor.now.rest c.in_ok-count.count c.number.new.cursor.rest
    c.in_ok-codes.field-0 c.codes.new.cursor.rest c.requires c.in_ok-count.ensures.read c.in_ok-codes.ensures.read
