use Rattle.std.proofs.Common.{◌∙◌}
use Rattle.wasm_profile.specs.declared.profile.Profile.TheVariants.{Core1, SignExtension}
use Rattle.wasm_operators.proofs.OperatorRows.{is_comparison, is_of_32, is_of_64, is_conversion, is_added}
use Rattle.wasm_operators.proofs.operators.operator.Goals as goal

pub returns-in-Some : goal.returns-in-Some
returns-in-Some c = is_comparison c.args.profile c.args.byte _ c.in-Some.ensures

pub returns-in-Some-arithmetic_32 : goal.returns-in-Some-arithmetic_32
returns-in-Some-arithmetic_32 c = is_of_32 c.args.profile c.args.byte _ c.in_default.ensures c.in-Some-arithmetic_32.ensures

pub returns-in-Some-arithmetic_64 : goal.returns-in-Some-arithmetic_64
returns-in-Some-arithmetic_64 c =
    is_of_64 c.args.profile c.args.byte _ c.in_default.ensures c.in_default-arithmetic_32.ensures c.in-Some-arithmetic_64.ensures

pub returns-in-Some-conversion : goal.returns-in-Some-conversion
returns-in-Some-conversion c =
    is_conversion c.args.profile c.args.byte _ c.in_default.ensures c.in_default-arithmetic_32.ensures c.in_default-arithmetic_64.ensures
    c.in-Some-conversion.ensures

pub returns-in-Core1 : goal.returns-in-Core1
returns-in-Core1 c =
    rw c.in-Core1.is (is_added Core1 c.args.byte c.in_default.ensures c.in_default-arithmetic_32.ensures c.in_default-arithmetic_64.ensures
    c.in_default-conversion.ensures)

pub returns-in-SignExtension : goal.returns-in-SignExtension
returns-in-SignExtension c =
    rw c.in-SignExtension.is (c.sign_extension.ensures ∙ is_added SignExtension c.args.byte c.in_default.ensures c.in_default-arithmetic_32.ensures
    c.in_default-arithmetic_64.ensures c.in_default-conversion.ensures)
