use Rattle.std.proofs.Common.{◌≡◌, ◌∙◌, ap, sym, refl, subst, replicate}
use Rattle.std.specs.List.{All}
use Rattle.std.proofs.lemmas.List.Elements.{All-replicate}
use Rattle.wasm_ast.specs.declared.types.ValueType.{ValueType}
use Rattle.wasm_ast.specs.declared.types.ValueType.TheVariants.{I32}
use Rattle.wasm_typing.proofs.Lists.{all_same}
use Rattle.wasm_typing.proofs.host_calls.are_i32.Goals as goal

pub returns-then-types-count : goal.returns-then-types-count
returns-then-types-count c =
    let types = c.args.types.now in (
      λ h. all_same I32 types (c.all_i32.ensures.0 h) ∙
          ap (λ n. replicate n I32) c.if-types-count.true,
      λ e. c.all_i32.ensures.1 (subst (All (λ (t : ValueType). t ≡ I32)) (sym e) (All-replicate (λ (t : ValueType). t ≡ I32) c.args.count I32 refl)),
    )
