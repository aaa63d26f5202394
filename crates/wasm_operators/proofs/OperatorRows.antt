-- An operator is found in the table of its group.
use Rattle.std.proofs.Common.{◌≡◌, ℕ, ◌++◌, Some, None, ◌∙◌}
use Rattle.std.specs.Prelude.{option_map}
use Rattle.wasm_profile.specs.declared.profile.Profile.{Profile}
use Rattle.grammar.specs.Table.{row_at}
use Rattle.wasm_ast.specs.Code.{Code}
use Rattle.wasm_operators.specs.Operators.{alone, comparison_rows, arithmetic_32_rows, arithmetic_64_rows, conversion_rows, added_rows, operator_rows}
use Rattle.wasm_operators.proofs.Rows.{in_first, in_others}

module _ (profile : Profile) (b : ℕ) where
  pub is_comparison : (c : Code) → Some c ≡ option_map alone (row_at comparison_rows b) →
      Some c ≡ option_map alone (row_at (operator_rows profile) b)
  unfolding operator_rows
  is_comparison c h =
      in_first alone comparison_rows (arithmetic_32_rows ++ (arithmetic_64_rows ++ (conversion_rows ++ added_rows profile))) b c h

  pub no_comparison : None ≡ option_map alone (row_at comparison_rows b) →
      option_map alone (row_at (arithmetic_32_rows ++ (arithmetic_64_rows ++ (conversion_rows ++ added_rows profile))) b)
      ≡ option_map alone (row_at (operator_rows profile) b)
  unfolding operator_rows
  no_comparison h =
      in_others alone comparison_rows (arithmetic_32_rows ++ (arithmetic_64_rows ++ (conversion_rows ++ added_rows profile))) b h

  pub is_of_32 : (c : Code) → None ≡ option_map alone (row_at comparison_rows b) → Some c ≡ option_map alone (row_at arithmetic_32_rows b) →
      Some c ≡ option_map alone (row_at (operator_rows profile) b)
  is_of_32 c first h =
      in_first alone arithmetic_32_rows (arithmetic_64_rows ++ (conversion_rows ++ added_rows profile)) b c h ∙ no_comparison first

  pub none_of_32 : None ≡ option_map alone (row_at comparison_rows b) → None ≡ option_map alone (row_at arithmetic_32_rows b) →
      option_map alone (row_at (arithmetic_64_rows ++ (conversion_rows ++ added_rows profile)) b)
      ≡ option_map alone (row_at (operator_rows profile) b)
  none_of_32 first h =
      in_others alone arithmetic_32_rows (arithmetic_64_rows ++ (conversion_rows ++ added_rows profile)) b h ∙ no_comparison first

  pub is_of_64 : (c : Code) → None ≡ option_map alone (row_at comparison_rows b) → None ≡ option_map alone (row_at arithmetic_32_rows b) →
      Some c ≡ option_map alone (row_at arithmetic_64_rows b) → Some c ≡ option_map alone (row_at (operator_rows profile) b)
  is_of_64 c first second h = in_first alone arithmetic_64_rows (conversion_rows ++ added_rows profile) b c h ∙ none_of_32 first second

  pub none_of_64 : None ≡ option_map alone (row_at comparison_rows b) → None ≡ option_map alone (row_at arithmetic_32_rows b) →
      None ≡ option_map alone (row_at arithmetic_64_rows b) →
      option_map alone (row_at (conversion_rows ++ added_rows profile) b) ≡ option_map alone (row_at (operator_rows profile) b)
  none_of_64 first second third = in_others alone arithmetic_64_rows (conversion_rows ++ added_rows profile) b third ∙ none_of_32 first second

  pub is_conversion : (c : Code) → None ≡ option_map alone (row_at comparison_rows b) → None ≡ option_map alone (row_at arithmetic_32_rows b) →
      None ≡ option_map alone (row_at arithmetic_64_rows b) → Some c ≡ option_map alone (row_at conversion_rows b) →
      Some c ≡ option_map alone (row_at (operator_rows profile) b)
  is_conversion c first second third h = in_first alone conversion_rows (added_rows profile) b c h ∙ none_of_64 first second third

  pub is_added : None ≡ option_map alone (row_at comparison_rows b) → None ≡ option_map alone (row_at arithmetic_32_rows b) →
      None ≡ option_map alone (row_at arithmetic_64_rows b) → None ≡ option_map alone (row_at conversion_rows b) →
      option_map alone (row_at (added_rows profile) b) ≡ option_map alone (row_at (operator_rows profile) b)
  is_added first second third fourth = in_others alone conversion_rows (added_rows profile) b fourth ∙ none_of_64 first second third
