-- The module that is read is the one that the bytes spell.
use Rattle.std.proofs.Common.{◌≡◌, ℕ, ◌≤◌, List, ◌++◌, length, map, Some, Result, Ok, Err, refl, sym, ap, subst, ◌∙◌}
use Rattle.std.specs.Prelude.{IfOk}
use Rattle.std.proofs.lemmas.Option.{same_Some}
use Rattle.std.proofs.lemmas.List.{length-map}
use Rattle.wasm_profile.specs.declared.profile.Profile.{Profile}
use Rattle.wasm_ast.specs.declared.module.Func.{Func}
use Rattle.wasm_ast.specs.declared.module.Module.{Module}
use Rattle.wasm_decode.specs.declared.fault.DecodeFault.{DecodeFault}
use Rattle.wasm_decode.specs.declared.sections.Parts.{Parts}
use Rattle.wasm_decode.specs.Parses.{Makes}
use Rattle.wasm_decode.specs.PartsOf.{no_parts}
use Rattle.wasm_decode.specs.ModuleSpelling.{IsSections, IsModule}
use Rattle.wasm_decode.specs.ModuleReading.{module_at}
use Rattle.grammar.specs.Spelling.{Repeats}
use Rattle.wasm_decode.proofs.Built.{IsOne, IsBuilt}
use Rattle.wasm_decode.proofs.Order.{in_order, all_built}
use Rattle.wasm_decode.proofs.Sequence.{in_sections, from_sections}
use Rattle.wasm_decode.proofs.ModuleLaws.{module_built, module_read}

module _ (profile : Profile) where
  spelled : (bytes : List ℕ) (m : Module) → length bytes ≤ 262144 → IsBuilt profile m bytes → IsModule profile m bytes
  spelled bytes m le h =
      let end : Parts = record { type_indices = h.type_indices; «module» = m } in
      let tail = in_order profile h.sections 0 no_parts end h.text h.spelled h.builds in
      let parts = in_sections profile end tail.back tail.rest in
      let sections = subst (λ (is : List ℕ). IsSections profile is m tail.back) (parts.types h.counted) parts.spelled in
      let f = h.split in
      (le, (f.0, h.text, f.2, (tail.front, tail.back, tail.custom, sections, tail.split), f.4 ∙ ap (λ (x : List ℕ). f.0 ++ x) f.3))

  built : (bytes : List ℕ) (m : Module) → IsModule profile m bytes → IsBuilt profile m bytes
  built bytes m h =
      let f = h.1 in
      let c = f.3 in
      let end : Parts = record { type_indices = map (λ f. f.type_index) m.functions; «module» = m } in
      let made = all_built profile no_parts end c.0 c.1 c.2 (from_sections profile m c.1 c.3) in
      record {
        sections = made.sections;
        type_indices = map (λ f. f.type_index) m.functions;
        text = f.1;
        split = (f.0, f.1, f.2, refl, f.4);
        spelled = subst (λ (x : List ℕ). Repeats IsOne made.sections x) (sym c.4) made.spelled;
        builds = made.builds;
        counted = length-map m.functions (λ (f : Func). f.type_index);
      }

  pub module_takes : (bytes : List ℕ) (m : Module) → module_at profile bytes ≡ Some m → IsModule profile m bytes
  module_takes bytes m e = let b = module_built profile bytes m e in spelled bytes m b.0 b.1

  pub module_again : (bytes : List ℕ) (m : Module) → IsModule profile m bytes → module_at profile bytes ≡ Some m
  module_again bytes m h = module_read profile bytes m h.0 (built bytes m h)

  pub is_found : (bytes : List ℕ) (r : Result Module DecodeFault) → Makes (λ m. m) r (module_at profile bytes) → IfOk r (λ m. IsModule profile m bytes)
  is_found bytes (Ok m) h = module_takes bytes m h
  is_found bytes (Err e) h = tt

  pub at_most_one : (bytes : List ℕ) (a b : Module) → IsModule profile a bytes → IsModule profile b bytes → a ≡ b
  at_most_one bytes a b h k = same_Some a b (sym (module_again bytes a h) ∙ module_again bytes b k)
