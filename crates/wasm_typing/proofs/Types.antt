-- The type of a function, by the index that a list of indices has for it.
use Rattle.std.proofs.Common.{◌≡◌, ◌<◌, ◌≤◌, ℕ, List, sym, ap, ◌∙◌, Some, None, length, map, slice_index_or}
use Rattle.std.specs.Prelude.{option_map}
use Rattle.std.proofs.lemmas.Option.{slice_get-map}
use Rattle.wasm_ast.specs.declared.types.FuncType.{FuncType}
use Rattle.wasm_ast.specs.declared.module.Module.{Module}
use Rattle.wasm_typing.specs.Typing.{at}
use Rattle.wasm_typing.specs.Indices.{AreTypes}
use Rattle.wasm_typing.specs.ModuleRules.{no_type, type_at, type_indices, function_types}
use Rattle.wasm_typing.proofs.Lists.{index_is, at_index, at_map, at_none}

pub type_listed : (types : List FuncType) (functions : List ℕ) (k t : ℕ) (f : FuncType) → AreTypes functions types → at functions k ≡ Some t →
    f ≡ slice_index_or types t f → at (map (type_at types) functions) k ≡ Some f
type_listed types functions k t f known e is =
    at_map (type_at types) functions k t e ∙ ap Some (sym (index_is types t f no_type (known k t e) is))

pub type_unlisted : (types : List FuncType) (functions : List ℕ) (k : ℕ) → at functions k ≡ None → at (map (type_at types) functions) k ≡ None
type_unlisted types functions k e = slice_get-map (type_at types) functions k ∙ ap (option_map (type_at types)) e

-- the same in a module
pub type_found : (m : Module) (functions : List ℕ) (types : List FuncType) (k t : ℕ) (f : FuncType) → functions ≡ type_indices m → AreTypes functions m.types →
    types ≡ m.types → k < length functions → t ≡ slice_index_or functions k t → f ≡ slice_index_or types t f → at (function_types m) k ≡ Some f
type_found m functions types k t f same known listed lt it is =
    ap (λ is. at (map (type_at m.types) is) k) (sym same) ∙
    type_listed m.types functions k t f known (at_index functions k t lt it) (is ∙ ap (λ ts. slice_index_or ts t f) listed)

pub type_missing : (m : Module) (functions : List ℕ) (k : ℕ) → functions ≡ type_indices m → length functions ≤ k → at (function_types m) k ≡ None
type_missing m functions k same le =
    ap (λ is. at (map (type_at m.types) is) k) (sym same) ∙ type_unlisted m.types functions k (at_none functions k le)
