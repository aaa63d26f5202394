-- What the parts of a module have, by their lists.
use Rattle.std.proofs.Common.{◌≡◌, ◌≢◌, ◌<◌, ◌≤◌, ◌+◌, inl, inr, ℕ, zero, suc, List, [], ◌∷◌, ◌++◌, refl, sym, ap, ◌∙◌, Option, Some, None, length, map, drop}
use Rattle.std.proofs.Common.{append_assoc, slice_index_or, arith}
use Rattle.wasm_ast.specs.declared.types.FuncType.{FuncType}
use Rattle.wasm_ast.specs.declared.types.Limits.{Limits}
use Rattle.wasm_ast.specs.declared.types.ValueType.TheVariants.{I32}
use Rattle.wasm_ast.specs.declared.host_call.HostCall.{HostCall}
use Rattle.wasm_ast.specs.declared.module.ImportKind.{ImportKind}
use Rattle.wasm_ast.specs.declared.module.ImportKind.TheVariants as kind
use Rattle.wasm_ast.specs.declared.module.Import.{Import}
use Rattle.wasm_ast.specs.declared.module.Func.{Func}
use Rattle.wasm_ast.specs.declared.module.Export.{Export}
use Rattle.wasm_ast.specs.declared.module.Module.{Module}
use Rattle.wasm_ast.specs.Op.{Const}
use Rattle.wasm_ast.specs.Code.{Code, End, Do}
use Rattle.wasm_typing.specs.declared.fault.ValidateFault.{ValidateFault}
use Rattle.wasm_typing.specs.declared.fault.ValidateFault.TheVariants as fault
use Rattle.wasm_typing.specs.Typing.{at, results}
use Rattle.wasm_typing.specs.ModuleRules.{imported_functions, type_indices, type_at, function_context, IsValidImport, IsValid}
use Rattle.wasm_typing.specs.Indices.{AreTypes}
use Rattle.wasm_typing.specs.HostCalls.{call_type, call_named, then_call, host_calls}
use Rattle.wasm_typing.specs.Broken.{Broken, BrokenBody, MissingIndex, ImportType, FunctionType, Exported, ElementTable, ElementFunction, InBody, DataMemory}
use Rattle.wasm_typing.specs.Broken.{BadLimits, NotConstant, PassesEnd}
use Rattle.wasm_typing.specs.Broken as broken
use Rattle.wasm_typing.proofs.Lists.{at_below, at_either, at_map_back, next_item}
use Rattle.wasm_typing.proofs.Untyped.{broken_is_untyped}

pub none_some : {A : Type 0} (o : Option A) (a : A) → o ≡ None → o ≡ Some a → ⊥
none_some o a e h = cc

pub some_same : {A : Type 0} (o : Option A) (a b : A) → o ≡ Some a → o ≡ Some b → a ≡ b
some_same o a b e h = cc

same_type_index : (k : ImportKind) (t u : ℕ) → k ≡ kind.Function t → k ≡ kind.Function u → t ≡ u
same_type_index k t u e h = cc

same_word : (c : Code) (n o : ℕ) → c ≡ Do (Const I32 n) End → c ≡ Do (Const I32 o) End → n ≡ o
same_word c n o e h = cc

-- an import has the type of the call that its name is
pub import_type : (types : List FuncType) (i : Import) (t : ℕ) (call : HostCall) (f : FuncType) → i.kind ≡ kind.Function t → at types t ≡ Some f →
    call_named i.name ≡ Some call → IsValidImport types i → f ≡ call_type call
import_type types i t call f d e n v =
    let same : t ≡ v.type_index = same_type_index i.kind t v.type_index d v.function in
    some_same (at types t) f (call_type v.call) e (ap (at types) same ∙ v.type) ∙ ap call_type (some_same (call_named i.name) v.call call v.name n)

-- one call more, and the imports after it
pub calls_next : (items xs : List Import) (k : ℕ) (i : Import) (call : HostCall) (done : List HostCall) → items ≡ xs → k < length items →
    i ≡ slice_index_or items k i → call_named i.name ≡ Some call → (done ++ (call ∷ [])) ++ host_calls (drop (k + 1) xs) ≡ done ++ host_calls (drop k xs)
calls_next items xs k i call done same lt e n =
    append_assoc done (call ∷ []) (host_calls (drop (k + 1) xs)) ∙
    ap (λ cs. done ++ cs) (sym (ap host_calls (next_item items xs k i same lt e) ∙ ap (λ o. then_call o (host_calls (drop (k + 1) xs))) n))

-- the index of one imported function more, and the imports after it
pub indices_next : (items xs : List Import) (k : ℕ) (i : Import) (t : ℕ) (done : List ℕ) → items ≡ xs → k < length items → i ≡ slice_index_or items k i →
    i.kind ≡ kind.Function t → (done ++ (t ∷ [])) ++ imported_functions (drop (k + 1) xs) ≡ done ++ imported_functions (drop k xs)
indices_next items xs k i t done same lt e d =
    let rest = imported_functions (drop (k + 1) xs) in
    append_assoc done (t ∷ []) rest ∙
    ap (λ is. done ++ is)
    (sym (ap imported_functions (next_item items xs k i same lt e) ∙ ap (λ d. elim d [ kind.Function t ↦ t ∷ rest | _ ↦ rest ]) d))

-- an import of something else is passed over
pub indices_skip : (items xs : List Import) (k : ℕ) (i : Import) → items ≡ xs → k < length items → i ≡ slice_index_or items k i →
    ((t : ℕ) → i.kind ≡ kind.Function t → ⊥) → imported_functions (drop (k + 1) xs) ≡ imported_functions (drop k xs)
indices_skip items xs k i same lt e none =
    sym (ap imported_functions (next_item items xs k i same lt e) ∙ passed_over (drop (k + 1) xs))
  where
    passed_over : (is : List Import) → imported_functions (i ∷ is) ≡ imported_functions is
    passed_over is =
        elim i.kind as (λ d. i.kind ≡ d → elim d [ kind.Function t ↦ t ∷ imported_functions is | _ ↦ imported_functions is ] ≡ imported_functions is)
        [ kind.Function t ↦ λ e. absurd (none t e) | _ ↦ λ e. refl ] refl

-- some import is of a function of the type at t
abbrev HasImport : List Import → ℕ → Type 0
HasImport is t = (j : ℕ) × (i : Import) × (at is j ≡ Some i) × (i.kind ≡ kind.Function t)

later : (i : Import) (is : List Import) (t : ℕ) → HasImport is t → HasImport (i ∷ is) t
later i is t r = (suc r.0, r.1, r.2, r.3)

first_or_later : (i : Import) (is : List Import) (k t u : ℕ) → i.kind ≡ kind.Function u → at (u ∷ imported_functions is) k ≡ Some t →
    ((k : ℕ) → at (imported_functions is) k ≡ Some t → HasImport is t) → HasImport (i ∷ is) t
first_or_later i is zero t u d h has = (0, i, refl, d ∙ ap kind.Function (some_same (Some u) u t refl h))
first_or_later i is (suc k) t u d h has = later i is t (has k h)

-- each type index of an imported function is that of an import
imported_has : (is : List Import) (k t : ℕ) → at (imported_functions is) k ≡ Some t → HasImport is t
imported_has [] k t e = absurd (none_some (at (imported_functions []) k) t refl e)
imported_has (i ∷ is) k t e =
    elim i.kind as (λ d. i.kind ≡ d → at (elim d [ kind.Function t ↦ t ∷ imported_functions is | _ ↦ imported_functions is ]) k ≡ Some t → HasImport (i ∷ is) t)
    [ kind.Function u ↦ λ d h. first_or_later i is k t u d h (λ k h. imported_has is k t h) | _ ↦ λ d h. later i is t (imported_has is k t h) ] refl e

-- where imports are host calls and functions have types, each function has a type
pub known_types : (m : Module) → ((k : ℕ) → (i : Import) → at m.imports k ≡ Some i → IsValidImport m.types i) →
    ((k : ℕ) → (f : Func) → at m.functions k ≡ Some f → f.type_index < length m.types) → AreTypes (type_indices m) m.types
known_types m imports functions k t e =
    elim (at_either (imported_functions m.imports) (map (λ (f : Func). f.type_index) m.functions) k t e) [ inl h ↦ of_import h | inr h ↦ of_function h.0 h.1 ]
  where
    of_import : at (imported_functions m.imports) k ≡ Some t → t < length m.types
    of_import h =
        let r = imported_has m.imports k t h in
        let i = imports r.0 r.1 r.2 in
        let same : t ≡ i.type_index = same_type_index r.1.kind t i.type_index r.3 i.function in
        omega (arith, at_below m.types i.type_index _ i.type)

    of_function : (j : ℕ) → at (map (λ (f : Func). f.type_index) m.functions) j ≡ Some t → t < length m.types
    of_function j h =
        let r = at_map_back (λ (f : Func). f.type_index) m.functions j t h in omega (arith, functions j r.0 r.1, r.2)

-- where no two exports have one name, names tell exports apart
pub names_apart : (es : List Export) (n : ℕ) → length es ≤ n →
    ((j : ℕ) → (k : ℕ) → (d : Export) → (e : Export) → k < n → at es j ≡ Some d → at es k ≡ Some e → d.name ≡ e.name → j < k → ⊥) → (j : ℕ) → (k : ℕ) →
    (d : Export) → (e : Export) → at es j ≡ Some d → at es k ≡ Some e → d.name ≡ e.name → j ≡ k
names_apart es n le apart j k d e hj hk same =
    let lower : j < k → ⊥ = apart j k d e (omega (arith, at_below es k e hk)) hj hk same in
    let upper : k < j → ⊥ = apart k j e d (omega (arith, at_below es j d hj)) hk hj (sym same) in
    omega arith

below_some : (ts : List FuncType) (i : ℕ) → i < length ts → at ts i ≡ None → ⊥
below_some [] i lt e = omega arith
below_some (t ∷ ts) zero lt e = none_some (at (t ∷ ts) 0) t e refl
below_some (t ∷ ts) (suc i) lt e = below_some ts i (omega arith) e

body_is_valid : (e : ValidateFault) (m : Module) → BrokenBody e m → IsValid m → ⊥
body_is_valid e m b v =
    let f = b.function in
    broken_is_untyped e (function_context m f) f.body [] (results (type_at m.types f.type_index).result) b.breaks (v.functions b.place f b.exists).body

index_is_valid : (m : Module) → MissingIndex m → IsValid m → ⊥
index_is_valid m (ImportType k i t h d none) v =
    let r = v.imports k i h in
    none_some (at m.types t) _ none (ap (at m.types) (same_type_index i.kind t r.type_index d r.function) ∙ r.type)
index_is_valid m (FunctionType k f h none) v =
    let r = v.functions k f h in below_some m.types f.type_index r.type none
index_is_valid m (Exported k e h le) v = omega (arith, v.exports k e h)
index_is_valid m (ElementTable k e h none) v =
    let r = v.elements k e h in none_some (at m.tables e.table) r.table none r.exists
index_is_valid m (ElementFunction k e j f h g le) v = omega (arith, (v.elements k e h).functions j f g)
index_is_valid m (InBody b) v = body_is_valid fault.Index m b v
index_is_valid m (DataMemory k d h none) v =
    let r = v.segments k d h in none_some (at m.memories d.memory) r.memory none r.exists

limits_are_valid : (m : Module) → BadLimits m → IsValid m → ⊥
limits_are_valid m (broken.Tables many) v = omega (arith, v.one_table)
limits_are_valid m (broken.Table k l h n) v = n (v.tables k l h)
limits_are_valid m (broken.Memories many) v = omega (arith, v.one_memory)
limits_are_valid m (broken.Memory k l h n) v = n (v.memories k l h)

constants_are_valid : (m : Module) → NotConstant m → IsValid m → ⊥
constants_are_valid m (broken.GlobalValue k g h n) v = let r = v.globals k g h in n r.word r.constant
constants_are_valid m (broken.ElementPlace k e h n) v = let r = v.elements k e h in n r.offset r.constant
constants_are_valid m (broken.DataPlace k d h n) v = let r = v.segments k d h in n r.offset r.constant

segments_are_valid : (m : Module) → PassesEnd m → IsValid m → ⊥
segments_are_valid m (broken.ElementsPass k e l n h exists constant over) v =
    let r = v.elements k e h in
    let table : r.table ≡ l = some_same (at m.tables e.table) r.table l r.exists exists in
    let least : r.table.least ≡ l.least = ap (λ (l : Limits). l.least) table in
    let offset : r.offset ≡ n = same_word e.offset r.offset n r.constant constant in
    omega (arith, r.within, over)
segments_are_valid m (broken.DataPasses k d l n h exists constant over) v =
    let r = v.segments k d h in
    let memory : r.memory ≡ l = some_same (at m.memories d.memory) r.memory l r.exists exists in
    let least : r.memory.least ≡ l.least = ap (λ (l : Limits). l.least) memory in
    let offset : r.offset ≡ n = same_word d.offset r.offset n r.constant constant in
    omega (arith, r.within, over)

-- what is broken is not valid
pub broken_is_invalid : (e : ValidateFault) (m : Module) → Broken e m → e ≢ fault.Memory → ¬ IsValid m
broken_is_invalid fault.Memory m b n v = n refl
broken_is_invalid fault.TypeMismatch m b n v = b.untyped (v.functions b.place b.function b.exists).body
broken_is_invalid fault.Index m b n v = index_is_valid m b v
broken_is_invalid fault.ImmutableGlobal m b n v = body_is_valid fault.ImmutableGlobal m b v
broken_is_invalid fault.Alignment m b n v = body_is_valid fault.Alignment m b v
broken_is_invalid fault.DuplicateExport m b n v = b.7 (v.names b.0 b.1 b.2 b.3 b.4 b.5 b.6)
broken_is_invalid fault.Import m b n v = b.3 (v.imports b.0 b.1 b.2)
broken_is_invalid fault.NoInvoke m b n v = b v.entry v.invokes v.entry_type
broken_is_invalid fault.Segment m b n v = segments_are_valid m b v
broken_is_invalid fault.Initializer m b n v = constants_are_valid m b v
broken_is_invalid fault.Limits m b n v = limits_are_valid m b v
