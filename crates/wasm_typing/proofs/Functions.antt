-- A function is typed where its body is accepted, and breaks a rule where it is refused.
use Rattle.std.proofs.Common.{◌≡◌, ◌<◌, ◌+◌, ℕ, List, [], ◌∷◌, ◌++◌, sym, ap, ◌∙◌, subst, Some, None, Result, Ok, Err, length, map, slice_index_or}
use Rattle.std.specs.Prelude.{IsSome, IfErr}
use Rattle.wasm_ast.specs.declared.types.ValueType.{ValueType}
use Rattle.wasm_ast.specs.declared.types.FuncType.{FuncType}
use Rattle.wasm_ast.specs.declared.types.Limits.{Limits}
use Rattle.wasm_ast.specs.declared.module.Func.{Func}
use Rattle.wasm_ast.specs.declared.module.Global.{Global}
use Rattle.wasm_ast.specs.declared.module.Module.{Module}
use Rattle.wasm_ast.specs.Code.{BlockType, Code}
use Rattle.wasm_typing.specs.Operands.{no_operands}
use Rattle.wasm_typing.specs.declared.fault.ValidateFault.{ValidateFault}
use Rattle.wasm_typing.specs.declared.fault.ValidateFault.TheVariants.{Memory, TypeMismatch, Index, ImmutableGlobal, Alignment}
use Rattle.wasm_typing.specs.Typing.{Context, Types, at, results}
use Rattle.wasm_typing.specs.ModuleRules.{imported_functions, type_indices, type_at, function_context, no_type, IsFunction}
use Rattle.wasm_typing.specs.Indices.{AreTypes}
use Rattle.wasm_typing.specs.Algorithm.{whole_body}
use Rattle.wasm_typing.specs.Breaks.{BreaksIn, BreaksNone}
use Rattle.wasm_typing.specs.Mistyped.{Mismatch, Mistyped}
use Rattle.wasm_typing.specs.Refused.{Refused}
use Rattle.wasm_typing.specs.Broken.{Broken, BrokenBody, IsBody, InBody}
use Rattle.wasm_typing.proofs.Lists.{index_is, at_append, at_map}
use Rattle.wasm_typing.proofs.Sound.{accepted_is_typed}
use Rattle.wasm_typing.proofs.Complete.{none_is_untyped}

-- an error of which two facts are known
pub errs_both : {T E : Type 0} (r : Result T E) (P Q R : E → Type 0) → ((e : E) → P e → Q e → R e) → IfErr r P → IfErr r Q → IfErr r R
errs_both (Ok x) P Q R k h g = tt
errs_both (Err e) P Q R k h g = k e h g

-- the context of a function's body, by its parts
abbrev pub inside : List FuncType → List ℕ → (tables memories : List Limits) → List Global → List ValueType → List BlockType → BlockType → Context
inside types functions tables memories globals locals labels left =
    record {
      types = types;
      functions = map (type_at types) functions;
      tables = tables;
      memories = memories;
      globals = map (λ (g : Global). g.global_type) globals;
      locals = locals;
      labels = left ∷ labels;
      result = left;
    }

-- what is known of the parts
pub record Parts (m : Module) (f : Func) (t : FuncType) (types : List FuncType) (functions : List ℕ) (tables memories : List Limits) (globals : List Global)
    (locals : List ValueType) (labels : List BlockType) : Type 0 where
  pub types_are : types ≡ m.types
  pub functions_are : functions ≡ type_indices m
  pub tables_are : tables ≡ m.tables
  pub memories_are : memories ≡ m.memories
  pub globals_are : globals ≡ m.globals
  pub bound : f.type_index < length m.types
  pub type_is : t ≡ slice_index_or types f.type_index t
  pub locals_are : locals ≡ t.params ++ f.locals
  pub no_label : labels ≡ []

module _ (m : Module) (f : Func) (t : FuncType) (types : List FuncType) (functions : List ℕ) (tables memories : List Limits) (globals : List Global)
    (locals : List ValueType) (labels : List BlockType) (p : Parts m f t types functions tables memories globals locals labels) where
  its_type : t ≡ type_at m.types f.type_index
  its_type =
      index_is m.types f.type_index t no_type p.bound (p.type_is ∙ ap (λ ts. slice_index_or ts f.type_index t) p.types_are)

  -- a function's context by its type
  abbrev by_type : FuncType → Context
  by_type t = inside m.types (type_indices m) m.tables m.memories m.globals (t.params ++ f.locals) [] t.result

  context_is : inside types functions tables memories globals locals labels t.result ≡ function_context m f
  context_is =
      ap (λ ts. inside ts functions tables memories globals locals labels t.result) p.types_are ∙
      ap (λ is. inside m.types is tables memories globals locals labels t.result) p.functions_are ∙
      ap (λ ls. inside m.types (type_indices m) ls memories globals locals labels t.result) p.tables_are ∙
      ap (λ ls. inside m.types (type_indices m) m.tables ls globals locals labels t.result) p.memories_are ∙
      ap (λ gs. inside m.types (type_indices m) m.tables m.memories gs locals labels t.result) p.globals_are ∙
      ap (λ ls. inside m.types (type_indices m) m.tables m.memories m.globals ls labels t.result) p.locals_are ∙
      ap (λ ls. inside m.types (type_indices m) m.tables m.memories m.globals (t.params ++ f.locals) ls t.result) p.no_label ∙ ap by_type its_type

  abbrev context : Context
  context = inside types functions tables memories globals locals labels t.result

  abbrev Whole : Context → BlockType → Type 0
  Whole c l = Types c f.body [] (results l)

  pub function_typed : IsSome (whole_body context t.result f.body) → IsFunction m f
  function_typed h =
      record {
        type = p.bound;
        body = subst (λ (t : FuncType). Whole (function_context m f) t.result) its_type
            (subst (λ c. Whole c t.result) context_is (accepted_is_typed context t.result f.body h));
      }

  -- some instruction breaks the rule of a fault
  broken_body : (e : ValidateFault) → BreaksIn e context f.body → (k : ℕ) → at m.functions k ≡ Some f → BrokenBody e m
  broken_body e r k h =
      record { place = k; function = f; exists = h; breaks = subst (λ c. BreaksIn e c f.body) context_is r }

  -- what the algorithm refuses is no body of the function
  no_body : (code : Code) → whole_body context t.result code ≡ None → ¬ IsBody m f code
  no_body code none typed =
      none_is_untyped context t.result code none
      (subst (λ c. Types c code [] (results t.result)) (sym context_is)
      (subst (λ (t : FuncType). Types (function_context m f) code [] (results t.result)) (sym its_type) typed))

  pub function_broken : (e : ValidateFault) → Refused e (BreaksIn e context f.body) (whole_body context t.result f.body) →
      Mismatch e (Mistyped context t.result f.body no_operands) → (k : ℕ) → at m.functions k ≡ Some f → Broken e m
  function_broken Memory r w k h = tt
  function_broken TypeMismatch r w k h =
      record {
        place = k;
        function = f;
        exists = h;
        untyped = no_body f.body r;
        front = w.0;
        begins = w.1;
        mistyped = no_body w.0 w.2;
        keeps = subst (λ c. BreaksNone c w.0) context_is w.3;
      }
  function_broken Index r w k h = InBody (broken_body Index r k h)
  function_broken ImmutableGlobal r w k h = broken_body ImmutableGlobal r k h
  function_broken Alignment r w k h = broken_body Alignment r k h
  function_broken _ r w k h = absurd r

-- a defined function's type is among those of all functions
pub own_type : (m : Module) (functions : List ℕ) (k : ℕ) (f : Func) → functions ≡ type_indices m → AreTypes functions m.types → at m.functions k ≡ Some f →
    f.type_index < length m.types
own_type m functions k f e known h =
    known (length (imported_functions m.imports) + k) f.type_index
    (ap (λ is. at is (length (imported_functions m.imports) + k)) e ∙
    at_append (imported_functions m.imports) (map (λ (f : Func). f.type_index) m.functions) k f.type_index
    (at_map (λ (f : Func). f.type_index) m.functions k f h))
