-- The branches of a valid module name labels that are there.
use Rattle.std.specs.List.{AllByRecursion}
use Rattle.std.specs.Option.{IsSome}
use Rattle.std.proofs.Common.{◌≡◌, ◌<◌, ◌+◌, ℕ, List, [], ◌∷◌, Option, Some, None, refl, subst, length, slice_get, arith}
use Rattle.std.proofs.lemmas.Option.{slice_get_within}
use Rattle.wasm_ast.specs.declared.types.ValueType.{ValueType}
use Rattle.wasm_ast.specs.declared.module.Func.{Func}
use Rattle.wasm_ast.specs.declared.module.Module.{Module}
use Rattle.wasm_ast.specs.Op.{Op, Unreachable, Br, BrIf, BrTable}
use Rattle.wasm_ast.specs.Code.{BlockType, Code, End, Do, Block, Loop, If}
use Rattle.wasm_translate.specs.WellFormed.{NamesLabels, HasLabels}
use Rattle.wasm_typing.specs.Typing.{Context, EachLabel, TypingRule, Types, under}
use Rattle.wasm_typing.specs.ModuleRules.{IsValid}

each_within : (c : Context) (ns : List ℕ) (l : BlockType) → EachLabel c ns l → AllByRecursion (λ i. i < length c.labels) ns
each_within c [] l h = tt
each_within c (n ∷ ns) l h = (slice_get_within c.labels n l h.0, each_within c ns l h.1)

op_names : (c : Context) (o : Op) (ins outs : List ValueType) → TypingRule c o ins outs → NamesLabels (length c.labels) o
op_names c (Br n) ins outs h = slice_get_within c.labels n h.0 h.1
op_names c (BrIf n) ins outs h = slice_get_within c.labels n h.0 h.1
op_names c (BrTable ns n) ins outs h = (each_within c ns h.0 h.2, slice_get_within c.labels n h.0 h.1)
op_names c Unreachable ins outs h = tt
op_names c _ ins outs h = tt

inside : (c : Context) (l : BlockType) (b : Code) → HasLabels (length (under l c).labels) b → HasLabels (length c.labels + 1) b
inside c l b h = subst (λ n. HasLabels n b) (omega arith) h

has_labels : (c : Context) (code : Code) (from to : List ValueType) → Types c code from to → HasLabels (length c.labels) code
has_labels c End from to h = tt
has_labels c (Do o rest) from to h = (op_names c o h.0 h.1 h.3, has_labels c rest _ to h.5)
has_labels c (Block t b rest) from to h =
    (inside c t b (has_labels (under t c) b [] _ h.0), has_labels c rest _ to h.1)
has_labels c (Loop t b rest) from to h =
    (inside c None b (has_labels (under None c) b [] _ h.0), has_labels c rest _ to h.1)
has_labels c (If t a b rest) from to h =
    (inside c t a (has_labels (under t c) a [] _ h.2), inside c t b (has_labels (under t c) b [] _ h.3), has_labels c rest _ to h.4)

pub well_formed : (m : Module) → IsValid m → (i : ℕ) (f : Func) → slice_get m.functions i ≡ Some f → HasLabels 1 f.body
well_formed m valid i f found = has_labels _ f.body [] _ (valid.functions i f found).body

pub some_unless : {A : Type 0} (o : Option A) (P : Type 0) → (o ≡ None → P → ⊥) → P → IsSome o
some_unless None P none p = absurd (none refl p)
some_unless (Some a) P none p = refl
