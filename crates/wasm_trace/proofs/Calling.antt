-- A call of a function of the module, whose arguments lie on top of the vector of values.
use Rattle.std.proofs.Common.{◌≡◌, ℕ, zero, suc, ◌+◌, ◌-◌, ◌<◌, ◌≤◌, Bool, true, false, cond, List, [], ◌∷◌, ◌++◌, length, map, reverse, take, drop, refl, sym}
use Rattle.std.proofs.Common.{ap, ◌∙◌, subst, arith}
use Rattle.std.specs.Prelude.{Some, None, nat_lt, slice_get, option_map, get_or}
use Rattle.std.proofs.lemmas.Option.{slice_get-map}
use Rattle.std.proofs.lemmas.Bool.Decides.{nat_tests}
use Rattle.std.proofs.lemmas.List.{reverse-reverse, take-append-drop}
use Rattle.std.proofs.Math.Seq.{take-append_seam, drop-append_seam}
use Rattle.wasm_ast.specs.declared.body.Instr.{Instr}
use Rattle.wasm_ast.specs.declared.types.FuncType.{FuncType}
use Rattle.wasm_ast.specs.declared.module.Func.{Func}
use Rattle.wasm_ast.specs.declared.module.Module.{Module}
use Rattle.wasm_ast.specs.declared.trap.Trap.TheVariants as trap
use Rattle.wasm_ast.specs.View.{code_of}
use Rattle.wasm_ast.specs.declared.host_call.HostCall.{HostCall}
use Rattle.wasm_ast.specs.declared.host_call.HostAnswer.TheVariants as answer
use Rattle.wasm_typing.specs.HostCalls.{host_calls, call_type}
use Rattle.wasm_typing.specs.ModuleRules.{IsValid, no_type, invoke_of}
use Rattle.wasm_meaning.specs.Program.{function_of, program_of, fresh_world}
use Rattle.wasm_meaning.specs.Meaning.{greatest_depth, with_some, call_function, meaning}
use Rattle.wasm_meaning.specs.Fine.{IsEnding}
use Rattle.wasm_meaning.specs.Laws.NeverStuck.{invocation_ends}
use Rattle.interp.specs.Settings.{type_in}
use Rattle.wasm_meaning.specs.Values.{Val, World, Answer, Answering, Program, Function, zeros}
use Rattle.wasm_trace.specs.declared.parts.Value.{Value}
use Rattle.wasm_trace.specs.Reduction.{Seq, Nil, FreeBlock, Frame, Traps, values, conf, at, Step, To, Stuck, with_last, invoke_step}
use Rattle.wasm_trace.specs.Context.{Layer, InFrame, wrap, plug}
use Rattle.wasm_trace.specs.declared.parts.Level.{Level}
use Rattle.wasm_trace.specs.View.{vals, stack_of, layer_of, layers, out_of}
use Rattle.wasm_trace.specs.Ending.{IsStuck}
use Rattle.wasm_trace.specs.Calls.{own}
use Rattle.wasm_trace.proofs.Stepping.{stack_append, length_stack, layers_snoc, out_to, bad}

length_append : {A : Type 0} (xs ys : List A) → length (xs ++ ys) ≡ length xs + length ys
length_append [] ys = omega arith
length_append (x ∷ xs) ys = let h = length_append xs ys in omega (arith, h)

pub length_drop : {A : Type 0} (k : ℕ) (xs : List A) → length (drop k xs) ≡ length xs - k
length_drop zero xs = omega arith
length_drop (suc k) [] = omega arith
length_drop (suc k) (x ∷ xs) = let h = length_drop k xs in omega (arith, h)

take_all : {A : Type 0} (n : ℕ) (xs : List A) → length xs ≤ n → take n xs ≡ xs
take_all zero [] h = refl
take_all zero (x ∷ xs) h = absurd (omega (arith, h))
take_all (suc n) [] h = refl
take_all (suc n) (x ∷ xs) h = ap (λ ys. x ∷ ys) (take_all n xs (omega (arith, h)))

-- what a slice from a place on is
pub rest_all : {A : Type 0} (k : ℕ) (xs : List A) → take (length xs - k) (drop k xs) ≡ drop k xs
rest_all k xs = let h = length_drop k xs in take_all (length xs - k) (drop k xs) (omega (arith, h))

module _ {R : Type 0} where
  -- the n last values are these
  pub with_args : (n : ℕ) (vs below args : List Value) (g : List Val → List Val → Step R) → vs ≡ below ++ args → length args ≡ n →
      with_last n (stack_of vs) g ≡ g (vals args) (stack_of below)
  with_args n vs below args g e q =
      ap (λ s. with_last n s g) (ap stack_of e ∙ stack_append below args) ∙
      ap (λ n. with_last n (stack_of args ++ stack_of below) g) (sym q ∙ sym (length_stack args)) ∙
      there (nat_lt (length (stack_of args ++ stack_of below)) (length (stack_of args))) refl
    where
      there : (b : Bool) → nat_lt (length (stack_of args ++ stack_of below)) (length (stack_of args)) ≡ b →
          cond b Stuck (g (reverse (take (length (stack_of args)) (stack_of args ++ stack_of below)))
          (drop (length (stack_of args)) (stack_of args ++ stack_of below))) ≡ g (vals args) (stack_of below)
      there true h = let k : length (stack_of args ++ stack_of below) < length (stack_of args) =
          grind (arith, nat_tests) in absurd (omega (arith, k, length_append (stack_of args) (stack_of below)))
      there false h = ap (λ s. g (reverse s) (drop (length (stack_of args)) (stack_of args ++ stack_of below)))
          (take-append_seam (stack_of args) (stack_of below)) ∙ ap (λ s. g (reverse (stack_of args)) s) (drop-append_seam (stack_of args) (stack_of below)) ∙
          ap (λ s. g s (stack_of below)) (reverse-reverse (vals args))

  pub lacks_args : (n : ℕ) (vs : List Value) (g : List Val → List Val → Step R) → length vs < n → with_last n (stack_of vs) g ≡ Stuck
  lacks_args n vs g lt = go (nat_lt (length (stack_of vs)) n) refl
    where
      go : (b : Bool) → nat_lt (length (stack_of vs)) n ≡ b → cond b Stuck (g (reverse (take n (stack_of vs))) (drop n (stack_of vs))) ≡ Stuck
      go true h = refl
      go false h = let k : n ≤ length (stack_of vs) = grind (arith, nat_tests) in absurd (omega (arith, k, lt, length_stack vs))

  -- the call, by how many values lie below its arguments
  pub calls : (d n lower : ℕ) (fn : Function) (vs : List Value) (f : ℕ) (l : List Val) (w : World R) (i : Seq) → n ≡ length fn.type.params → n ≤ length vs →
      lower ≡ length vs - n →
      invoke_step d fn f l w (stack_of vs) i ≡
      cond (nat_lt d greatest_depth)
      (at f l w (stack_of (take lower vs)) (Frame fn.type.result (vals (drop lower vs) ++ zeros fn.locals) (FreeBlock fn.type.result fn.body Nil) i))
      (at f l w (stack_of (take lower vs)) (Traps trap.CallDepth i))
  calls d n lower fn vs f l w i q le e =
      ap (λ n. with_last n (stack_of vs) go) (sym q) ∙
      with_args n vs (take lower vs) (drop lower vs) go (sym (take-append-drop lower vs)) (let h = length_drop lower vs in omega (arith, h, le, e))
    where
      go : List Val → List Val → Step R
      go args s = cond (nat_lt d greatest_depth) (at f l w s (Frame fn.type.result (args ++ zeros fn.locals) (FreeBlock fn.type.result fn.body Nil) i))
          (at f l w s (Traps trap.CallDepth i))

  pub too_deep : (ks : List Layer) (d n lower : ℕ) (fn : Function) (vs stack : List Value) (f : ℕ) (l : List Val) (w : World R) (i : Seq) →
      n ≡ length fn.type.params → n ≤ length vs → lower ≡ length vs - n → greatest_depth ≤ d → stack ≡ take lower vs →
      out_of ks f l w (invoke_step d fn f l w (stack_of vs) i) ≡ To (plug ks (conf f l w (values (stack_of stack) (Traps trap.CallDepth i))))
  too_deep ks d n lower fn vs stack f l w i q le e deep h =
      ap (out_of ks f l w) (calls d n lower fn vs f l w i q le e ∙ not_less (nat_lt d greatest_depth) refl) ∙
      out_to ks f l w (conf f l w (values (stack_of (take lower vs)) (Traps trap.CallDepth i))) ∙
      ap (λ stack. To (plug ks (conf f l w (values (stack_of stack) (Traps trap.CallDepth i))))) (sym h)
    where
      not_less : (b : Bool) → nat_lt d greatest_depth ≡ b →
          cond b (at f l w (stack_of (take lower vs)) (Frame fn.type.result (vals (drop lower vs) ++ zeros fn.locals) (FreeBlock fn.type.result fn.body Nil) i))
          (at f l w (stack_of (take lower vs)) (Traps trap.CallDepth i)) ≡ at f l w (stack_of (take lower vs)) (Traps trap.CallDepth i)
      not_less true z = let k : d < greatest_depth = grind (arith, nat_tests) in absurd (omega (arith, k, deep))
      not_less false z = refl

  pub framed : (ms ls : List Level) (m : Level) (d n lower : ℕ) (fn : Function) (vs stack inner : List Value) (body : List Instr) (f : ℕ) (l : List Val)
      (w : World R) (i : Seq) → n ≡ length fn.type.params → n ≤ length vs → lower ≡ length vs - n → d < greatest_depth → ls ≡ ms ++ m ∷ [] →
      layer_of m ≡ InFrame fn.type.result l (stack_of (take lower vs)) i → stack ≡ [] → vals inner ≡ vals (drop lower vs) ++ zeros fn.locals →
      code_of body ≡ fn.body →
      out_of (layers ms) f l w (invoke_step d fn f l w (stack_of vs) i) ≡
      To (plug (layers ls) (conf f (vals inner) w (values (stack_of stack) (FreeBlock fn.type.result (code_of body) Nil))))
  framed ms ls m d n lower fn vs stack inner body f l w i q le e deep push layer empty args code =
      ap (out_of (layers ms) f l w) (calls d n lower fn vs f l w i q le e ∙ less (nat_lt d greatest_depth) refl) ∙
      out_to (layers ms) f l w
      (wrap (InFrame fn.type.result l (stack_of (take lower vs)) i)
      (conf f (vals (drop lower vs) ++ zeros fn.locals) w (FreeBlock fn.type.result fn.body Nil))) ∙
      ap (λ ks. To (plug ks (conf f (vals (drop lower vs) ++ zeros fn.locals) w (FreeBlock fn.type.result fn.body Nil))))
      (sym (layers_snoc ls ms m (InFrame fn.type.result l (stack_of (take lower vs)) i) push layer)) ∙
      ap (λ a. To (plug (layers ls) (conf f a w (FreeBlock fn.type.result fn.body Nil)))) (sym args) ∙
      ap (λ b. To (plug (layers ls) (conf f (vals inner) w (FreeBlock fn.type.result b Nil)))) (sym code) ∙
      ap (λ s. To (plug (layers ls) (conf f (vals inner) w (values (stack_of s) (FreeBlock fn.type.result (code_of body) Nil))))) (sym empty)
    where
      less : (b : Bool) → nat_lt d greatest_depth ≡ b →
          cond b (at f l w (stack_of (take lower vs)) (Frame fn.type.result (vals (drop lower vs) ++ zeros fn.locals) (FreeBlock fn.type.result fn.body Nil) i))
          (at f l w (stack_of (take lower vs)) (Traps trap.CallDepth i)) ≡
          at f l w (stack_of (take lower vs)) (Frame fn.type.result (vals (drop lower vs) ++ zeros fn.locals) (FreeBlock fn.type.result fn.body Nil) i)
      less true z = refl
      less false z = let k : greatest_depth ≤ d = grind (arith, nat_tests) in absurd (omega (arith, k, deep))

  pub too_few : (ks : List Layer) (d : ℕ) (fn : Function) (vs : List Value) (f : ℕ) (l : List Val) (w : World R) (i : Seq) → length vs < length fn.type.params →
      IsStuck (out_of ks f l w (invoke_step d fn f l w (stack_of vs) i))
  too_few ks d fn vs f l w i lt =
      bad ks f l w (out_of ks f l w (invoke_step d fn f l w (stack_of vs) i))
      (ap (out_of ks f l w)
      (lacks_args (length fn.type.params) vs
      (λ args s. cond (nat_lt d greatest_depth) (at f l w s (Frame fn.type.result (args ++ zeros fn.locals) (FreeBlock fn.type.result fn.body Nil) i))
      (at f l w s (Traps trap.CallDepth i))) lt))

-- ---- functions of the module's own

get_or_any : {A : Type 0} (xs : List A) (i : ℕ) (a b : A) → i < length xs → get_or xs i a ≡ get_or xs i b
get_or_any [] i a b h = absurd (omega arith)
get_or_any (x ∷ xs) zero a b h = refl
get_or_any (x ∷ xs) (suc i) a b h = get_or_any xs i a b (omega arith)

-- what is read is the function
pub own_is : (m : Module) (k : ℕ) (f : Func) (t : FuncType) → IsValid m → slice_get m.functions k ≡ Some f → t ≡ get_or m.types f.type_index t →
    Some (own t f) ≡ slice_get (map (function_of m.types) m.functions) k
own_is m k f t valid e read =
    ap (λ t. Some (own t f)) (read ∙ get_or_any m.types f.type_index t no_type (valid.functions k f e).type) ∙
    sym (slice_get-map (function_of m.types) m.functions k ∙ ap (option_map (function_of m.types)) e)

pub own_none : (m : Module) (k : ℕ) → slice_get m.functions k ≡ None → None ≡ slice_get (map (function_of m.types) m.functions) k
own_none m k e =
    sym (slice_get-map (function_of m.types) m.functions k ∙ ap (option_map (function_of m.types)) e)

-- ---- functions by their indices

-- the type of an imported function
pub import_type : (m : Module) (k : ℕ) (which : HostCall) → k < length (host_calls m.imports) → slice_get (host_calls m.imports) k ≡ Some which →
    type_in m k ≡ Some (call_type which)
import_type m k which lt e =
    let h : nat_lt k (length (host_calls m.imports)) ≡ true = grind (arith, nat_tests) in
    ap (λ b. cond b (option_map call_type (slice_get (host_calls m.imports) k))
    (option_map (λ (fn : Function). fn.type) (slice_get (map (function_of m.types) m.functions) (k - length (host_calls m.imports))))) h ∙
    ap (option_map call_type) e

-- `invoke` is a function of the module's own
pub invoke_there : (m : Module) (k : ℕ) → IsValid m → invoke_of m ≡ Some k →
    None ≡ slice_get (map (function_of m.types) m.functions) (k - length (host_calls m.imports)) → ⊥
invoke_there m k v e h =
    let own = map (function_of m.types) m.functions in
    let w : World (Unit {0}) = fresh_world m (tt {0}) in
    let p : Program (Unit {0}) = program_of m silent in
    let go : Function → Answer (Unit {0}) = λ fn. call_function (meaning p) 0 fn 0 [] [] w in
    let ends = invocation_ends m silent (tt {0}) 0 v in
    subst (λ o. IsEnding (with_some o go)) (sym h)
    (subst (λ o. IsEnding (with_some o (λ k. with_some (slice_get own (k - length (host_calls m.imports))) go))) e ends)
  where
    silent : Answering (Unit {0})
    silent which args memory records = record { answer = answer.OutOfBounds; memory = memory; records = records }
